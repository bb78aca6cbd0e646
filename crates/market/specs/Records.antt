-- The records of an input, and what a reader of them has left.
use Rattle.std.specs.Prelude.{◌≡◌, ℕ, ◌+◌, Bool, true, false, List, [], ◌∷◌, length, Some}
use Rattle.std.specs.Borrow.{Bor}
use Rattle.csv.specs.Reading.{Ready, reader_trim, reader_config, reader_state, source_of, default_config}
use Rattle.csv.specs.Reading.{records, records_from, strip_bom}
use Rattle.csv.specs.Machine.{ends_at_end}
use Rattle.csv.specs.declared.reader.Reader.{Reader}
use Rattle.csv.specs.declared.reader.Trim.TheVariants as trim

-- the records that csv gives of a text, with no header row, behind a byte order mark if there is one
abbrev pub records_of : List ℕ → List (List (List ℕ))
records_of text = records default_config (strip_bom text)

-- the reader stands before these records, at the end of the one before them
pub record Reads (reader : Reader (Bor (List ℕ))) (rest : List (List (List ℕ))) : Type 0 where
  pub trims : reader_trim reader ≡ trim.None
  pub ready : Ready reader
  pub config : reader_config reader ≡ default_config
  pub left : List ℕ
  pub source : source_of (λ s. Some s.now) reader ≡ Some left
  pub between : ends_at_end (reader_state reader) ≡ false
  pub records : records_from default_config (length left + 1) (reader_state reader) left ≡ rest

-- what the next read finds of these records, and what it leaves
abbrev pub ReadsOne : List (List (List ℕ)) → Bool → List (List ℕ) → Reader (Bor (List ℕ)) → Type 0
ReadsOne [] found fields after = found ≡ false
ReadsOne (r ∷ rest) found fields after = (found ≡ true) × (fields ≡ r) × Reads after rest
