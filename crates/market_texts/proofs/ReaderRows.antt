-- The rows of a dashboard, which are read to the last word.
use Rattle.std.proofs.Common.{◌≡◌, ℕ, zero, suc, ◌+◌, ◌≤◌, List, [], ◌∷◌, ◌++◌, map, length, Result, Ok, Err, refl, ap, sym, ◌∙◌, subst, append-nil, arith}
use Rattle.std.specs.List.{AllByRecursion}
use Rattle.market_texts.specs.declared.faults.BodyError.{BodyError}
use Rattle.market_words.specs.declared.faults.WordFault.{WordFault}
use Rattle.market_words.specs.declared.faults.WordFault.TheVariants.{Field}
use Rattle.market_events.specs.declared.replies.EntryRow.{EntryRow}
use Rattle.market_words.specs.Results.{◌>>=◌}
use Rattle.market_texts.specs.Reading.{Words, placed, row_of, rows_from, rows}
use Rattle.market_events.specs.Texts.{row_text}
use Rattle.market_events.specs.WellFormed.{IsRow, AreRows, most_rows_shown}
use Rattle.market_words.proofs.WordCuts.{Lacks}
use Rattle.market_texts.proofs.WordLaws.{row_word}
use Rattle.market_texts.proofs.ReaderLaws.{Reads, Spells, ok_same}

-- the number of the word behind the rows
rows_end : ℕ → List EntryRow → ℕ
rows_end place [] = place
rows_end place (row ∷ more) = rows_end (place + 1) more

-- as many rows as there is room for are read of their texts
rows_from_texts : (room place : ℕ) (rs : List EntryRow) → length rs ≤ room → AllByRecursion IsRow rs
    → rows_from room place (map row_text rs) ≡ Ok (rs, record { place = rows_end place rs; left = [] })
unfolding rows_end
rows_from_texts room place [] most each = refl
rows_from_texts zero place (row ∷ more) most each = absurd (omega arith)
rows_from_texts (suc room) place (row ∷ more) most each =
    rw (row_word.reads row each.0, rows_from_texts room (place + 1) more (omega arith) each.1)

-- the texts of rows have no space
bare_rows : (rs : List EntryRow) → AllByRecursion IsRow rs → AllByRecursion (Lacks 32) (map row_text rs)
bare_rows [] each = tt
bare_rows (row ∷ more) each = (row_word.bare row each.0, bare_rows more each.1)

-- the texts of a dashboard's rows are read as they are
pub rows_reads : (rs : List EntryRow) → AreRows rs → Reads rows (map row_text rs) rs
rows_reads rs h = record {
  bare = bare_rows rs h.each;
  end_of = λ place. rows_end place rs;
  reads = λ place. rows_from_texts most_rows_shown place rs h.most h.each;
}

-- what is read from some words on: rows of which these are the texts, to the end
RowsSpelled : ℕ → List (List ℕ) → List EntryRow × Words → Type 0
RowsSpelled room left r = (left ≡ map row_text r.0) × (length r.0 ≤ room) × AllByRecursion IsRow r.0 × (r.1.left ≡ [])

-- no row is read where there is no room
no_room : (place : ℕ) (r : Result EntryRow WordFault) (rest : Words) (s : List EntryRow × Words)
    → placed {A = List EntryRow} place (r >>= λ row. Err Field) rest ≡ Ok s → ⊥
no_room place (Ok row) rest s e = cc
no_room place (Err fault) rest s e = cc

-- one row, and those after it
next_row : (room place : ℕ) (t : List ℕ) (more : List (List ℕ)) (s : List EntryRow × Words)
    → ((r : List EntryRow × Words) → rows_from room (place + 1) more ≡ Ok r → RowsSpelled room more r)
    → (row : Result EntryRow WordFault) → row_of t ≡ row
    → (rest : Result (List EntryRow × Words) BodyError) → rows_from room (place + 1) more ≡ rest
    → (placed place row (record { place = place + 1; left = more }) >>= λ r. rest >>= λ rs. Ok (r.0 ∷ rs.0, rs.1)) ≡ Ok s
    → RowsSpelled (suc room) (t ∷ more) s
unfolding RowsSpelled
next_row room place t more s known (Ok row) was (Ok rest) then_was e =
    let here = row_word.spelled t row was in
    let there = known rest then_was in
    let texts : t ∷ more ≡ row_text row ∷ map row_text rest.0 = cc (here.1, there.0) in
    subst (RowsSpelled (suc room) (t ∷ more)) (ok_same (row ∷ rest.0, rest.1) s e) (texts, omega arith, (here.0, there.2), there.3)
next_row room place t more s known (Ok row) was (Err error) then_was e = cc
next_row room place t more s known (Err fault) was rest then_was e = cc

-- whatever is read from some words on
rows_from_spelled : (room place : ℕ) (left : List (List ℕ)) (s : List EntryRow × Words) → rows_from room place left ≡ Ok s → RowsSpelled room left s
unfolding RowsSpelled
rows_from_spelled room place [] s e = subst (RowsSpelled room []) (ok_same ([], record { place = place; left = [] }) s e) (refl, omega arith, tt, refl)
rows_from_spelled zero place (t ∷ more) s e = absurd (no_room place (row_of t) (record { place = place; left = more }) s e)
rows_from_spelled (suc room) place (t ∷ more) s e =
    next_row room place t more s (rows_from_spelled room (place + 1) more) (row_of t) refl (rows_from room (place + 1) more) refl e

-- and only texts of rows are read as rows
pub rows_spells : Spells rows (λ rs words. AreRows rs × (words ≡ map row_text rs))
unfolding RowsSpelled
rows_spells = record {
  spelled = λ place left rs rest e.
      let known = rows_from_spelled most_rows_shown place left (rs, rest) e in
      (left, sym (ap (λ l. left ++ l) known.3 ∙ append-nil left), (record { most = known.1; each = known.2 }, known.0));
}
