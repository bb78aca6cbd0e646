-- What the answer of a reader of rows says of the entry whose row it read.
use Rattle.std.proofs.Common.{◌≡◌, ◌≢◌, ◌<◌, ℕ, List, Some, None, Result, Ok, Err, IfOk, ◌⊎◌, inl, inr, refl, ap, sym, ◌∙◌}
use Rattle.market_events.specs.declared.events.Entry.{Entry}
use Rattle.market_events.specs.declared.nodes.TheConstants.{NODES}
use Rattle.market_history.specs.Journals.{IsEntry}
use Rattle.market_rows.specs.declared.faults.RowFault.{RowFault}
use Rattle.market_rows.specs.declared.faults.RowFault.TheVariants.{Bad, OutOfMemory}
use Rattle.market_rows.specs.Reading.{Tells, entry_read}
use Rattle.market_rows.specs.Rows.{text_of_row}
use Rattle.market_rows.proofs.Entries.{entry_reads, entry_spelled}
use Rattle.market_rows.proofs.Readings.{some_same}

-- the row of an entry is read as that entry
said_entry : (node place : ℕ) (text : List ℕ) (entry : Entry) → IsEntry node place entry → text ≡ text_of_row node place entry → entry_read node place text ≡ Some entry
said_entry node place text entry is spelled = ap (entry_read node place) spelled ∙ entry_reads node place entry is

-- an entry that was read may stand there
pub answer_stands : (node place : ℕ) (text : List ℕ) (r : Result Entry RowFault) → node < NODES → Tells r (entry_read node place text) → IfOk r (IsEntry node place)
answer_stands node place text (Ok entry) high said = (entry_spelled node place text entry high said).0
answer_stands node place text (Err fault) high said = tt

-- and the text is its row
pub answer_spelled : (node place : ℕ) (text : List ℕ) (r : Result Entry RowFault) → node < NODES → Tells r (entry_read node place text) → IfOk r (λ entry. text ≡ text_of_row node place entry)
answer_spelled node place text (Ok entry) high said = (entry_spelled node place text entry high said).1
answer_spelled node place text (Err fault) high said = tt

-- a text that is bad is the row of none
pub answer_bad : (node place : ℕ) (text : List ℕ) (r : Result Entry RowFault) → Tells r (entry_read node place text) → r ≡ Err Bad
    → (entry : Entry) → IsEntry node place entry → text ≢ text_of_row node place entry
answer_bad node place text (Ok other) said bad entry is spelled = cc
answer_bad node place text (Err Bad) said bad entry is spelled = let some : None ≡ Some entry = sym said ∙ said_entry node place text entry is spelled in cc
answer_bad node place text (Err OutOfMemory) said bad entry is spelled = cc

-- the row of an entry is read as that entry, unless memory is wanting
pub answer_reads : (node place : ℕ) (text : List ℕ) (r : Result Entry RowFault) → Tells r (entry_read node place text)
    → (entry : Entry) → IsEntry node place entry → text ≡ text_of_row node place entry → (r ≡ Ok entry) ⊎ (r ≡ Err OutOfMemory)
answer_reads node place text (Ok other) said entry is spelled = inl (ap Ok (some_same other entry (sym said ∙ said_entry node place text entry is spelled)))
answer_reads node place text (Err Bad) said entry is spelled =
    let some : None ≡ Some entry = sym said ∙ said_entry node place text entry is spelled in
    let no : ⊥ = cc in absurd no
answer_reads node place text (Err OutOfMemory) said entry is spelled = inr refl
