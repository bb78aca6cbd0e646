-- The entries of a journal, copied one after the other.
use Rattle.std.proofs.Common.{◌≡◌, ℕ, zero, suc, ◌+◌, ◌<◌, List, [], ◌∷◌, length, take, get_or, ap, sym, ◌∙◌, subst, arith}
use Rattle.std.proofs.lemmas.List.{length-take-le}
use Rattle.market_events.specs.declared.events.Entry.{Entry}
use Rattle.market_history.specs.Journals.{JournalState, IsEntry, AreEntriesFrom, IsJournal}

-- the entry at a place may stand there
entry_at : (node place : ℕ) (xs : List Entry) (i : ℕ) (d : Entry) → AreEntriesFrom node place xs → i < length xs → IsEntry node (place + i) (get_or xs i d)
entry_at node place [] i d each lt = absurd (omega (arith, lt))
entry_at node place (x ∷ xs) zero d each lt = subst (λ at. IsEntry node at x) (omega arith) each.0
entry_at node place (x ∷ xs) (suc i) d each lt =
    subst (λ at. IsEntry node at (get_or xs i d)) (omega arith) (entry_at node (place + 1) xs i d each.1 (omega (arith, lt)))

-- so it may stand at the end of a copy of those before it
pub entry_copied : (node : ℕ) (xs : List Entry) (copy : JournalState) (i : ℕ) (e d : Entry) → IsJournal node xs → copy.node ≡ node → copy.entries ≡ take i xs → i < length xs → e ≡ get_or xs i d → IsEntry copy.node (length copy.entries) e
entry_copied node xs copy i e d journal same copied lt is =
    let long : length copy.entries ≡ i = ap (λ (es : List Entry). length es) copied ∙ length-take-le i xs (omega (arith, lt)) in
    subst (λ n. IsEntry n (length copy.entries) e) (sym same)
    (subst (λ at. IsEntry node at e) (sym long)
    (subst (IsEntry node i) (sym is) (subst (λ at. IsEntry node at (get_or xs i d)) (omega arith) (entry_at node 0 xs i d journal lt))))
