-- One more entry of a journal.
use Rattle.std.proofs.Common.{◌≡◌, ℕ, ◌+◌, List, [], ◌∷◌, ◌++◌, length, subst, arith}
use Rattle.market_events.specs.declared.events.Entry.{Entry}
use Rattle.market_history.specs.Journals.{IsEntry, AreEntriesFrom, IsJournal}

AreEntriesFrom-push : (node place end : ℕ) (xs : List Entry) (x : Entry) → AreEntriesFrom node place xs → IsEntry node end x → end ≡ place + length xs → AreEntriesFrom node place (xs ++ x ∷ [])
AreEntriesFrom-push node place end [] x here last at =
    let e : end ≡ place = omega arith in (subst (λ (n : ℕ). IsEntry node n x) e last, tt)
AreEntriesFrom-push node place end (y ∷ ys) x here last at =
    let e : end ≡ place + 1 + length ys = omega arith in
    (here.0, AreEntriesFrom-push node (place + 1) end ys x here.1 last e)

-- an entry that may stand at the end makes a journal of a journal
pub IsJournal-push : (node : ℕ) (xs : List Entry) (x : Entry) → IsJournal node xs → IsEntry node (length xs) x → IsJournal node (xs ++ x ∷ [])
IsJournal-push node xs x here last = AreEntriesFrom-push node 0 (length xs) xs x here last (omega arith)

AreEntriesFrom-at : (node place at : ℕ) (before : List Entry) (x : Entry) (after : List Entry) → AreEntriesFrom node place (before ++ x ∷ after) → at ≡ place + length before → IsEntry node at x
AreEntriesFrom-at node place at [] x after here is =
    let e : place ≡ at = omega arith in subst (λ (n : ℕ). IsEntry node n x) e here.0
AreEntriesFrom-at node place at (y ∷ ys) x after here is =
    let e : at ≡ place + 1 + length ys = omega arith in AreEntriesFrom-at node (place + 1) at ys x after here.1 e

-- an entry of a journal may stand at its place
pub IsJournal-at : (node : ℕ) (before : List Entry) (x : Entry) (after : List Entry) → IsJournal node (before ++ x ∷ after) → IsEntry node (length before) x
IsJournal-at node before x after here = AreEntriesFrom-at node 0 (length before) before x after here (omega arith)
