-- The journal at a node's place, among the journals of all nodes in order.
use Rattle.std.proofs.Common.{◌≡◌, ℕ, zero, suc, ◌<◌, List, [], ◌∷◌, length, map, refl, ap, sym, ◌∙◌, subst, arith}
use Rattle.std.specs.Prelude.{slice_index_or}
use Rattle.std.specs.List.{range_with_len}
use Rattle.std.proofs.lemmas.List.{length-map, get_or-map}
use Rattle.std.proofs.lemmas.List.FromFn.{length-range_with_len, get_or-range_with_len}
use Rattle.market_events.specs.declared.nodes.TheConstants.{NODES}
use Rattle.market_history.specs.Histories.{entries_of, journal_at, AreJournals, IsHistories}
use Rattle.market_history.specs.Journals.{JournalState, IsJournal}

-- there are as many as nodes
pub journals-many : (journals : List JournalState) → map (λ (j : JournalState). j.node) journals ≡ range_with_len 0 NODES → length journals ≡ NODES
journals-many journals order = sym (length-map journals (λ (j : JournalState). j.node)) ∙ ap length order ∙ length-range_with_len 0 NODES

pub node-at : (journals : List JournalState) (n : ℕ) (j : JournalState) → map (λ (j : JournalState). j.node) journals ≡ range_with_len 0 NODES → n < NODES → j ≡ slice_index_or journals n j → j.node ≡ n
node-at journals n j order lt is =
    let within : n < length journals = subst (λ k. n < k) (sym (journals-many journals order)) lt in
    ap (λ (j : JournalState). j.node) is ∙ sym (get_or-map (λ (j : JournalState). j.node) journals n j 0 within)
    ∙ ap (λ ns. slice_index_or ns n 0) order ∙ get_or-range_with_len 0 NODES n 0 lt ∙ omega arith

pub entries-at : (journals : List JournalState) (n : ℕ) (j : JournalState) → map (λ (j : JournalState). j.node) journals ≡ range_with_len 0 NODES → n < NODES → j ≡ slice_index_or journals n j → j.entries ≡ journal_at (entries_of journals) n
unfolding journal_at
entries-at journals n j order lt is =
    let within : n < length journals = subst (λ k. n < k) (sym (journals-many journals order)) lt in
    ap (λ (j : JournalState). j.entries) is ∙ sym (get_or-map (λ (j : JournalState). j.entries) journals n j [] within)

-- an element does not turn on what stands for none
get_or-within : {A : Type 0} (xs : List A) (n : ℕ) (d e : A) → n < length xs → slice_index_or xs n d ≡ slice_index_or xs n e
get_or-within [] n d e lt = absurd (omega arith)
get_or-within (x ∷ xs) zero d e lt = refl
get_or-within (x ∷ xs) (suc n) d e lt = get_or-within xs n d e (omega arith)

-- so the journals are histories
pub are-histories : (journals : List JournalState) → map (λ (j : JournalState). j.node) journals ≡ range_with_len 0 NODES → AreJournals journals → IsHistories (entries_of journals)
are-histories journals order each = record { each = length-map journals (λ (j : JournalState). j.entries) ∙ journals-many journals order; journals = at }
  where
    at : (n : ℕ) → n < NODES → IsJournal n (journal_at (entries_of journals) n)
    at n lt =
        let within : n < length journals = subst (λ k. n < k) (sym (journals-many journals order)) lt in
        let none : JournalState = record { node = 0; entries = []; spare = 0 } in
        let j : JournalState = slice_index_or journals n none in
        let same : j ≡ slice_index_or journals n j = get_or-within journals n none j within in
        subst (λ m. IsJournal m (journal_at (entries_of journals) n)) (node-at journals n j order lt same)
        (subst (IsJournal j.node) (entries-at journals n j order lt same) (each n none within))
