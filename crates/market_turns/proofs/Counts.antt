-- Counts that come back on a link, one after the other.
use Rattle.std.proofs.Common.{◌≡◌, ℕ, ◌<◌, ◌≤◌, Bool, true, false, ltb, List, [], ◌∷◌, length, refl, ap, sym, ◌∙◌, arith}
use Rattle.std.specs.List.{slice_set, slice_index}
use Rattle.std.proofs.lemmas.Bool.Decides.{nat_tests}
use Rattle.std.proofs.lemmas.List.{set-set, set_past, set-get_or, get_or-set_same}
use Rattle.market_events.specs.declared.links.Link.{Link}
use Rattle.market_links.specs.Slots.{slot_from}
use Rattle.market_node.specs.Cores.{CoreState, with_count_back}
use Rattle.market_node.specs.Sending.{with_count}
use Rattle.market_turns.specs.Turns.{with_counts, with_counts_back}

-- no count changes nothing
pub counts_none : (s : CoreState) (link : Link) → with_counts_back s link [] ≡ s
counts_none s link = ap (λ ns. record s { acknowledged = ns }) (set-get_or s.acknowledged (slot_from link) 0)

-- the first of the counts, and then the others
pub counts_first : (s : CoreState) (link : Link) (n : ℕ) (ns : List ℕ) → with_counts_back (with_count_back s link n) link ns ≡ with_counts_back s link (n ∷ ns)
counts_first s link n ns = ap (λ list. record s { acknowledged = list }) (by_test (ltb (slot_from link) (length s.acknowledged)) refl)
  where
    k : ℕ
    k = slot_from link

    x : ℕ
    x = with_count link s.entries s.committed (slice_index s.acknowledged (slot_from link)) n

    by_test : (b : Bool) → ltb (slot_from link) (length s.acknowledged) ≡ b
        → slice_set (slice_set s.acknowledged k x) k (with_counts link s.entries s.committed (slice_index (slice_set s.acknowledged k x) k) ns)
        ≡ slice_set s.acknowledged k (with_counts link s.entries s.committed x ns)
    by_test true test =
        let below : slot_from link < length s.acknowledged = grind (arith, nat_tests) in
        set-set s.acknowledged k x (with_counts link s.entries s.committed (slice_index (slice_set s.acknowledged k x) k) ns)
        ∙ ap (λ a. slice_set s.acknowledged k (with_counts link s.entries s.committed a ns)) (get_or-set_same s.acknowledged k x 0 below)
    by_test false test =
        let past : length s.acknowledged ≤ slot_from link = grind (arith, nat_tests) in
        ap (λ (list : List ℕ). slice_set list k (with_counts link s.entries s.committed (slice_index list k) ns)) (set_past s.acknowledged k x past)
        ∙ set_past s.acknowledged k _ past
        ∙ sym (set_past s.acknowledged k _ past)
