-- The counts that came back on the links out of a node, slot by slot.
use Rattle.std.proofs.Common.{◌≡◌, ◌≢◌, ℕ, ◌+◌, ◌<◌, ◌≤◌, Bool, true, false, ◌==◌, List, length, refl, ap, subst, sym, ◌∙◌, arith}
use Rattle.std.specs.List.{slice_set, slice_index}
use Rattle.std.proofs.lemmas.Bool.Decides.{nat_tests}
use Rattle.std.proofs.lemmas.List.{get_or-set_same, get_or-set_other, length-set}
use Rattle.market_events.specs.declared.links.Link.{Link}
use Rattle.market_events.specs.Links.{IsLink, sender_of}
use Rattle.market_links.specs.Slots.{slot_from}
use Rattle.market_node.specs.Cores.{CoreState, acknowledged_on}
use Rattle.market_rings.specs.NodeEnds.{NodeEnds, out_at, counts_waiting}
use Rattle.market_turns.specs.Turns.{with_counts, with_counts_back}

-- those of the slots below one are noted, and the others' counts are as they were
pub record AreNotedBelow (start : CoreState) (ends : NodeEnds) (now : CoreState) (first : ℕ) : Type 0 where
  pub many : length now.acknowledged ≡ length start.acknowledged
  pub same : now ≡ record start { acknowledged = now.acknowledged }
  pub noted : (link : Link) → IsLink link → sender_of link ≡ start.node → slot_from link < first
      → acknowledged_on now link ≡ with_counts link start.entries start.committed (acknowledged_on start link) (counts_waiting (out_at ends (slot_from link)))
  pub rest : (slot : ℕ) → first ≤ slot → slice_index now.acknowledged slot ≡ slice_index start.acknowledged slot

-- no link has the slot
pub noted_none : (start : CoreState) (ends : NodeEnds) (now : CoreState) (first : ℕ) → AreNotedBelow start ends now first
    → ((link : Link) → IsLink link → sender_of link ≡ start.node → slot_from link ≢ first) → AreNotedBelow start ends now (first + 1)
noted_none start ends now first are none = record {
  many = are.many;
  same = are.same;
  noted = λ link is from below. let other = none link is from in are.noted link is from (omega (arith, other, below));
  rest = λ slot above. are.rest slot (omega arith);
}

-- the counts of the link with the slot were noted
pub noted_link : (start : CoreState) (ends : NodeEnds) (now next : CoreState) (first : ℕ) (link : Link) (counts : List ℕ) → AreNotedBelow start ends now first
    → IsLink link → sender_of link ≡ start.node → slot_from link ≡ first → first < length start.acknowledged
    → counts ≡ counts_waiting (out_at ends first) → next ≡ with_counts_back now link counts
    → ((other : Link) → IsLink other → sender_of other ≡ start.node → slot_from other ≡ first → link ≡ other)
    → AreNotedBelow start ends next (first + 1)
noted_link start ends now next first link counts are is from at below taken noted only =
    subst (λ s. AreNotedBelow start ends s (first + 1)) (sym noted) (record {
      many = length-set now.acknowledged (slot_from link) value ∙ are.many;
      same = ap (λ (s : CoreState). record s { acknowledged = slice_set now.acknowledged (slot_from link) value }) are.same;
      noted = λ other it there low. by_test other it there low (first == slot_from other) refl;
      rest = λ slot above.
          let differs : slot ≢ slot_from link = λ e. absurd (omega (arith, e, at, above)) in
          get_or-set_other now.acknowledged (slot_from link) slot value 0 differs ∙ are.rest slot (omega arith);
    })
  where
    value : ℕ
    value = with_counts link now.entries now.committed (acknowledged_on now link) counts

    wide : slot_from link < length now.acknowledged
    wide = omega (arith, at, below, are.many)

    by_test : (other : Link) → IsLink other → sender_of other ≡ start.node → slot_from other < first + 1 → (b : Bool) → (first == slot_from other) ≡ b
        → slice_index (slice_set now.acknowledged (slot_from link) value) (slot_from other)
        ≡ with_counts other start.entries start.committed (acknowledged_on start other) (counts_waiting (out_at ends (slot_from other)))
    by_test other it there low true test =
        let here : slot_from other ≡ first = grind (arith, nat_tests) in
        let e : link ≡ other = only other it there here in
        subst (λ (l : Link). slice_index (slice_set now.acknowledged (slot_from link) value) (slot_from l)
        ≡ with_counts l start.entries start.committed (acknowledged_on start l) (counts_waiting (out_at ends (slot_from l)))) e
        (get_or-set_same now.acknowledged (slot_from link) value 0 wide
        ∙ ap (λ (s : CoreState). with_counts link s.entries s.committed (acknowledged_on now link) counts) are.same
        ∙ ap (λ n. with_counts link start.entries start.committed n counts) (are.rest (slot_from link) (omega (arith, at)))
        ∙ ap (λ ns. with_counts link start.entries start.committed (acknowledged_on start link) ns) (taken ∙ ap (λ i. counts_waiting (out_at ends i)) (sym at)))
    by_test other it there low false test =
        let differs : slot_from other ≢ slot_from link = λ e. let near = at in grind (arith, nat_tests) in
        let lower : slot_from other < first = grind (arith, nat_tests) in
        get_or-set_other now.acknowledged (slot_from link) (slot_from other) value 0 differs ∙ are.noted other it there lower
