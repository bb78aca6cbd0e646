-- What is sent at the slots of a node, one after the other, each with its fates.
use Rattle.std.proofs.Common.{◌≡◌, ◌≢◌, ℕ, ◌+◌, ◌<◌, ◌≤◌, Bool, true, false, ltb, ◌==◌, List, [], ◌∷◌, Option, Some, None, length, refl, ap, subst, sym, ◌∙◌, arith}
use Rattle.std.specs.List.{slice_set, slice_index_or}
use Rattle.std.proofs.lemmas.Bool.Decides.{nat_tests}
use Rattle.std.proofs.lemmas.List.{get_or-set_same, get_or-set_other, set_past}
use Rattle.std.proofs.Math.ListN.{get_or-eq_default}
use Rattle.market_events.specs.declared.links.Link.{Link}
use Rattle.market_rings.specs.declared.fates.Fate.{Fate}
use Rattle.market_rings.specs.Pushes.{fates_left}
use Rattle.market_turns.proofs.Slots.{there_below}

-- where no fate is left, none is used
pub none_left : {T : Type 0} (xs : List T) → fates_left xs [] ≡ []
none_left [] = refl
none_left (x ∷ xs) = none_left xs

-- the fates of a slot are used
used_at : (fates : List (List Fate)) (slot : ℕ) (use_up : List Fate → List Fate) → use_up [] ≡ []
    → slice_index_or (slice_set fates slot (use_up (slice_index_or fates slot []))) slot [] ≡ use_up (slice_index_or fates slot [])
used_at fates slot use_up none = by_test (ltb slot (length fates)) refl
  where
    by_test : (b : Bool) → ltb slot (length fates) ≡ b → slice_index_or (slice_set fates slot (use_up (slice_index_or fates slot []))) slot [] ≡ use_up (slice_index_or fates slot [])
    by_test true test = get_or-set_same fates slot _ [] (grind (arith, nat_tests))
    by_test false test =
        let past : length fates ≤ slot = grind (arith, nat_tests) in
        ap (λ (fs : List (List Fate)). slice_index_or fs slot []) (set_past fates slot (use_up (slice_index_or fates slot [])) past)
        ∙ get_or-eq_default fates [] past ∙ sym none ∙ ap use_up (sym (get_or-eq_default fates [] past))

-- what stands at the slot sent with the slot's fates
pub record IsSentAt {X : Type 0} (send : List Fate → X → X) (use_up : List Fate → List Fate) (before after : List (Option X)) (fates left : List (List Fate)) (slot : ℕ) : Type 0 where
  pub end : X
  pub there : slice_index_or before slot None ≡ Some end
  pub sent : slice_index_or after slot None ≡ Some (send (slice_index_or fates slot []) end)
  pub unused : slice_index_or left slot [] ≡ use_up (slice_index_or fates slot [])

module _ {X : Type 0} (is_of : Link → Type 0) (slot_of : Link → ℕ) (send : Link → List Fate → X → X) (use_up : Link → List Fate → List Fate) where
  -- the links with the slots below one have sent, and the others not
  pub record AreSentBelow (start : List (Option X)) (fates : List (List Fate)) (now : List (Option X)) (left : List (List Fate)) (first : ℕ) : Type 0 where
    pub sent : (link : Link) → is_of link → slot_of link < first → IsSentAt (send link) (use_up link) start now fates left (slot_of link)
    pub rest : (slot : ℕ) → first ≤ slot → slice_index_or now slot None ≡ slice_index_or start slot None
    pub unused : (slot : ℕ) → first ≤ slot → slice_index_or left slot [] ≡ slice_index_or fates slot []

  -- the link with the slot has sent
  pub sent_link : (start : List (Option X)) (fates : List (List Fate)) (now next : List (Option X)) (left unused : List (List Fate)) (first : ℕ) (link : Link) (end : X) → AreSentBelow start fates now left first
      → is_of link → slot_of link ≡ first → ((other : Link) → is_of other → slot_of other ≡ first → link ≡ other)
      → slice_index_or now (slot_of link) None ≡ Some end
      → next ≡ slice_set now (slot_of link) (Some (send link (slice_index_or left (slot_of link) []) end))
      → unused ≡ slice_set left (slot_of link) (use_up link (slice_index_or left (slot_of link) []))
      → use_up link [] ≡ []
      → AreSentBelow start fates next unused (first + 1)
  sent_link start fates now next left unused first link end are is at only there sends uses none = record {
    sent = λ other it low. by_test other it low (first == slot_of other) refl;
    rest = λ slot above. elsewhere slot (λ e. absurd (omega (arith, e, at, above))) ∙ are.rest slot (omega arith);
    unused = λ slot above. untouched slot (λ e. absurd (omega (arith, e, at, above))) ∙ are.unused slot (omega arith);
  }
    where
      elsewhere : (slot : ℕ) → slot ≢ slot_of link → slice_index_or next slot None ≡ slice_index_or now slot None
      elsewhere slot differs = ap (λ (ends : List (Option X)). slice_index_or ends slot None) sends ∙ get_or-set_other now (slot_of link) slot _ None differs

      untouched : (slot : ℕ) → slot ≢ slot_of link → slice_index_or unused slot [] ≡ slice_index_or left slot []
      untouched slot differs = ap (λ (fs : List (List Fate)). slice_index_or fs slot []) uses ∙ get_or-set_other left (slot_of link) slot _ [] differs

      fresh : slice_index_or left (slot_of link) [] ≡ slice_index_or fates (slot_of link) []
      fresh = are.unused (slot_of link) (omega (arith, at))

      here : IsSentAt (send link) (use_up link) start next fates unused (slot_of link)
      here = record {
        end = end;
        there = sym (are.rest (slot_of link) (omega (arith, at))) ∙ there;
        sent = ap (λ (ends : List (Option X)). slice_index_or ends (slot_of link) None) sends
            ∙ get_or-set_same now (slot_of link) _ None (there_below now (slot_of link) end there)
            ∙ ap (λ fs. Some (send link fs end)) fresh;
        unused = ap (λ (fs : List (List Fate)). slice_index_or fs (slot_of link) []) uses
            ∙ used_at left (slot_of link) (use_up link) none ∙ ap (use_up link) fresh;
      }

      before : (other : Link) → slot_of other ≢ slot_of link → IsSentAt (send other) (use_up other) start now fates left (slot_of other)
          → IsSentAt (send other) (use_up other) start next fates unused (slot_of other)
      before other differs sent = record {
        end = sent.end;
        there = sent.there;
        sent = elsewhere (slot_of other) differs ∙ sent.sent;
        unused = untouched (slot_of other) differs ∙ sent.unused;
      }

      by_test : (other : Link) → is_of other → slot_of other < first + 1 → (b : Bool) → (first == slot_of other) ≡ b → IsSentAt (send other) (use_up other) start next fates unused (slot_of other)
      by_test other it low true test =
          let same : slot_of other ≡ first = grind (arith, nat_tests) in
          subst (λ (l : Link). IsSentAt (send l) (use_up l) start next fates unused (slot_of l)) (only other it same) here
      by_test other it low false test =
          let differs : slot_of other ≢ slot_of link = λ e. let near = at in grind (arith, nat_tests) in
          let lower : slot_of other < first = grind (arith, nat_tests) in
          before other differs (are.sent other it lower)
