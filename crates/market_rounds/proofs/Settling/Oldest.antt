-- A number of the oldest outstanding event, by a test that only its link passes.
use Rattle.std.proofs.Common.{◌≡◌, ℕ, ◌≤◌, Bool, true, false, ◌==◌, if◌then◌else◌, eqb-true, List, [], ◌∷◌, refl, ap, subst, ◌∙◌, arith}
use Rattle.std.specs.List.{list_all}
use Rattle.market_events.specs.declared.events.Event.{Event}
use Rattle.market_events.specs.declared.links.Link.{Link}
use Rattle.market_events.specs.Links.{IsLink, same_link}
use Rattle.market_events.proofs.Values.Offers.{same_link-same, same_link-true}
use Rattle.market_history.specs.Histories.{Histories}
use Rattle.market_history.specs.Lawful.{IsLawful}
use Rattle.market_history.specs.Outstanding.{outstanding, is_no_later, IsSettled, IsOldest}
use Rattle.market_laws.proofs.Bounds.LinkSums.{over_links, over_links-le, over_links-one, over_links-none, over_links-part}
use Rattle.market_laws.proofs.Oldest.Only.{oldest-only}
use Rattle.market_rounds.proofs.Settling.Lists.{each_passes, all_pass}

-- whether an outstanding event of the link comes before the event
abbrev earlier_on : Histories → Event → Link → ℕ
earlier_on h e link = if list_all (is_no_later e) (outstanding h link) then 0 else 1

-- whether the first of these events comes before all that are outstanding
abbrev pub begins_with_oldest : Histories → List Event → Bool
begins_with_oldest h [] = false
begins_with_oldest h (e ∷ es) = over_links (earlier_on h e) == 0

-- the number of the oldest event's link, and 0 where there is none
abbrev pub of_oldest : Histories → (Link → ℕ) → ℕ
of_oldest h number = over_links (λ link. if begins_with_oldest h (outstanding h link) then number link else 0)

module _ (h : Histories) where
  -- the link of the oldest event passes the test
  passes : (link : Link) (number : ℕ) → IsOldest h link number → begins_with_oldest h (outstanding h link) ≡ true
  passes link number o =
      ap (begins_with_oldest h) o.first ∙ ap (λ k. k == 0) none
    where
      each : (other : Link) → IsLink other → earlier_on h o.event other ≤ 0
      each other on =
          let all : list_all (is_no_later o.event) (outstanding h other) ≡ true = all_pass (is_no_later o.event) (outstanding h other) (o.least other on) in
          let zero : earlier_on h o.event other ≡ 0 = ap (λ b. if b then 0 else 1) all in
          omega (arith, zero)

      none : over_links (earlier_on h o.event) ≡ 0
      none = omega (arith, over_links-le (earlier_on h o.event) (λ l. 0) each, over_links-none)

  -- and a link that passes it is that of the oldest event
  passed : (link : Link) → begins_with_oldest h (outstanding h link) ≡ true → (number : ℕ) × IsOldest h link number
  passed link test = by_list (outstanding h link) refl test
    where
      all_of : (b : Bool) → (if b then 0 else 1) ≤ 0 → b ≡ true
      all_of true low = refl
      all_of false low = absurd (omega (arith, low))

      by_list : (es : List Event) → outstanding h link ≡ es → begins_with_oldest h es ≡ true → (number : ℕ) × IsOldest h link number
      by_list [] is failed = let never : ⊥ = cc in absurd never
      by_list (e ∷ es) is none =
          let zero : over_links (earlier_on h e) ≡ 0 = eqb-true (over_links (earlier_on h e)) 0 none in (
            e.number,
            record {
              event = e;
              named = refl;
              rest = es;
              first = is;
              least = λ other on.
                  each_passes (is_no_later e) (outstanding h other) (all_of (list_all (is_no_later e) (outstanding h other)) (omega (arith, zero, over_links-part (earlier_on h e) other on)));
            },
          )

  module _ (number : Link → ℕ) where
    abbrev number_on : Link → ℕ
    number_on link = if begins_with_oldest h (outstanding h link) then number link else 0

    -- where nothing is outstanding it is nothing
    pub of_none : IsSettled h → of_oldest h number ≤ 0
    of_none settled =
        let none = over_links-le number_on (λ l. 0) (λ link on. let zero : number_on link ≡ 0 = ap (λ es. if begins_with_oldest h es then number link else 0) (settled link on) in omega (arith, zero)) in
        omega (arith, none, over_links-none)

    module _ (lawful : IsLawful h) (link : Link) (count : ℕ) (on : IsLink link) (o : IsOldest h link count) where
      -- it is that of the oldest event's link
      pub of_link_low : number link ≤ of_oldest h number
      of_link_low =
          let here : number_on link ≡ number link = ap (λ b. if b then number link else 0) (passes link count o) in
          omega (arith, here, over_links-part number_on link on)

      abbrev alone : Link → ℕ
      alone other = if same_link link other then number link else 0

      below : (other : Link) → IsLink other → number_on other ≤ alone other
      below other also = by_same (same_link link other) refl (begins_with_oldest h (outstanding h other)) refl
        where
          by_same : (b : Bool) → same_link link other ≡ b → (c : Bool) → begins_with_oldest h (outstanding h other) ≡ c → (if c then number other else 0) ≤ (if b then number link else 0)
          by_same true same true test = let is : link ≡ other = same_link-true link other same in let equal : number link ≡ number other = ap number is in omega (arith, equal)
          by_same true same false test = omega arith
          by_same false differs true test =
              let p = passed other test in
              let is : link ≡ other = (oldest-only h lawful link other count p.0 on also o p.1).0 in
              let same : same_link link other ≡ true = subst (λ l. same_link link l ≡ true) is (same_link-same link) in
              let no : ⊥ = cc in absurd no
          by_same false differs false test = omega arith

      pub of_link_high : of_oldest h number ≤ number link
      of_link_high =
          let all = over_links-le number_on alone below in
          let one = over_links-one alone link (λ other differs. ap (λ b. if b then number link else 0) differs) in
          let here : alone link ≡ number link = ap (λ b. if b then number link else 0) (same_link-same link) in
          omega (arith, all, one, here)
