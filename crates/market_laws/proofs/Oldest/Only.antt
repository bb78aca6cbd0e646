-- There is one oldest event at most: two would have one clock and one sender, and no journal has a clock twice.
use Rattle.std.proofs.Common.{◌≡◌, ℕ, ◌≤◌, ◌==◌, ◌&&◌, ◌||◌, true, nat_le, nat_lt, [], sym, ap, ◌∙◌, subst, arith}
use Rattle.std.specs.List.{AllByRecursion}
use Rattle.std.proofs.lemmas.Bool.Decides.{nat_tests}
use Rattle.market_events.specs.declared.events.Event.{Event}
use Rattle.market_events.specs.declared.links.Link.{Link}
use Rattle.market_events.specs.Links.{IsLink, sender_of}
use Rattle.market_history.specs.Histories.{Histories}
use Rattle.market_history.specs.Lawful.{IsLawful}
use Rattle.market_history.specs.Outstanding.{is_no_later, IsOldest}
use Rattle.market_laws.specs.Cuts.{MadeAt}
use Rattle.market_laws.proofs.Growth.Members.{all-at}
use Rattle.market_laws.proofs.Oldest.Places.{out-at}
use Rattle.market_laws.proofs.Pasts.Order.{same_event}

-- neither comes before the other
both_ways : (a b m n : ℕ) → (nat_lt a b || ((a == b) && nat_le m n)) ≡ true → (nat_lt b a || ((b == a) && nat_le n m)) ≡ true → (a ≡ b) × (m ≡ n)
both_ways a b m n one two =
    let clock : a ≡ b = grind (arith, nat_tests) in
    let low : m ≤ n = grind (arith, nat_tests) in
    let high : n ≤ m = grind (arith, nat_tests) in
    (clock, omega (arith, low, high))

module _ (h : Histories) (lawful : IsLawful h) where
  -- the oldest of one is no later than the oldest of another
  earlier_of : (link other : Link) (number count : ℕ) → IsLink other → (o : IsOldest h link number) (p : IsOldest h other count) → is_no_later o.event p.event ≡ true
  earlier_of link other number count on o p =
      all-at (λ (e : Event). is_no_later o.event e ≡ true) [] p.event p.rest (subst (AllByRecursion (λ (e : Event). is_no_later o.event e ≡ true)) p.first (o.least other on))

  -- one oldest
  pub oldest-only : (link other : Link) (number count : ℕ) → IsLink link → IsLink other → IsOldest h link number → IsOldest h other count → (link ≡ other) × (number ≡ count)
  oldest-only link other number count on by o p =
      let a = out-at h lawful link on [] o.event o.rest o.first in
      let b = out-at h lawful other by [] p.event p.rest p.first in
      let both = both_ways o.event.clock p.event.clock (sender_of o.event.link) (sender_of p.event.link)
      (earlier_of link other number count by o p) (earlier_of other link count number on p o) in
      let node : sender_of other ≡ sender_of link = ap sender_of (sym b.on) ∙ sym both.1 ∙ ap sender_of a.on in
      let same : o.event ≡ p.event = same_event h lawful (sender_of link) o.event p.event a.made (subst (λ n. MadeAt h n p.event) node b.made) both.0 in
      (sym a.on ∙ ap (λ (e : Event). e.link) same ∙ b.on, sym o.named ∙ ap (λ (e : Event). e.number) same ∙ p.named)
