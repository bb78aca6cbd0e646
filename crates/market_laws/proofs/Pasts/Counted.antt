-- What the past of an event counts of a service link was made on it, with a smaller clock (past-counted).
use Rattle.std.proofs.Common.{◌≡◌, ℕ, zero, suc, ◌+◌, ◌<◌, ◌≤◌, max, Bool, true, false, nat_le, List, [], ◌∷◌, slice_index, if◌then◌else◌, refl, ap, sym, ◌∙◌, subst, arith}
use Rattle.std.proofs.lemmas.Bool.Decides.{nat_tests}
use Rattle.market_events.specs.declared.events.Entry.{Entry}
use Rattle.market_events.specs.declared.events.Event.{Event}
use Rattle.market_events.specs.declared.events.What.{What}
use Rattle.market_events.specs.declared.events.What.TheVariants.{Given, Taken, Made, Answered}
use Rattle.market_events.specs.declared.links.TheConstants.{SERVICE_LINKS}
use Rattle.market_events.specs.declared.links.Link.TheVariants.{Service}
use Rattle.market_events.specs.Links.{same_link, sender_of}
use Rattle.market_events.proofs.Values.Offers.{same_link-true}
use Rattle.market_history.specs.Causality.{number_on, count_in, count_told, known}
use Rattle.market_history.specs.Histories.{Histories}
use Rattle.market_history.specs.Lawful.{IsLawful}
use Rattle.market_history.proofs.CausalityLaws.{number_on-same}
use Rattle.market_laws.specs.Cuts.{entry_with, StandsIn, TookAt, MadeAt}
use Rattle.market_laws.proofs.Clocks.Rising.{within-earlier, within_stands}
use Rattle.market_laws.proofs.Origins.Places.{made_stands, made_of, made_clock, took_of}
use Rattle.market_laws.proofs.Origins.Senders.{took-made}
use Rattle.market_laws.proofs.Pasts.Made.{past-known}
use Rattle.market_laws.proofs.Growth.Takers.{StandsAt}

-- an event of the service link, with this number and a smaller clock
pub record Counted (h : Histories) (k count top : ℕ) : Type 0 where
  pub event : Event
  pub made : MadeAt h (sender_of (Service k)) event
  pub on : event.link ≡ Service k
  pub number : event.number ≡ count
  pub clock : event.clock < top

counted_also : (h : Histories) (k a b s t : ℕ) → Counted h k a s → a ≡ b → s ≤ t → Counted h k b t
counted_also h k a b s t c same le = record { event = c.event; made = c.made; on = c.on; number = c.number ∙ same; clock = omega (arith, c.clock, le) }

-- the entry that tells of the greatest count
record KnownAt (xs : List Entry) (k : ℕ) : Type 0 where
  before : List Entry
  at : Entry
  within : StandsIn before at xs
  count : count_told at k ≡ known xs k

-- where the first entry tells of less
known_further : (x : Entry) (xs : List Entry) (k : ℕ) → count_told x k < known xs k → KnownAt xs k → KnownAt (x ∷ xs) k
known_further x xs k lt at = record {
  before = x ∷ at.before;
  at = at.at;
  within = record { after = at.within.after; is = ap (λ l. x ∷ l) at.within.is };
  count = omega (arith, lt, at.count);
}

known_at : (xs : List Entry) (k : ℕ) → 0 < known xs k → KnownAt xs k
known_at [] k some = absurd (omega (arith, some))
known_at (x ∷ xs) k some = by (nat_le (known xs k) (count_told x k)) refl (λ more. known_at xs k more)
  where
    by : (test : Bool) → nat_le (known xs k) (count_told x k) ≡ test → (0 < known xs k → KnownAt xs k) → KnownAt (x ∷ xs) k
    by true is later =
        let le : known xs k ≤ count_told x k = grind (arith, nat_tests) in
        record { before = []; at = x; within = record { after = xs; is = refl }; count = omega (arith, le) }
    by false is later =
        let lt : count_told x k < known xs k = grind (arith, nat_tests) in
        known_further x xs k lt (later (omega (arith, lt)))

-- an event that counts by its number is on the link
on_link : (k : ℕ) (event : Event) → 0 < number_on k event → (event.link ≡ Service k) × (number_on k event ≡ event.number)
on_link k event some = by (same_link event.link (Service k)) refl some
  where
    by : (test : Bool) → same_link event.link (Service k) ≡ test → 0 < (if test then event.number else 0) → (event.link ≡ Service k) × (number_on k event ≡ event.number)
    by true is more = (same_link-true event.link (Service k) is, number_on-same k event is)
    by false is more = absurd (omega (arith, more))

module _ (h : Histories) (lawful : IsLawful h) where
  -- an event that counts by its number, where it was made
  counted_itself : (n k : ℕ) (event : Event) → MadeAt h n event → 0 < number_on k event → Counted h k (number_on k event) (event.clock + 1)
  counted_itself n k event m some =
      let on = on_link k event some in
      record { event = event; made = subst (λ j. MadeAt h j event) (sym m.leaves ∙ ap sender_of on.0) m; on = on.0; number = sym on.1; clock = omega arith }

  -- what an entry counts, where this is so of the pasts of the events before
  counted_here : (n k : ℕ) (x : Entry) → StandsAt h n x → 0 < count_told x k
      → ((f : Event) → MadeAt h (sender_of f.link) f → f.clock < x.clock → 0 < slice_index f.past k → Counted h k (slice_index f.past k) f.clock)
      → Counted h k (count_told x k) (x.clock + 1)
  counted_here n k x s some before = by x.what refl some
    where
      larger : (event : Event) (t : TookAt h n event) (test : Bool) → t.clock ≡ x.clock → nat_le (slice_index event.past k) (number_on k event) ≡ test → 0 < max (number_on k event) (slice_index event.past k)
          → Counted h k (max (number_on k event) (slice_index event.past k)) (x.clock + 1)
      larger event t true same is more =
          let le : slice_index event.past k ≤ number_on k event = grind (arith, nat_tests) in
          let m = took-made h lawful n event t in
          counted_also h k (number_on k event) (max (number_on k event) (slice_index event.past k)) (event.clock + 1) (x.clock + 1)
          (counted_itself (sender_of event.link) k event m.made (omega (arith, more, le))) (omega (arith, le)) (omega (arith, m.clock, same))
      larger event t false same is more =
          let lt : number_on k event < slice_index event.past k = grind (arith, nat_tests) in
          let m = took-made h lawful n event t in
          counted_also h k (slice_index event.past k) (max (number_on k event) (slice_index event.past k)) event.clock (x.clock + 1)
          (before event m.made (omega (arith, m.clock, same)) (omega (arith, lt))) (omega (arith, lt)) (omega (arith, m.clock, same))

      by : (what : What) → x.what ≡ what → 0 < count_in what k → Counted h k (count_in what k) (x.clock + 1)
      by (Given request) is more = absurd (omega (arith, more))
      by (Taken event) is more =
          larger event (took_of h n x event lawful s is) (nat_le (slice_index event.past k) (number_on k event)) refl refl more
      by (Made event) is more =
          counted_also h k (number_on k event) (number_on k event) (event.clock + 1) (x.clock + 1)
          (counted_itself n k event (made_of h n x event lawful s is) more) refl (omega (arith, made_clock h n x event lawful s is))
      by (Answered id reply) is more = absurd (omega (arith, more))

  counted_by : (fuel n k : ℕ) (event : Event) → k < SERVICE_LINKS → MadeAt h n event → event.clock < fuel → 0 < slice_index event.past k → Counted h k (slice_index event.past k) event.clock
  counted_by zero n k event lt m below some = absurd (omega (arith, below))
  counted_by (suc fuel) n k event lt m below some =
      let is = past-known h n event lawful m k lt in
      let at = known_at m.before k (omega (arith, some, is)) in
      let y = entry_with event.clock (Made event) in
      let less : at.at.clock < event.clock = within-earlier h n at.before at.at y lawful (made_stands h n event m) at.within in
      let stands = within_stands h n at.before at.at y (made_stands h n event m) at.within in
      counted_also h k (count_told at.at k) (slice_index event.past k) (at.at.clock + 1) event.clock
      (counted_here n k at.at stands (omega (arith, some, is, at.count))
      (λ f made earlier more. counted_by fuel (sender_of f.link) k f lt made (omega (arith, earlier, less, below)) more))
      (omega (arith, is, at.count)) (omega (arith, less))

  -- what the past of an event counts
  pub past-counted : (n k : ℕ) (event : Event) → k < SERVICE_LINKS → MadeAt h n event → 0 < slice_index event.past k → Counted h k (slice_index event.past k) event.clock
  past-counted n k event lt m some = counted_by (event.clock + 1) n k event lt m (omega arith) some
