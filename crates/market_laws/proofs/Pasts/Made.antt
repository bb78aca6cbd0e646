-- What an event that is made counts in its past: what its node made before on a service link (past-made), and what the
-- events counted that its node took before, with their own numbers (past-taken, past-number).
use Rattle.std.proofs.Common.{◌≡◌, ℕ, ◌<◌, ◌≤◌, List, ◌∷◌, ◌++◌, slice_index, ap, sym, ◌∙◌, subst, arith}
use Rattle.market_events.specs.declared.events.Entry.{Entry}
use Rattle.market_events.specs.declared.events.Event.{Event}
use Rattle.market_events.specs.declared.events.What.TheVariants.{Taken, Made}
use Rattle.market_events.specs.declared.links.TheConstants.{SERVICE_LINKS}
use Rattle.market_events.specs.declared.links.Link.TheVariants.{Service}
use Rattle.market_events.specs.Links.{same_link}
use Rattle.market_events.proofs.Values.Offers.{same_link-same}
use Rattle.market_history.specs.Causality.{number_on, count_told, known, past_of}
use Rattle.market_history.specs.Histories.{Histories}
use Rattle.market_history.specs.Lawful.{IsLawful}
use Rattle.market_history.proofs.CausalityLaws.{known-append, slice_index-past_of, number_on-same}
use Rattle.market_laws.specs.Cuts.{entry_with, StandsIn, TookAt, MadeAt}
use Rattle.market_laws.proofs.Clocks.Rising.{made_made, took_made}
use Rattle.market_laws.proofs.Origins.Places.{made_stands}
use Rattle.market_laws.proofs.Growth.Takers.{stands-due}

-- an entry's count is known
known_here : (before : List Entry) (x : Entry) (after : List Entry) (k : ℕ) → count_told x k ≤ known (before ++ x ∷ after) k
known_here before x after k = omega (arith, known-append before (x ∷ after) k)

known_within : (before : List Entry) (x : Entry) (j : List Entry) (k : ℕ) → StandsIn before x j → count_told x k ≤ known j k
known_within before x j k s = subst (λ l. count_told x k ≤ known l k) (sym s.is) (known_here before x s.after k)

-- an event on a service link counts by its number
number_on-service : (k : ℕ) (event : Event) → event.link ≡ Service k → number_on k event ≡ event.number
number_on-service k event on = number_on-same k event (ap (λ l. same_link l (Service k)) on ∙ same_link-same (Service k))

module _ (h : Histories) (n : ℕ) (event : Event) (lawful : IsLawful h) (m : MadeAt h n event) where
  -- its past is what is known before it
  pub past-known : (k : ℕ) → k < SERVICE_LINKS → slice_index event.past k ≡ known m.before k
  past-known k lt =
      let rests : event.past ≡ past_of m.before = (stands-due h n (entry_with event.clock (Made event)) lawful (made_stands h n event m)).rests in
      ap (λ past. slice_index past k) rests ∙ slice_index-past_of m.before k lt

  -- what its node made before on a service link
  pub past-made : (other : Event) (k : ℕ) → k < SERVICE_LINKS → MadeAt h n other → other.link ≡ Service k → other.clock < event.clock → other.number ≤ slice_index event.past k
  past-made other k lt o on less =
      let counted = known_within o.before (entry_with other.clock (Made other)) m.before k (made_made h n lawful other event o m less) in
      omega (arith, counted, past-known k lt, number_on-service k other on)

  -- what an event that its node took before counts
  pub past-taken : (other : Event) (k : ℕ) → k < SERVICE_LINKS → (t : TookAt h n other) → t.clock < event.clock → slice_index other.past k ≤ slice_index event.past k
  past-taken other k lt t less =
      let counted = known_within t.before (entry_with t.clock (Taken other)) m.before k (took_made h n lawful other event t m less) in
      omega (arith, counted, past-known k lt)

  -- and its number, where it is on a service link
  pub past-number : (other : Event) (k : ℕ) → k < SERVICE_LINKS → (t : TookAt h n other) → other.link ≡ Service k → t.clock < event.clock → other.number ≤ slice_index event.past k
  past-number other k lt t on less =
      let counted = known_within t.before (entry_with t.clock (Taken other)) m.before k (took_made h n lawful other event t m less) in
      omega (arith, counted, past-known k lt, number_on-service k other on)
