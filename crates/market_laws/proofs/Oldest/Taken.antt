-- The oldest of the outstanding events is taken where it is offered: it is the next of its link, and what its past counts
-- was made before it, so none of that is outstanding.
use Rattle.std.proofs.Common.{◌≡◌, ℕ, ◌+◌, ◌<◌, ◌≤◌, ◌==◌, ◌&&◌, ◌||◌, not, Bool, true, false, nat_le, nat_lt, List, [], ◌∷◌, ◌++◌, Some, length, slice_index, if◌then◌else◌, refl, ap, sym, ◌∙◌, subst, append_assoc, length-append, arith}
use Rattle.std.specs.Prelude.{find}
use Rattle.std.specs.List.{AllByRecursion}
use Rattle.std.proofs.lemmas.Bool.Decides.{nat_tests}
use Rattle.market_events.specs.declared.events.Event.{Event}
use Rattle.market_events.specs.declared.events.Offer.TheVariants as offer
use Rattle.market_events.specs.declared.links.TheConstants.{SERVICE_LINKS}
use Rattle.market_events.specs.declared.links.Link.{Link}
use Rattle.market_events.specs.declared.links.Link.TheVariants.{Service}
use Rattle.market_events.specs.Links.{IsLink, sender_of, receiver_of}
use Rattle.market_events.specs.Offers.{taken_on, counts_of, is_ready, offer_by}
use Rattle.market_events.proofs.Values.Offers.{is_ready-true, slice_index-counts_of}
use Rattle.market_history.specs.declared.schedule.Outcome.TheVariants as outcome
use Rattle.market_history.specs.declared.schedule.Step.TheVariants as step
use Rattle.market_history.specs.Causality.{events_taken}
use Rattle.market_history.specs.Histories.{Histories, journal_at}
use Rattle.market_history.specs.Lawful.{IsLawful}
use Rattle.market_history.specs.Outstanding.{outstanding, is_no_later, IsOldest}
use Rattle.market_history.specs.Schedule.{event_at, offered, outcome_of, outcome_of_offer}
use Rattle.market_history.specs.Sent.{sent, got, IsNumbered}
use Rattle.market_history.proofs.SentLaws.{IsNumbered-at}
use Rattle.market_laws.proofs.Growth.Members.{all-at, all-by}
use Rattle.market_laws.proofs.Growth.Due.{taken_on-got}
use Rattle.market_laws.proofs.Pasts.Counted.{past-counted}
use Rattle.market_laws.proofs.Oldest.Places.{came, sent-parts, numbered, out-at, made-out}

-- the first that passes is found
find_first : {A : Type 0} (p : A → Bool) (us : List A) (x : A) (vs : List A) → AllByRecursion (λ y. p y ≡ false) us → p x ≡ true → find p (us ++ x ∷ vs) ≡ Some x
find_first p [] x vs none passes = rw passes refl
find_first p (u ∷ us) x vs none passes = rw none.0 (find_first p us x vs none.1 passes)

-- the event with the number past those before is found by it
find_number : (us : List Event) (event : Event) (vs : List Event) (number : ℕ) → IsNumbered (us ++ event ∷ vs) → event.number ≡ number → find (λ (e : Event). e.number == number) (us ++ event ∷ vs) ≡ Some event
find_number us event vs number all named =
    find_first (λ (e : Event). e.number == number) us event vs (all-by (λ (e : Event). (e.number == number) ≡ false) us each) (grind (arith, nat_tests))
  where
    own : event.number ≡ length us + 1
    own = IsNumbered-at us event vs all

    low : (front : List Event) (y : Event) (back : List Event) → us ≡ front ++ y ∷ back → length front < length us
    low front y back e = omega (arith, ap length e, length-append front (y ∷ back))

    each : (front : List Event) (y : Event) (back : List Event) → us ≡ front ++ y ∷ back → (y.number == number) ≡ false
    each front y back e =
        let placed : us ++ event ∷ vs ≡ front ++ y ∷ (back ++ event ∷ vs) = ap (λ l. l ++ event ∷ vs) e ∙ append_assoc front (y ∷ back) (event ∷ vs) in
        let there : y.number ≡ length front + 1 = IsNumbered-at front y (back ++ event ∷ vs) (subst (λ l. IsNumbered l) placed all) in
        let less : y.number < number = omega (arith, there, own, named, low front y back e) in
        grind (arith, nat_tests)

-- the next of its link is taken, where it is ready
take_by : (count number : ℕ) (ready : Bool) → number ≡ count + 1 → ready ≡ true
    → (if nat_le number count then offer.Old else if nat_lt (count + 1) number then offer.Ahead else if ready then offer.Take else offer.NotReady) ≡ offer.Take
take_by count number ready next is =
    let new : nat_le number count ≡ false = grind (arith, nat_tests) in
    let near : nat_lt (count + 1) number ≡ false = grind (arith, nat_tests) in
    rw new (rw near (rw is refl))

-- what is no later has no greater clock
no_later : (a b m n : ℕ) → (nat_lt a b || ((a == b) && nat_le m n)) ≡ true → a ≤ b
no_later a b m n is = grind (arith, nat_tests)

-- needed no further than taken
met_by : (receiver node past count : ℕ) → (receiver ≡ node → past ≤ count) → (not (receiver == node) || nat_le past count) ≡ true
met_by receiver node past count within = by (receiver == node) refl
  where
    by : (test : Bool) → (receiver == node) ≡ test → (not test || nat_le past count) ≡ true
    by true is = let le : past ≤ count = within (grind (arith, nat_tests)) in grind (arith, nat_tests)
    by false is = refl

module _ (h : Histories) (lawful : IsLawful h) (link : Link) (number : ℕ) (on : IsLink link) (o : IsOldest h link number) where
  abbrev here : List Event
  here = events_taken (journal_at h (receiver_of link))

  -- it is found by its number
  pub oldest-named : event_at h link number ≡ Some o.event
  oldest-named =
      let parts : sent link (journal_at h (sender_of link)) ≡ came h link ++ o.event ∷ o.rest = sent-parts h lawful link on ∙ ap (λ l. came h link ++ l) o.first in
      ap (find (λ (e : Event). e.number == number)) parts
      ∙ find_number (came h link) o.event o.rest number (subst (λ l. IsNumbered l) parts (numbered h lawful link on)) o.named

  -- no outstanding event has a smaller clock
  least_clock : (other : Link) → IsLink other → (front : List Event) (event : Event) (back : List Event) → outstanding h other ≡ front ++ event ∷ back → o.event.clock ≤ event.clock
  least_clock other among front event back is =
      let each = subst (AllByRecursion (λ (e : Event). is_no_later o.event e ≡ true)) is (o.least other among) in
      no_later o.event.clock event.clock (sender_of o.event.link) (sender_of event.link) (all-at (λ (e : Event). is_no_later o.event e ≡ true) front event back each)

  -- no event that its past counts is outstanding
  past_within : (k : ℕ) → k < SERVICE_LINKS → receiver_of (Service k) ≡ receiver_of link → slice_index o.event.past k ≤ slice_index (counts_of here) k
  past_within k lt into = by (nat_le (slice_index o.event.past k) (slice_index (counts_of here) k)) refl
    where
      late : slice_index (counts_of here) k < slice_index o.event.past k → ⊥
      late more =
          let out = out-at h lawful link on [] o.event o.rest o.first in
          let counted = past-counted h lawful (sender_of link) k o.event lt out.made (omega (arith, more)) in
          let count : slice_index (counts_of here) k ≡ length (came h (Service k)) =
          slice_index-counts_of here k lt ∙ taken_on-got (Service k) (journal_at h (receiver_of link)) ∙ ap (λ n. length (got (Service k) (journal_at h n))) (sym into) in
          let place = made-out h lawful (Service k) lt counted.event counted.made counted.on (omega (arith, counted.number, more, count)) in
          omega (arith, least_clock (Service k) lt place.0 counted.event place.1 place.2, counted.clock)

      by : (test : Bool) → nat_le (slice_index o.event.past k) (slice_index (counts_of here) k) ≡ test → slice_index o.event.past k ≤ slice_index (counts_of here) k
      by true is = grind (arith, nat_tests)
      by false is = absurd (late (grind (arith, nat_tests)))

  oldest_ready : is_ready (receiver_of link) (counts_of here) o.event.past ≡ true
  oldest_ready =
      is_ready-true (receiver_of link) (counts_of here) o.event.past
      (λ k lt. met_by (receiver_of (Service k)) (receiver_of link) (slice_index o.event.past k) (slice_index (counts_of here) k) (past_within k lt))

  -- it is taken
  pub oldest-taken : offered h o.event ≡ offer.Take
  oldest-taken =
      let out = out-at h lawful link on [] o.event o.rest o.first in
      let taken : offer_by (taken_on here link) (receiver_of link) (counts_of here) o.event ≡ offer.Take =
      take_by (taken_on here link) o.event.number (is_ready (receiver_of link) (counts_of here) o.event.past)
      (omega (arith, out.number, taken_on-got link (journal_at h (receiver_of link)))) oldest_ready in
      subst (λ l. offer_by (taken_on (events_taken (journal_at h (receiver_of l))) l) (receiver_of l) (counts_of (events_taken (journal_at h (receiver_of l)))) o.event ≡ offer.Take) (sym out.on) taken

  -- so that is what comes of the offer
  pub oldest-outcome : outcome_of h (step.Offer link number) ≡ outcome.Offered offer.Take
  unfolding outcome_of
  oldest-outcome = ap (outcome_of_offer h) oldest-named ∙ ap outcome.Offered oldest-taken
