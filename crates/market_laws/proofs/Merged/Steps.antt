-- The step of what can come to a node adds its block, and acts.
use Rattle.std.proofs.Common.{◌≡◌, ℕ, Some, inl, inr, ap, ◌∙◌}
use Rattle.market_events.specs.declared.events.Offer.TheVariants as offer
use Rattle.market_events.specs.Offers.{offer_of}
use Rattle.market_history.specs.declared.schedule.Give.TheVariants as give
use Rattle.market_history.specs.declared.schedule.Outcome.TheVariants as outcome
use Rattle.market_history.specs.Blocks.{Arrival, what_of}
use Rattle.market_history.specs.Causality.{events_taken}
use Rattle.market_history.specs.Histories.{Histories, journal_at}
use Rattle.market_history.specs.Lawful.{IsReadyAfter}
use Rattle.market_history.specs.Once.{give_of}
use Rattle.market_history.specs.Schedule.{with_block, event_at, offered, gave, after_give, after_offer, after_offered, outcome_of_offer, outcome_of, play_step}
use Rattle.market_laws.specs.Merged.{IsDone}
use Rattle.market_laws.proofs.Merged.Moves.{step_for}

-- an event that arrives is one that its sender made
abbrev pub IsFound : Histories → Arrival → Type 0
IsFound h (Arrival.Gives request) = Unit {0}
IsFound h (Arrival.Takes event) = event_at h event.link event.number ≡ Some event

module _ (h : Histories) (n : ℕ) where
  pub step-plays : (a : Arrival) → IsReadyAfter n (journal_at h n) (what_of a) → IsFound h a → play_step h (step_for a) ≡ with_block h n a
  unfolding play_step
  step-plays (Arrival.Gives r) ready found =
      let asked : gave h r ≡ give.Asked = ap (λ k. give_of (journal_at h k) r) ready.1 ∙ ready.2 in
      ap (after_give h r) asked ∙ ap (λ k. with_block h k (Arrival.Gives r)) ready.1
  step-plays (Arrival.Takes event) ready found =
      let taken : offered h event ≡ offer.Take = ap (λ k. offer_of k (events_taken (journal_at h k)) event) ready.1 ∙ ready.3 in
      ap (after_offered h) found ∙ ap (after_offer h event) taken ∙ ap (λ k. with_block h k (Arrival.Takes event)) ready.1

  pub step-acts : (a : Arrival) → IsReadyAfter n (journal_at h n) (what_of a) → IsFound h a → IsDone (outcome_of h (step_for a))
  unfolding outcome_of
  step-acts (Arrival.Gives r) ready found =
      let asked : gave h r ≡ give.Asked = ap (λ k. give_of (journal_at h k) r) ready.1 ∙ ready.2 in
      inl (ap (λ g. outcome.Gave g) asked)
  step-acts (Arrival.Takes event) ready found =
      let taken : offered h event ≡ offer.Take = ap (λ k. offer_of k (events_taken (journal_at h k)) event) ready.1 ∙ ready.3 in
      inr (ap (outcome_of_offer h) found ∙ ap (λ o. outcome.Offered o) taken)
