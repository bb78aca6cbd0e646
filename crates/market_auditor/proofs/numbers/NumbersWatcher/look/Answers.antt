-- An event that is made or taken, and an entry that is neither.
use Rattle.std.proofs.Common.{◌≡◌, ℕ, ◌+◌, true, slice_index, ap, subst, sym}
use Rattle.std.specs.Prelude.{◌↔◌}
use Rattle.std.specs.List.{slice_set}
use Rattle.market_history.specs.Sent.{event_made_on, got_on}
use Rattle.market_auditor.specs.Criteria.{HasNextNumber}
use Rattle.market_auditor.proofs.NumberSteps.{judged_made, judged_taken, numbers_quiet}
use Rattle.market_auditor.proofs.numbers.NumbersWatcher.look.Goals as goal

pub returns-in-Made : goal.returns-in-Made
returns-in-Made c = λ h n before saw at.
    judged_made h n before c.args.entry.now at c.args.self.now.made.counts c.args.self.now.taken.counts saw c.in-Made.event c.take_next.new.self.counts c.take_next.result c.in-Made.is
    (subst (λ (s : ℕ). (c.take_next.result ≡ true) ↔ (c.in-Made.event.number ≡ slice_index c.args.self.now.made.counts s + 1)) c.slot_at_sender.ensures.value c.take_next.ensures.next)
    (λ yes. subst (λ (s : ℕ). c.take_next.new.self.counts ≡ slice_set c.args.self.now.made.counts s c.in-Made.event.number) c.slot_at_sender.ensures.value (c.take_next.ensures.noted yes))

pub returns-in-Taken : goal.returns-in-Taken
returns-in-Taken c = λ h n before saw at.
    judged_taken h n before c.args.entry.now at c.args.self.now.made.counts c.args.self.now.taken.counts saw c.in-Taken.event c.take_next-in-Taken.new.self.counts c.take_next-in-Taken.result c.in-Taken.is
    (subst (λ (s : ℕ). (c.take_next-in-Taken.result ≡ true) ↔ (c.in-Taken.event.number ≡ slice_index c.args.self.now.taken.counts s + 1)) c.slot_at_receiver.ensures.value c.take_next-in-Taken.ensures.next)
    (λ yes. subst (λ (s : ℕ). c.take_next-in-Taken.new.self.counts ≡ slice_set c.args.self.now.taken.counts s c.in-Taken.event.number) c.slot_at_receiver.ensures.value (c.take_next-in-Taken.ensures.noted yes))

pub returns-in-Given : goal.returns-in-Given
returns-in-Given c = λ h n before saw at. (
  subst (HasNextNumber before) (sym c.in-Given.is) tt,
  numbers_quiet n before c.args.entry.now c.args.self.now.made.counts c.args.self.now.taken.counts saw (λ link. ap (event_made_on link) c.in-Given.is) (λ link. ap (got_on link) c.in-Given.is),
)

pub returns-in-Answered : goal.returns-in-Answered
returns-in-Answered c = λ h n before saw at. (
  subst (HasNextNumber before) (sym c.in-Answered.is) tt,
  numbers_quiet n before c.args.entry.now c.args.self.now.made.counts c.args.self.now.taken.counts saw (λ link. ap (event_made_on link) c.in-Answered.is) (λ link. ap (got_on link) c.in-Answered.is),
)
