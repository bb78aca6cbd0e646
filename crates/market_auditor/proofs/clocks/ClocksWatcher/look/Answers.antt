-- An event that is made or taken, and an entry that is neither.
use Rattle.std.proofs.Common.{◌≡◌, ℕ, ◌+◌, true, refl, subst}
use Rattle.std.specs.Prelude.{◌↔◌}
use Rattle.market_auditor.proofs.ClockSteps.{judged_made, judged_taken, judged_quiet}
use Rattle.market_auditor.proofs.clocks.ClocksWatcher.look.Goals as goal

pub returns-in-Made : goal.returns-in-Made
returns-in-Made c = λ h n before saw at.
    judged_made h n before c.args.entry.now at c.args.self.now.clock c.args.self.now.known saw c.in-Made.event c.raise.new.counts c.rests_on-right.result c.in-Made.is c.rests_on-right.ensures c.raise.ensures.raised

pub returns-in-Given : goal.returns-in-Given
returns-in-Given c = λ h n before saw at. judged_quiet h n before c.args.entry.now at c.args.self.now.clock c.args.self.now.known saw _ c.is_next-in-Given.result c.in-Given.is (λ k. refl) refl tt tt c.is_next-in-Given.ensures

pub returns-in-Answered : goal.returns-in-Answered
returns-in-Answered c = λ h n before saw at. judged_quiet h n before c.args.entry.now at c.args.self.now.clock c.args.self.now.known saw _ c.is_next-in-Answered.result c.in-Answered.is (λ k. refl) refl tt tt c.is_next-in-Answered.ensures

pub returns-in-Taken : goal.returns-in-Taken
returns-in-Taken c = λ h n before saw at.
    judged_taken h n before c.args.entry.now at c.args.self.now.clock c.args.self.now.known saw c.in-Taken.event c.merge.new.self c.raise-in-Taken.new.counts c.is_next.result c.in-Taken.is
    (subst (λ (m : ℕ). (c.is_next.result ≡ true) ↔ (c.args.entry.now.clock ≡ m + 1)) c.max.ensures c.is_next.ensures)
    c.merge.ensures.merged c.merge.ensures.len c.raise-in-Taken.ensures.raised
