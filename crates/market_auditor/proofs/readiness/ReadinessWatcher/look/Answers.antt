-- An event that is taken, and an entry in which none is.
use Rattle.std.proofs.Common.{refl}
use Rattle.market_auditor.proofs.ReadySteps.{judged_taken, judged_quiet}
use Rattle.market_auditor.proofs.readiness.ReadinessWatcher.look.Goals as goal

pub returns : goal.returns
returns c = λ h n before saw at.
    judged_taken h n before c.args.entry.now at c.args.self.now.node c.args.self.now.taken saw c.in-Taken.event c.raise.new.counts c.is_ready-right.result c.in-Taken.is c.is_ready-right.ensures c.raise.ensures.raised

pub returns-in-Given : goal.returns-in-Given
returns-in-Given c = λ h n before saw at. judged_quiet h n before c.args.entry.now at c.args.self.now.node c.args.self.now.taken saw _ c.in-Given.is refl tt

pub returns-in-Made : goal.returns-in-Made
returns-in-Made c = λ h n before saw at. judged_quiet h n before c.args.entry.now at c.args.self.now.node c.args.self.now.taken saw _ c.in-Made.is refl tt

pub returns-in-Answered : goal.returns-in-Answered
returns-in-Answered c = λ h n before saw at. judged_quiet h n before c.args.entry.now at c.args.self.now.node c.args.self.now.taken saw _ c.in-Answered.is refl tt
