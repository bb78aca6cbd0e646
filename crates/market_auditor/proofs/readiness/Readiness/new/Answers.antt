-- No event was taken.
use Rattle.market_auditor.proofs.ReadySteps.{none_taken}
use Rattle.market_auditor.proofs.readiness.Readiness.new.Goals as goal

pub returns : goal.returns
returns c = λ h. none_taken c.args.node c.zero.result c.zero.ensures.len c.zero.ensures.each
