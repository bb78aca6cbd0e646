-- Nothing is known.
use Rattle.market_auditor.proofs.ClockSteps.{none_known}
use Rattle.market_auditor.proofs.clocks.Clocks.new.Goals as goal

pub returns : goal.returns
returns c = λ h n. none_known c.zero.result c.zero.ensures.len c.zero.ensures.each
