-- No event of any link.
use Rattle.market_auditor.proofs.NumberSteps.{none_seen}
use Rattle.market_auditor.proofs.numbers.Numbers.new.Goals as goal

pub returns : goal.returns
returns c = λ h n. none_seen n _ _ c.new.ensures c.new-2.ensures
