-- Both ways.
use Rattle.market_auditor.proofs.Lawfulness.{lawful-of, all-of}
use Rattle.market_auditor.proofs.laws.criteria_are_lawfulness.Goals as goal

pub returns : goal.returns
returns c = λ h is. (lawful-of h is, all-of h is)
