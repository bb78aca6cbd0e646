-- By the weights of the links.
use Rattle.market_laws.proofs.Bounds.Few.{few}
use Rattle.market_laws.proofs.laws.entries_are_few.Goals as goal

pub returns : goal.returns
returns c = few
