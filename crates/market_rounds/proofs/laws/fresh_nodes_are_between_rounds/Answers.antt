use Rattle.market_rounds.proofs.FreshNodes.{fresh_between}
use Rattle.market_rounds.proofs.laws.fresh_nodes_are_between_rounds.Goals as goal

pub returns : goal.returns
returns c all wired only = fresh_between all wired only
