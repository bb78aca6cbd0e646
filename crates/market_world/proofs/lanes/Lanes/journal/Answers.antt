use Rattle.std.proofs.Common.{◌∙◌}
use Rattle.market_world.proofs.LaneOrder.{node_there}
use Rattle.market_world.proofs.lanes.Lanes.journal.Goals as goal

pub returns-clause-node : goal.returns-clause-node
returns-clause-node c = c.journal.ensures.node ∙ node_there c.self.inside.lanes.items c.self.invariant c.args.lane c.requires c.index.result.now c.index.ensures
