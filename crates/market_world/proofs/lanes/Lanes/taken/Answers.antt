use Rattle.std.proofs.Common.{sym, ◌∙◌}
use Rattle.market_world.proofs.LaneOrder.{node_there}
use Rattle.market_world.proofs.lanes.Lanes.taken.Goals as goal

pub taken-requires-clause-into : goal.taken-requires-clause-into
taken-requires-clause-into c = c.requires.into ∙ sym (node_there c.self.inside.lanes.items c.self.invariant c.args.lane c.requires.lane c.index.result.now c.index.ensures)
