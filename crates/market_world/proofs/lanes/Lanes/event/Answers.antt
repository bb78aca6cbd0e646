use Rattle.std.proofs.Common.{sym, ◌∙◌}
use Rattle.market_world.proofs.LaneOrder.{node_there}
use Rattle.market_world.proofs.lanes.Lanes.event.Goals as goal

pub event-requires-clause-from : goal.event-requires-clause-from
event-requires-clause-from c = c.requires.from ∙ sym (node_there c.self.inside.lanes.items c.self.invariant c.args.lane c.requires.lane c.index.result.now c.index.ensures)
