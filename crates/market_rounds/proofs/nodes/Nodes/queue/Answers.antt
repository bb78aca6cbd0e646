use Rattle.std.proofs.Common.{arith, subst, sym}
use Rattle.market_events.specs.Links.{lane_node}
use Rattle.market_rounds.specs.Nodes.{AreReady}
use Rattle.market_rounds.proofs.QueuedNodes.{queued_ok}
use Rattle.market_rounds.proofs.nodes.Nodes.queue.Goals as goal

pub returns-clause-ready : goal.returns-clause-ready
returns-clause-ready c ready own =
    queued_ok c.queue.result c.self.inside.groups c.queue.new.self (lane_node c.args.lane) c.args.requests.items (subst AreReady (sym c.self.view_is) ready) (omega (arith, c.requires)) own c.queue.ensures
