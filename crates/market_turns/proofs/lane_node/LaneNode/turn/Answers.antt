use Rattle.std.proofs.Common.{◌≡◌, subst, sym}
use Rattle.market_node.specs.Cores.{with_entries}
use Rattle.market_turns.specs.Queues.{LaneState, HasTurnedLane, with_queue, queue_after}
use Rattle.market_turns.specs.declared.lane_node.LaneNode.TheInside.{Inside}
use Rattle.market_turns.specs.Turns.{HasTurned}
use Rattle.market_turns.proofs.LaneTurns.{lane_turned}
use Rattle.market_turns.proofs.lane_node.LaneNode.turn.Goals as goal

pub returns : goal.returns
returns c =
    let node = c.self-inside.inside.0.0 in
    let fates = c.args.fates.now in
    let left = c.turn.new.fates in
    subst (λ (old : LaneState). HasTurnedLane old (record { node = record { core = c.ask_next.new.core; ends = node.ends }; queue = c.ask_next.new.queue.items }) fates left) c.self.view_is
    (lane_turned (record { node = c.self.inside.node; queue = c.self.inside.queue.items }) (record { core = node.core; ends = node.ends }) c.ask_next.new.core c.ask_next.new.queue.items fates left
    (subst (λ (i : Inside). HasTurned c.self.inside.node i.node fates left) (sym c.self-inside.view_is) c.in_ok-turn.ensures)
    (subst (λ (i : Inside). c.ask_next.new.core ≡ with_entries node.core (with_queue node.core.node node.core.entries i.queue.items)) c.self-inside.view_is c.in_ok-ask_next.ensures.asked)
    (subst (λ (i : Inside). c.ask_next.new.queue.items ≡ queue_after node.core.entries i.queue.items) c.self-inside.view_is c.in_ok-ask_next.ensures.left))
