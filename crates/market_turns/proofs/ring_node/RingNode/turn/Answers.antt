use Rattle.std.proofs.Common.{subst, sym}
use Rattle.market_node.specs.Cores.{CoreState}
use Rattle.market_node.specs.Offered.{CanTakeAll}
use Rattle.market_turns.specs.Turns.{NodeState, CanTurn, HasTurned, arrivals}
use Rattle.market_turns.proofs.Turning.{still_waiting, has_turned}
use Rattle.market_turns.proofs.ring_node.RingNode.turn.Goals as goal

pub take_events-requires : goal.take_events-requires
take_events-requires g c =
    let can = g.C.Core.can_take in
    let takes : CanTurn g.C.Core.can_take (record { core = g.C.Core.state c.self.inside.core; ends = c.self.inside.ends }) = subst (CanTurn can) (sym c.self.view_is) c.requires in
    let still = still_waiting (record { core = g.C.Core.state c.self.inside.core; ends = c.self.inside.ends }) c.send_windows.new.ends c.send_counts.new.ends c.note_counts.new.ends c.note_counts.new.ends
    c.args.fates.now c.send_windows.new.fates c.send_counts.new.fates (g.C.Core.state c.note_counts.new.core) (g.C.Core.state c.note_counts.new.core)
    c.in_ok-send_windows.ensures.sent c.in_ok-send_windows.ensures.ins c.in_ok-send_windows.ensures.ack
    c.in_ok-send_counts.ensures.sent c.in_ok-send_counts.ensures.outs c.in_ok-send_counts.ensures.carry c.in_ok-send_counts.ensures.waiting
    c.in_ok-note_counts.ensures.popped c.in_ok-note_counts.ensures.same c.in_ok-note_counts.ensures.slots c.in_ok-note_counts.ensures.noted
    in
    subst (λ es. CanTakeAll can (g.C.Core.state c.note_counts.new.core).node (g.C.Core.state c.note_counts.new.core).entries es) (sym still)
    (subst (λ (s : CoreState). CanTakeAll can s.node s.entries (arrivals c.self.inside.ends)) (sym c.in_ok-note_counts.ensures.same) takes.takes)

pub returns : goal.returns
returns g c =
    subst (λ (old : NodeState). HasTurned old (record { core = g.C.Core.state c.take_events.new.core; ends = c.take_events.new.ends }) c.args.fates.now c.send_counts.new.fates) c.self.view_is
    (has_turned (record { core = g.C.Core.state c.self.inside.core; ends = c.self.inside.ends }) c.send_windows.new.ends c.send_counts.new.ends c.note_counts.new.ends c.take_events.new.ends
    c.args.fates.now c.send_windows.new.fates c.send_counts.new.fates (g.C.Core.state c.note_counts.new.core) (g.C.Core.state c.take_events.new.core)
    c.in_ok-send_windows.ensures.sent c.in_ok-send_windows.ensures.ins c.in_ok-send_windows.ensures.ack
    c.in_ok-send_counts.ensures.sent c.in_ok-send_counts.ensures.outs c.in_ok-send_counts.ensures.carry c.in_ok-send_counts.ensures.waiting
    c.in_ok-note_counts.ensures.popped c.in_ok-note_counts.ensures.same c.in_ok-note_counts.ensures.slots c.in_ok-note_counts.ensures.noted
    c.in_ok-take_events.ensures.popped c.in_ok-take_events.ensures.taken)
