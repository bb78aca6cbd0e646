use Rattle.std.proofs.Common.{None, get_or, ap, sym, ◌∙◌}
use Rattle.shipment_service.specs.Tables.{put_at, group_of, queue_at}
use Rattle.shipment_service.proofs.Turns.{groups_of-more}
use Rattle.shipment_service.proofs.queues.Queues.pick.Goals as goal

pub loop-turn-preserved : goal.loop-turn-preserved
loop-turn-preserved c = λ n.
    let ts = c.args.served.now in
    let i = c.loop-turn.turn-index in
    let queues = c.args.self.now in
    c.in_ok-pick_of.ensures n
    ∙ ap (λ o. put_at n o (group_of (queue_at queues (get_or ts i (0, 0)).1))) (c.loop-turn.invariant n)
    ∙ sym (groups_of-more queues ts i (0, 0) n None c.loop-turn-test.true)
