use Rattle.std.proofs.Common.{None, cond, get_or, take, ap, sym, ◌∙◌}
use Rattle.market_events.specs.Entries.{entry_at}
use Rattle.shipment_service.specs.Tables.{has_number}
use Rattle.shipment_service.proofs.Numbers.{has_number-more, one_taken}
use Rattle.shipment_service.proofs.oldest.Oldest.take_all.Goals as goal

pub loop-turn-preserved : goal.loop-turn-preserved
loop-turn-preserved c = λ n.
    let ts = c.args.turns.now in
    let i = c.loop-turn.turn-index in
    one_taken (get_or ts i (0, 0)).0 n (has_number (take i ts) n) (entry_at c.take.new.self n) (entry_at c.loop-turn.self n) (entry_at c.args.self.now n)
    (c.take.ensures n) (c.loop-turn.invariant n)
    ∙ sym (ap (λ b. cond b None (entry_at c.args.self.now n)) (has_number-more ts i (0, 0) n c.loop-turn-test.true))
