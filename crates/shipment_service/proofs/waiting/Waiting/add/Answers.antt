use Rattle.std.proofs.Common.{◌≡◌, []}
use Rattle.std.proofs.lemmas.Bool.{both_ways}
use Rattle.std.proofs.lemmas.Result.{on_ok_weaker, on_err_weaker}
use Rattle.shipment_service.specs.Tables.{queue_at}
use Rattle.shipment_service.proofs.Lining.{add_behind, add_first, apart, put_back, waits_same}
use Rattle.shipment_service.proofs.waiting.Waiting.add.Goals as goal

pub returns-then-not-idle-clause-ok : goal.returns-then-not-idle-clause-ok
returns-then-not-idle-clause-ok c = λ waiting waits below.
    add_behind c.args.self.now.queues c.args.self.now.oldest waiting c.args.number c.args.item below c.line_up.new.self waits
    (λ empty. both_ways c.is_idle-idle.result c.if-not-idle.true (c.is_idle-idle.ensures.1 empty)) c.in_ok-line_up.ensures.ok

pub returns-then-is_err-clause-err : goal.returns-then-is_err-clause-err
returns-then-is_err-clause-err c =
    let queues = c.args.self.now.queues in
    let oldest = c.args.self.now.oldest in
    on_err_weaker c.put_all-put.result (λ same waiting waits below.
    waits_same queues oldest c.step_back.new.self c.put_all-put.new.self waiting
    (put_back queues oldest waiting c.args.number c.args.item below c.line_up.new.self c.step_back.new.self c.in_ok-line_up.ensures.ok c.step_back.ensures)
    (λ n. same n (apart queues oldest waiting c.args.number c.args.item below waits c.args.item.key.seller n)) waits)
    c.put_all-put.ensures.err

pub returns-else-is_err-clause-ok : goal.returns-else-is_err-clause-ok
returns-else-is_err-clause-ok c =
    let queues = c.args.self.now.queues in
    let oldest = c.args.self.now.oldest in
    let empty : queue_at queues c.args.item.key.seller ≡ [] = c.is_idle-idle.ensures.0 c.if-not-idle.false in
    on_ok_weaker c.put_all-put.result (λ put waiting waits below.
    add_first queues oldest waiting c.args.number c.args.item below c.line_up.new.self c.put_all-put.new.self waits empty c.in_ok-line_up.ensures.ok put)
    c.put_all-put.ensures.ok
