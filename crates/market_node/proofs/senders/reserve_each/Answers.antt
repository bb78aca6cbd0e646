use Rattle.std.proofs.Common.{◌≡◌, ◌<◌, ◌∙◌, max, length, ap, arith}
use Rattle.std.specs.List.{slice_index_or}
use Rattle.std.proofs.lemmas.List.{get_or_default}
use Rattle.market_links.specs.SenderStates.{SenderState}
use Rattle.market_node.specs.Sending.{but_room, sender_at}
use Rattle.market_node.proofs.SendingLaws.{roomier_next}
use Rattle.market_node.proofs.senders.reserve_each.Goals as goal

pub loop-sender-preserved : goal.loop-sender-preserved
loop-sender-preserved c =
    let new = c.reserve_more.new.self in
    let below : c.loop-sender.sender-index < length c.loop-sender.senders = omega (arith, c.loop-sender-test.true, c.loop-sender.invariant.many) in
    let here = sender_at c.loop-sender.senders c.loop-sender.sender-index in
    let had : slice_index_or c.loop-sender.senders c.loop-sender.sender-index c.sender-item.result ≡ here = get_or_default c.loop-sender.senders c.loop-sender.sender-index c.sender-item.result _ below in
    let spare : new.spare ≡ max here.spare c.args.more = ap (λ (s : SenderState). s.spare) c.in_ok-reserve_more.ensures.ok ∙ ap (λ (s : SenderState). max s.spare c.args.more) had in
    roomier_next c.args.senders.now c.loop-sender.senders c.loop-sender.sender-index c.args.more new
    below (ap but_room c.in_ok-reserve_more.ensures.ok ∙ ap but_room had) (omega arith) c.loop-sender.invariant (omega arith)
