use Rattle.std.proofs.Common.{◌∙◌, ap, sym}
use Rattle.std.specs.List.{slice_set}
use Rattle.std.proofs.lemmas.List.Edits.{map_over_more}
use Rattle.market_links.specs.SenderStates.{SenderState, with_release}
use Rattle.market_node.proofs.senders.release_each.Goals as goal

pub loop-sender-preserved : goal.loop-sender-preserved
loop-sender-preserved c =
    ap (λ (s : SenderState). slice_set c.loop-sender.senders c.loop-sender.sender-index s) c.release.ensures
    ∙ ap (λ (s : SenderState). slice_set c.loop-sender.senders c.loop-sender.sender-index (with_release s)) (sym c.sender-item.is)
    ∙ map_over_more with_release c.args.senders.now c.loop-sender.senders c.loop-sender.sender-index c.sender-item.result
    c.loop-sender-test.true c.loop-sender.invariant c.sender-item.is
