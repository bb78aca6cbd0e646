use Rattle.std.proofs.Common.{◌≡◌, ◌∙◌, ◌+◌, ◌∷◌, [], ◌++◌, List, ap, sym, subst}
use Rattle.market_links.specs.SenderStates.{SenderState}
use Rattle.market_node.proofs.SendingLaws.{AreFresh, fresh_next}
use Rattle.market_node.proofs.senders.Senders.new.Goals as goal

pub loop-slot-preserved : goal.loop-slot-preserved
loop-slot-preserved c =
    let pushed : c.push.new.self.items ≡ c.loop-slot.senders.items ++ c.new.result ∷ [] = c.in_ok-push.ensures.items in
    subst (λ (senders : List SenderState). AreFresh c.args.node senders (c.loop-slot.slot + 1))
    (sym (pushed ∙ ap (λ (s : SenderState). c.loop-slot.senders.items ++ s ∷ []) c.new.ensures))
    (fresh_next c.args.node c.loop-slot.senders.items c.loop-slot.slot c.unwrap_or-link.result c.loop-slot.invariant
    (λ other is from at. let there = c.link_from.ensures.found other is from at in cc))
