use Rattle.std.proofs.Common.{◌≡◌, None, map, ap, sym, ◌∙◌}
use Rattle.std.proofs.Math.Seq.{map-set_same}
use Rattle.market_events.specs.Links.{receiver_of}
use Rattle.market_links.specs.Slots.{slot_into}
use Rattle.market_rings.specs.declared.fates.Way.TheVariants.{Ack}
use Rattle.market_rings.specs.Fates.{FatesLeft, fates_at}
use Rattle.market_rings.specs.NodeEnds.{NodeEnds, HaveSentCounts}
use Rattle.market_turns.specs.Sent.{events_in}
use Rattle.market_turns.specs.Turns.{counts_sent}
use Rattle.market_turns.proofs.Windows.{sent_link, none_left}
use Rattle.market_turns.proofs.sending.send_counts.Goals as goal

pub loop-slot-preserved : goal.loop-slot-preserved
loop-slot-preserved g c =
    let link = c.in-Some.link in
    let core = g.C.Core.state c.args.core.now in
    let before = c.loop-slot.ends in
    let after = c.send_count.new.ends in
    let fates = c.loop-slot.fates in
    let into : receiver_of c.in-Some.link ≡ (g.C.Core.state c.args.core.now).node = c.in-Some.ensures.into ∙ c.node-node.ensures ∙ c.journal.ensures.node in
    let it : HaveSentCounts c.loop-slot.ends c.send_count.new.ends c.in-Some.link (counts_sent (g.C.Core.state c.args.core.now) c.in-Some.link) (fates_at c.loop-slot.fates Ack (slot_into c.in-Some.link)) =
    c.in_ok-send_count.ensures.sent in
    let used = c.in_ok-send_count.ensures.fates in (
      sent_link _ slot_into _ _ c.args.ends.now.ins c.args.fates.now.ack before.ins after.ins fates.ack c.send_count.new.fates.ack c.loop-slot.slot link it.into
          c.loop-slot.invariant.0 (c.in-Some.ensures.link, into) c.in-Some.ensures.at_slot
          (λ other is at. let there = c.link_into.ensures.found other is.0 (is.1 ∙ sym (c.node-node.ensures ∙ c.journal.ensures.node)) at in let here = c.in-Some.is in cc)
          it.there (ap (λ (ends : NodeEnds). ends.ins) it.sent) (ap (λ (fs : FatesLeft). fs.ack) used) (none_left (counts_sent core link)),
      ap (λ (ends : NodeEnds). ends.outs) it.sent ∙ c.loop-slot.invariant.1,
      ap (λ (fs : FatesLeft). fs.carry) used ∙ c.loop-slot.invariant.2,
      ap (λ (ends : NodeEnds). map events_in ends.ins) it.sent ∙ map-set_same events_in before.ins (slot_into link) _ None (ap events_in (sym it.there)) ∙ c.loop-slot.invariant.3,
    )
