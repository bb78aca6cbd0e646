use Rattle.std.proofs.Common.{◌≡◌, ap, subst, sym, ◌∙◌}
use Rattle.market_events.specs.Links.{sender_of}
use Rattle.market_links.specs.Slots.{slot_from}
use Rattle.market_node.specs.Cores.{window_of}
use Rattle.market_rings.specs.declared.fates.Way.TheVariants.{Carry}
use Rattle.market_rings.specs.Fates.{FatesLeft, fates_at, with_fates}
use Rattle.market_rings.specs.NodeEnds.{NodeEnds, HaveSentEvents}
use Rattle.market_rings.specs.Pushes.{fates_left}
use Rattle.market_turns.proofs.Windows.{sent_link, none_left}
use Rattle.market_turns.proofs.sending.send_windows.Goals as goal

pub loop-slot-preserved : goal.loop-slot-preserved
loop-slot-preserved g c =
    let link = c.in-Some.link in
    let core = g.C.Core.state c.args.core.now in
    let before = c.loop-slot.ends in
    let after = c.send_events.new.self in
    let fates = c.loop-slot.fates in
    let from : sender_of c.in-Some.link ≡ (g.C.Core.state c.args.core.now).node = c.in-Some.ensures.from ∙ c.node-node.ensures ∙ c.journal.ensures.node in
    let it : HaveSentEvents c.loop-slot.ends c.send_events.new.self c.in-Some.link (window_of (g.C.Core.state c.args.core.now) c.in-Some.link) (fates_at c.loop-slot.fates Carry (slot_from c.in-Some.link)) =
    subst (λ es. HaveSentEvents before after link es (fates_at fates Carry (slot_from link))) c.window.ensures c.in_ok-send_events.ensures.sent in
    let used : c.send_events.new.fates ≡ with_fates c.loop-slot.fates Carry (slot_from c.in-Some.link) (fates_left (window_of (g.C.Core.state c.args.core.now) c.in-Some.link) (fates_at c.loop-slot.fates Carry (slot_from c.in-Some.link))) =
    subst (λ es. c.send_events.new.fates ≡ with_fates fates Carry (slot_from link) (fates_left es (fates_at fates Carry (slot_from link)))) c.window.ensures c.in_ok-send_events.ensures.fates in (
      sent_link _ slot_from _ _ c.args.ends.now.outs c.args.fates.now.carry before.outs after.outs fates.carry c.send_events.new.fates.carry c.loop-slot.slot link it.out
          c.loop-slot.invariant.0 (c.in-Some.ensures.link, from) c.in-Some.ensures.at_slot
          (λ other is at. let there = c.link_from.ensures.found other is.0 (is.1 ∙ sym (c.node-node.ensures ∙ c.journal.ensures.node)) at in let here = c.in-Some.is in cc)
          it.there (ap (λ (ends : NodeEnds). ends.outs) it.sent) (ap (λ (fs : FatesLeft). fs.carry) used) (none_left (window_of core link)),
      ap (λ (ends : NodeEnds). ends.ins) it.sent ∙ c.loop-slot.invariant.1,
      ap (λ (fs : FatesLeft). fs.ack) used ∙ c.loop-slot.invariant.2,
    )
