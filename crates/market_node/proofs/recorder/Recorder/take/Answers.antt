use Rattle.std.proofs.Common.{rules, ◌≡◌, ◌+◌, ◌^◌, ◌<◌, length, ap, sym, ◌∙◌, refl, arith}
use Rattle.market_events.specs.declared.events.Offer.TheVariants as offer
use Rattle.market_events.specs.declared.events.What.TheVariants.{Taken}
use Rattle.market_events.specs.Links.{receiver_of}
use Rattle.market_events.specs.Offers.{offer_of}
use Rattle.market_history.specs.Causality.{events_taken}
use Rattle.market_history.specs.Stamps.{clock_before}
use Rattle.market_node.specs.Records.{RecordState}
use Rattle.market_node.proofs.GrownLaws.{sending_quiet, settled_still}
use Rattle.market_node.proofs.NoteLaws.{HaveRoom-less}
use Rattle.market_node.proofs.RecordLaws.{at_most-push, entry_at, notes_taken, taken_entry}
use Rattle.market_node.proofs.recorder.Recorder.take.Goals as goal

pub write-requires-clause-entry : goal.write-requires-clause-entry
write-requires-clause-entry c =
    let old = c.self.inside in
    let into : receiver_of c.args.event.link ≡ c.self.inside.journal.node = c.requires.into ∙ sym (ap (λ (r : RecordState). r.node) c.self.view_is) in
    let due : offer_of c.self.inside.journal.node (events_taken c.self.inside.journal.entries) c.args.event ≡ offer.Take = ap (λ (r : RecordState). offer_of r.node (events_taken r.entries) c.args.event) c.self.view_is ∙ c.requires.due in
    let few : length c.self.inside.journal.entries ≡ length c.args.self.now.entries = ap (λ (r : RecordState). length r.entries) c.self.view_is in
    let before : clock_before c.self.inside.journal.entries ≡ clock_before c.args.self.now.entries = ap (λ (r : RecordState). clock_before r.entries) c.self.view_is in
    let last = c.self.invariant.notes.clock in
    let clock = c.requires.clock in
    let top = c.max.ensures in
    let short : c.args.event.number < 2 ^ 32 = search rules in
    taken_entry old.journal.node old.journal.entries (c.max.result + 1) c.args.event c.self.invariant.node_high (omega (arith, c.requires.few)) (omega arith) (omega arith) short
    c.merge.ensures.in_range c.requires.link c.requires.carried c.requires.own c.requires.formed into due

pub invariant_of-self : goal.invariant_of-self
invariant_of-self c =
    let old = c.self.inside in
    let new = c.write.new.journal in
    let into : receiver_of c.args.event.link ≡ c.self.inside.journal.node = c.requires.into ∙ sym (ap (λ (r : RecordState). r.node) c.self.view_is) in
    let due : offer_of c.self.inside.journal.node (events_taken c.self.inside.journal.entries) c.args.event ≡ offer.Take = ap (λ (r : RecordState). offer_of r.node (events_taken r.entries) c.args.event) c.self.view_is ∙ c.requires.due in
    record {
      node_high = omega (arith, c.write.ensures.node, c.self.invariant.node_high);
      notes = notes_taken old.journal.node new.node old.journal.entries new.entries old.clock (c.max.result + 1) c.args.event
          old.known c.merge.new.self c.raise.new.counts old.received.services c.advance.new.self.services old.received.receivers c.advance.new.self.receivers old.lists
          c.self.invariant.notes c.requires.link into due c.write.ensures.node c.write.ensures.entries
          c.merge.ensures.len c.merge.ensures.merged c.raise.ensures.raised c.advance.ensures.services c.advance.ensures.receivers;
      committed = at_most-push old.journal.entries new.entries (entry_at (c.max.result + 1) (Taken c.args.event)) old.committed c.write.ensures.entries c.self.invariant.committed;
      spared = omega (arith, c.write.ensures.spare, c.self.invariant.spared);
      rooms = HaveRoom-less old.lists old.room c.self.invariant.rooms;
      senders = sending_quiet old.journal.node new.node old.journal.entries new.entries (entry_at (c.max.result + 1) (Taken c.args.event)) old.committed c.write.ensures.node c.write.ensures.entries c.self.invariant.committed
          old.room old.senders (λ link. refl) c.self.invariant.senders;
      settled = settled_still old.journal.node new.node old.journal.entries new.entries (entry_at (c.max.result + 1) (Taken c.args.event)) old.committed c.write.ensures.node c.write.ensures.entries c.self.invariant.committed
          old.settled c.self.invariant.settled;
    }
