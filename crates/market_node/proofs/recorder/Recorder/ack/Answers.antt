use Rattle.std.proofs.Common.{◌≡◌, ap, subst, sym, ◌∙◌}
use Rattle.std.specs.List.{slice_index, slice_set}
use Rattle.market_events.specs.Links.{sender_of}
use Rattle.market_links.specs.SenderStates.{with_ack}
use Rattle.market_links.specs.Slots.{slot_from}
use Rattle.market_node.specs.Records.{RecordState}
use Rattle.market_node.specs.Sending.{AreSenders, acknowledged_of, sender_at, with_count}
use Rattle.market_node.proofs.RecordLaws.{state}
use Rattle.market_node.proofs.SenderLaws.{senders_acked, acknowledged-ack}
use Rattle.market_node.proofs.recorder.Recorder.ack.Goals as goal

pub invariant_of-self : goal.invariant_of-self
invariant_of-self c =
    let old = c.self.inside in
    let from : sender_of c.args.link ≡ c.self.inside.journal.node = c.requires.from ∙ sym (ap (λ (r : RecordState). r.node) c.self.view_is) in
    let set = c.ack.ensures ∙ ap (λ i. slice_set old.senders i (with_ack (sender_at old.senders i) c.args.count)) c.slot_at_sender.ensures.value in
    record {
      node_high = c.self.invariant.node_high;
      notes = c.self.invariant.notes;
      committed = c.self.invariant.committed;
      spared = c.self.invariant.spared;
      rooms = c.self.invariant.rooms;
      senders = subst (λ ss. AreSenders old.journal.node old.journal.entries old.committed old.room ss) (sym set)
          (senders_acked old.journal.node old.journal.entries old.committed old.room c.args.count old.senders c.args.link c.self.invariant.senders c.requires.link from);
      settled = c.self.invariant.settled;
    }

pub returns : goal.returns
returns c =
    let old = c.self.inside in
    let from : sender_of c.args.link ≡ c.self.inside.journal.node = c.requires.from ∙ sym (ap (λ (r : RecordState). r.node) c.self.view_is) in
    let set = c.ack.ensures ∙ ap (λ i. slice_set old.senders i (with_ack (sender_at old.senders i) c.args.count)) c.slot_at_sender.ensures.value in
    ap (λ ss. state old.journal.node old.journal.entries old.committed (acknowledged_of ss) old.room) set
    ∙ ap (λ ns. state old.journal.node old.journal.entries old.committed ns old.room)
    (acknowledged-ack old.journal.node old.journal.entries old.committed old.room c.args.count old.senders c.args.link c.self.invariant.senders c.requires.link from)
    ∙ ap (λ (r : RecordState). state r.node r.entries r.committed
    (slice_set r.acknowledged (slot_from c.args.link) (with_count c.args.link r.entries r.committed (slice_index r.acknowledged (slot_from c.args.link)) c.args.count)) r.room) c.self.view_is
