use Rattle.std.proofs.Common.{◌≡◌, ◌+◌, ◌-◌, ◌≤◌, ◌^◌, List, [], ◌∷◌, ◌++◌, length, slice_set, refl, ap, subst, sym, ◌∙◌, arith}
use Rattle.market_events.specs.declared.events.Entry.{Entry}
use Rattle.market_events.specs.declared.events.What.TheVariants.{Made}
use Rattle.market_events.specs.Counts.{AreCounts}
use Rattle.market_events.specs.Links.{sender_of}
use Rattle.market_history.specs.Blocks.{with_what, next_event}
use Rattle.market_history.specs.Stamps.{clock_before}
use Rattle.market_history.proofs.CoreEntries.{length-sent}
use Rattle.market_history.proofs.PastCounts.{journal-counts}
use Rattle.market_links.specs.Slots.{slot_from}
use Rattle.market_node.specs.Notes.{at_slot, HaveRoom}
use Rattle.market_node.specs.PlaceStates.{PlaceState}
use Rattle.market_links.specs.SenderStates.{next_number, with_event}
use Rattle.market_node.specs.Records.{RecordState}
use Rattle.market_node.specs.Sending.{acknowledged_of, sender_at}
use Rattle.market_node.proofs.GrownLaws.{sending_made, settled_still}
use Rattle.market_node.proofs.SenderLaws.{next_at, acknowledged-event}
use Rattle.market_events.specs.declared.bodies.Body.{Body}
use Rattle.market_node.proofs.NoteLaws.{HaveRoom-push}
use Rattle.market_node.proofs.RecordLaws.{at_most-push, entry_at, event_at, state, same_parts, noted_count, made_entry, notes_made, written_event}
use Rattle.market_node.proofs.recorder.Recorder.make.Goals as goal

pub overflow_cast-number : goal.overflow_cast-number
overflow_cast-number c =
    let old = c.self.inside in
    let from : sender_of c.args.link ≡ c.self.inside.journal.node = c.requires.from ∙ sym (ap (λ (r : RecordState). r.node) c.self.view_is) in
    let few : length c.self.inside.journal.entries ≡ length c.args.self.now.entries = ap (λ (r : RecordState). length r.entries) c.self.view_is in
    omega (
      arith,
      noted_count old.journal.node old.journal.entries old.clock old.known old.received.services old.received.receivers old.lists c.args.link c.slot_at_sender-slot.result c.len.result
          c.self.invariant.notes c.requires.link from c.slot_at_sender-slot.ensures.value c.len.ensures,
      length-sent c.args.link old.journal.entries,
      c.requires.few,
    )

pub overflow_add-number : goal.overflow_add-number
overflow_add-number c =
    let old = c.self.inside in
    let from : sender_of c.args.link ≡ c.self.inside.journal.node = c.requires.from ∙ sym (ap (λ (r : RecordState). r.node) c.self.view_is) in
    let few : length c.self.inside.journal.entries ≡ length c.args.self.now.entries = ap (λ (r : RecordState). length r.entries) c.self.view_is in
    omega (
      arith,
      noted_count old.journal.node old.journal.entries old.clock old.known old.received.services old.received.receivers old.lists c.args.link c.slot_at_sender-slot.result c.len.result
          c.self.invariant.notes c.requires.link from c.slot_at_sender-slot.ensures.value c.len.ensures,
      length-sent c.args.link old.journal.entries,
      c.requires.few,
    )

pub write-requires-clause-entry : goal.write-requires-clause-entry
write-requires-clause-entry c =
    let old = c.self.inside in
    let from : sender_of c.args.link ≡ c.self.inside.journal.node = c.requires.from ∙ sym (ap (λ (r : RecordState). r.node) c.self.view_is) in
    let few : length c.self.inside.journal.entries ≡ length c.args.self.now.entries = ap (λ (r : RecordState). length r.entries) c.self.view_is in
    let before : clock_before c.self.inside.journal.entries ≡ clock_before c.args.self.now.entries = ap (λ (r : RecordState). clock_before r.entries) c.self.view_is in
    let low : c.self.inside.clock + 1 ≤ 2 ^ 62 = omega (arith, c.self.invariant.notes.clock, c.requires.clock) in
    made_entry old.journal.node old.journal.entries (old.clock + 1) (c.len.result + 1) c.args.link old.known c.args.body c.self.invariant.node_high (omega (arith, c.requires.few)) low
    (ap (λ n. n + 1) (noted_count old.journal.node old.journal.entries old.clock old.known old.received.services old.received.receivers old.lists c.args.link c.slot_at_sender-slot.result c.len.result
    c.self.invariant.notes c.requires.link from c.slot_at_sender-slot.ensures.value c.len.ensures))
    (subst AreCounts (sym c.self.invariant.notes.known) (journal-counts old.journal.node old.journal.entries c.entries.ensures.journal))
    c.requires.link from c.requires.carried c.requires.formed c.requires.own

pub append-requires-clause-next : goal.append-requires-clause-next
append-requires-clause-next c =
    let old = c.self.inside in
    let from : sender_of c.args.link ≡ c.self.inside.journal.node = c.requires.from ∙ sym (ap (λ (r : RecordState). r.node) c.self.view_is) in
    let made = noted_count old.journal.node old.journal.entries old.clock old.known old.received.services old.received.receivers old.lists c.args.link c.slot_at_sender-slot.result c.len.result
    c.self.invariant.notes c.requires.link from c.slot_at_sender-slot.ensures.value c.len.ensures in
    ap (λ n. n + 1) made
    ∙ sym (next_at old.journal.node old.journal.entries old.committed old.room old.senders c.args.link c.self.invariant.senders c.requires.link from)
    ∙ ap (λ i. next_number (sender_at old.senders i)) (sym c.slot_at_sender-slot.ensures.value)

pub invariant_of-self : goal.invariant_of-self
invariant_of-self c =
    let old = c.self.inside in
    let new = c.write.new.journal in
    let slot = c.slot_at_sender-slot.result in
    let from : sender_of c.args.link ≡ c.self.inside.journal.node = c.requires.from ∙ sym (ap (λ (r : RecordState). r.node) c.self.view_is) in
    let next = noted_count old.journal.node old.journal.entries old.clock old.known old.received.services old.received.receivers old.lists c.args.link slot c.len.result
    c.self.invariant.notes c.requires.link from c.slot_at_sender-slot.ensures.value c.len.ensures in
    let p : PlaceState = record { places = (at_slot c.self.inside.lists c.slot_at_sender-slot.result).places ++ length c.entries.result.now ∷ []; spare = (at_slot c.self.inside.lists c.slot_at_sender-slot.result).spare - 1 } in
    let event = event_at old.clock c.len.result c.args.link old.known c.args.body in
    record {
      node_high = omega (arith, c.write.ensures.node, c.self.invariant.node_high);
      notes = notes_made old.journal.node new.node old.journal.entries new.entries old.clock (old.clock + 1) event p
          old.known c.raise.new.counts old.received.services old.received.receivers old.lists c.push.new.self c.self.invariant.notes
          c.requires.link from (ap (λ n. n + 1) next) c.write.ensures.node c.write.ensures.entries
          (ap (λ i. (at_slot old.lists i).places ++ length c.entries.result.now ∷ []) c.slot_at_sender-slot.ensures.value
          ∙ ap (λ (es : List Entry). (at_slot old.lists (slot_from c.args.link)).places ++ length es ∷ []) c.entries.ensures.value)
          (c.push.ensures ∙ ap (λ i. slice_set old.lists i p) c.slot_at_sender-slot.ensures.value)
          c.raise.ensures.raised;
      committed = at_most-push old.journal.entries new.entries (entry_at (old.clock + 1) (Made event)) old.committed c.write.ensures.entries c.self.invariant.committed;
      spared = omega (arith, c.write.ensures.spare, c.self.invariant.spared);
      rooms = subst (λ (lists : List PlaceState). HaveRoom lists (old.room - 1)) (sym c.push.ensures)
          (HaveRoom-push old.lists slot old.room p (omega (arith, c.self.invariant.notes.listed, c.slot_at_sender-slot.ensures.in_range)) refl c.slot_at_sender-slot.ensures.in_range c.self.invariant.rooms);
      senders = sending_made old.journal.node new.node old.journal.entries new.entries (entry_at (old.clock + 1) (Made event)) old.committed c.write.ensures.node c.write.ensures.entries c.self.invariant.committed
          old.room old.senders c.append.new.self event refl c.requires.link from
          (c.append.ensures
          ∙ ap (λ i. slice_set old.senders i (with_event (sender_at old.senders i) (event_at old.clock c.len.result c.args.link old.known c.args.copy))) c.slot_at_sender-slot.ensures.value
          ∙ ap (λ (b : Body). slice_set old.senders (slot_from c.args.link) (with_event (sender_at old.senders (slot_from c.args.link)) (event_at old.clock c.len.result c.args.link old.known b))) c.requires.copy)
          c.self.invariant.senders;
      settled = settled_still old.journal.node new.node old.journal.entries new.entries (entry_at (old.clock + 1) (Made event)) old.committed c.write.ensures.node c.write.ensures.entries c.self.invariant.committed
          old.settled c.self.invariant.settled;
    }

pub returns : goal.returns
returns c =
    let old = c.self.inside in
    let new = c.write.new.journal in
    let from : sender_of c.args.link ≡ c.self.inside.journal.node = c.requires.from ∙ sym (ap (λ (r : RecordState). r.node) c.self.view_is) in
    let next = noted_count old.journal.node old.journal.entries old.clock old.known old.received.services old.received.receivers old.lists c.args.link c.slot_at_sender-slot.result c.len.result
    c.self.invariant.notes c.requires.link from c.slot_at_sender-slot.ensures.value c.len.ensures in
    let kept : acknowledged_of c.append.new.self ≡ acknowledged_of c.self.inside.senders =
    ap (λ ss. acknowledged_of ss) c.append.ensures ∙ acknowledged-event old.senders c.slot_at_sender-slot.result (event_at old.clock c.len.result c.args.link old.known c.args.copy) in
    subst (λ (r : RecordState). state new.node new.entries old.committed (acknowledged_of c.append.new.self) (old.room - 1) ≡ state r.node (with_what r.entries (Made (next_event r.entries c.args.link c.args.body))) r.committed r.acknowledged (r.room - 1)) c.self.view_is
    (same_parts new.node old.journal.node new.entries (with_what old.journal.entries (Made (next_event old.journal.entries c.args.link c.args.body))) old.committed old.committed (acknowledged_of c.append.new.self) (acknowledged_of old.senders) (old.room - 1) (old.room - 1) c.write.ensures.node
    (written_event old.journal.entries new.entries old.clock c.len.result c.args.link old.known c.args.body c.write.ensures.entries c.self.invariant.notes.clock next c.self.invariant.notes.known) refl kept refl)
