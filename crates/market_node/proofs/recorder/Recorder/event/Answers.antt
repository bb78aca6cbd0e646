use Rattle.std.proofs.Common.{◌≡◌, ◌-◌, List, length, refl, ap, sym, ◌∙◌}
use Rattle.std.specs.Option.{option_copied}
use Rattle.std.specs.Prelude.{slice_get}
use Rattle.std.proofs.lemmas.Option.{slice_get_past, slice_get_read}
use Rattle.market_events.specs.declared.events.Entry.{Entry}
use Rattle.market_events.specs.Links.{sender_of}
use Rattle.market_history.specs.Sent.{event_made_on}
use Rattle.market_node.specs.Records.{RecordState}
use Rattle.market_node.specs.Notes.{event_with}
use Rattle.market_node.proofs.PlaceLaws.{event_with-zero}
use Rattle.market_node.proofs.EventLaws.{no_event, event_found, noted_place}
use Rattle.market_node.proofs.ReadLaws.{of_entry}
use Rattle.market_node.proofs.recorder.Recorder.event.Goals as goal

pub returns-then-number-eq0 : goal.returns-then-number-eq0
returns-then-number-eq0 c =
    sym (ap (λ (r : RecordState). event_with c.args.link c.args.number r.entries) (sym c.self.view_is)
    ∙ ap (λ n. event_with c.args.link n c.self.inside.journal.entries) c.if-number-eq0.true
    ∙ event_with-zero c.args.link c.self.inside.journal.entries (c.self.invariant.notes.numbered c.args.link))

pub returns-in_err-place : goal.returns-in_err-place
returns-in_err-place c =
    let old = c.self.inside in
    let from : sender_of c.args.link ≡ c.self.inside.journal.node = c.requires.from ∙ sym (ap (λ (r : RecordState). r.node) c.self.view_is) in
    ap option_copied c.from_residual.ensures
    ∙ sym (no_event c.args.link old.journal.entries c.args.number (c.self.invariant.notes.numbered c.args.link) c.if-number-eq0.false
    (sym (noted_place old.journal.node old.journal.entries old.clock old.known old.received.services old.received.receivers old.lists c.args.link c.slot_at_sender.result (c.args.number - 1)
    c.self.invariant.notes c.requires.link from c.slot_at_sender.ensures.value) ∙ sym c.in_err-place.ensures))
    ∙ ap (λ (r : RecordState). event_with c.args.link c.args.number r.entries) c.self.view_is

pub returns-in_err-get : goal.returns-in_err-get
returns-in_err-get c =
    let old = c.self.inside in
    let from : sender_of c.args.link ≡ c.self.inside.journal.node = c.requires.from ∙ sym (ap (λ (r : RecordState). r.node) c.self.view_is) in
    ap option_copied c.from_residual-in_err-get.ensures
    ∙ ap (of_entry (event_made_on c.args.link)) (sym (slice_get_past c.entries-entries.result.now c.in_ok-place.place c.in_err-get.ensures.lookup.3))
    ∙ ap (λ (es : List Entry). of_entry (event_made_on c.args.link) (slice_get es c.in_ok-place.place)) c.entries-entries.ensures.value
    ∙ sym (event_found c.args.link old.journal.entries c.args.number c.in_ok-place.place (c.self.invariant.notes.numbered c.args.link) c.if-number-eq0.false
    (sym (noted_place old.journal.node old.journal.entries old.clock old.known old.received.services old.received.receivers old.lists c.args.link c.slot_at_sender.result (c.args.number - 1)
    c.self.invariant.notes c.requires.link from c.slot_at_sender.ensures.value) ∙ sym c.in_ok-place.ensures))
    ∙ ap (λ (r : RecordState). event_with c.args.link c.args.number r.entries) c.self.view_is

pub returns : goal.returns
returns c =
    let old = c.self.inside in
    let from : sender_of c.args.link ≡ c.self.inside.journal.node = c.requires.from ∙ sym (ap (λ (r : RecordState). r.node) c.self.view_is) in
    c.made_on.ensures
    ∙ ap (of_entry (event_made_on c.args.link)) (sym (slice_get_read c.entries-entries.result.now (length c.entries-entries.result.now) c.in_ok-place.place c.in_ok-get.field-0.now refl c.in_ok-get.ensures.lookup.3.0 c.in_ok-get.ensures.lookup.1))
    ∙ ap (λ (es : List Entry). of_entry (event_made_on c.args.link) (slice_get es c.in_ok-place.place)) c.entries-entries.ensures.value
    ∙ sym (event_found c.args.link old.journal.entries c.args.number c.in_ok-place.place (c.self.invariant.notes.numbered c.args.link) c.if-number-eq0.false
    (sym (noted_place old.journal.node old.journal.entries old.clock old.known old.received.services old.received.receivers old.lists c.args.link c.slot_at_sender.result (c.args.number - 1)
    c.self.invariant.notes c.requires.link from c.slot_at_sender.ensures.value) ∙ sym c.in_ok-place.ensures))
    ∙ ap (λ (r : RecordState). event_with c.args.link c.args.number r.entries) c.self.view_is
