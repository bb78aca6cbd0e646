use Rattle.std.proofs.Common.{◌≡◌, ap, sym, ◌∙◌}
use Rattle.std.specs.List.{slice_index}
use Rattle.market_events.specs.Links.{sender_of}
use Rattle.market_links.specs.SenderStates.{window_of}
use Rattle.market_links.specs.Slots.{slot_from}
use Rattle.market_node.specs.Records.{RecordState}
use Rattle.market_node.specs.Sending.{sender_at, window_on}
use Rattle.market_node.proofs.SenderLaws.{window_shows, acknowledged-at}
use Rattle.market_node.proofs.recorder.Recorder.window.Goals as goal

pub returns : goal.returns
returns c =
    let old = c.self.inside in
    let from : sender_of c.args.link ≡ c.self.inside.journal.node = c.requires.from ∙ sym (ap (λ (r : RecordState). r.node) c.self.view_is) in
    c.window.ensures ∙ ap (λ i. window_of (sender_at old.senders i)) c.slot_at_sender.ensures.value
    ∙ window_shows old.journal.node old.journal.entries old.committed old.room old.senders c.args.link c.self.invariant.senders c.requires.link from
    ∙ ap (λ n. window_on c.args.link old.journal.entries old.committed n) (sym (acknowledged-at old.senders (slot_from c.args.link)))
    ∙ ap (λ (r : RecordState). window_on c.args.link r.entries r.committed (slice_index r.acknowledged (slot_from c.args.link))) c.self.view_is
