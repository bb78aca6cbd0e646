-- The count of a link stands at its slot.
use Rattle.std.proofs.Common.{◌≡◌, ap, ◌∙◌, sym}
use Rattle.market_events.specs.Links.{receiver_of}
use Rattle.market_events.specs.Offers.{taken_on}
use Rattle.market_history.specs.Causality.{events_taken}
use Rattle.market_node.specs.Records.{RecordState}
use Rattle.market_node.proofs.recorder.Recorder.taken.Goals as goal

pub returns : goal.returns
returns c =
    let into : receiver_of c.args.link ≡ c.self.inside.journal.node = c.requires.into ∙ sym (ap (λ (r : RecordState). r.node) c.self.view_is) in
    c.taken.ensures ∙ c.self.invariant.notes.receivers c.args.link c.requires.link into
    ∙ ap (λ (r : RecordState). taken_on (events_taken r.entries) c.args.link) c.self.view_is
