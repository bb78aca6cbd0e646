use Rattle.std.proofs.Common.{◌-◌, ◌∙◌, ap, drop}
use Rattle.market_links.specs.SenderStates.{window_of}
use Rattle.market_links.proofs.SenderLemmas.{window_shown}
use Rattle.market_links.proofs.sender.Sender.window.Goals as goal

pub returns-clause-shown : goal.returns-clause-shown
returns-clause-shown c =
    rw c.deref.ensures.value (window_shown c.self.inside.gone c.min.result (c.self.inside.released - c.self.inside.acknowledged) (drop c.self.inside.gone c.self.inside.events.items) c.min.ensures)
    ∙ ap window_of c.self.view_is
