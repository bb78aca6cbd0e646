-- Steps of sellers for tests.
use Rattle.std.specs.Prelude.{ℕ, List, [], ◌∷◌}
use Rattle.market_events.specs.declared.bodies.PricedLine.{PricedLine}
use Rattle.market_events.specs.declared.replies.EntryRow.{EntryRow}
use Rattle.market_events.specs.declared.replies.Reply.TheVariants as reply
use Rattle.market_events.specs.declared.requests.Ask.TheVariants as ask
use Rattle.market_events.specs.Examples.{a_line, mug, request, answer, makes}
use Rattle.market_events.specs.Links.{seller_node}
use Rattle.market_events.specs.Steps.{Step}

-- a request for a dashboard, with what it shows
abbrev pub shown : ℕ → ℕ → ℕ → ℕ → ℕ → List EntryRow → Step
shown number seller point entries amount rows =
    makes (request seller_node number (ask.Dashboard seller))
    (answer seller_node number (reply.Dashboard point entries amount rows) ∷ [])

-- a second checkout, of one mug
abbrev pub one_mug : List PricedLine
one_mug = a_line mug 1 1000 50 0 ∷ []
