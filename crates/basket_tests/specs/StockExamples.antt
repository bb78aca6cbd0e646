-- Steps of stock for tests.
use Rattle.std.specs.Prelude.{ℕ, List, [], ◌∷◌}
use Rattle.market_events.specs.declared.bodies.PricedLine.{PricedLine}
use Rattle.market_events.specs.declared.changes.Change.TheVariants as change
use Rattle.market_events.specs.Examples.{mug, cup, a_line}
use Rattle.market_events.specs.ExamplesStock.{hears, stocks}
use Rattle.market_events.specs.Steps.{Step}

-- three mugs and one cup
abbrev pub four_pieces : List Step
four_pieces = hears mug 1 (change.Created 1000 50) ∷ hears cup 1 (change.Created 1000 50) ∷ stocks 1 mug 3
    ∷ stocks 2 cup 1 ∷ []

-- lines of so many mugs and cups
abbrev pub mug_and_cup : ℕ → ℕ → List PricedLine
mug_and_cup mugs cups = a_line mug mugs 1000 50 0 ∷ a_line cup cups 1000 50 0 ∷ []
