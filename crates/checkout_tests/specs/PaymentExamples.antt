-- Steps of payments for tests.
use Rattle.std.specs.Prelude.{ℕ, List, []}
use Rattle.market_events.specs.declared.bodies.Body.{Body}
use Rattle.market_events.specs.declared.bodies.Body.TheVariants as body
use Rattle.market_events.specs.declared.links.Link.{Link}
use Rattle.market_events.specs.declared.links.Link.TheVariants as link
use Rattle.market_events.specs.declared.requests.Ask.TheVariants as ask
use Rattle.market_events.specs.Examples.{an_id}
use Rattle.market_events.specs.declared.roles.Role.{Role}
use Rattle.market_events.specs.Links.{payment_node}
use Rattle.market_events.specs.Standing.{with_step}
use Rattle.market_events.specs.Steps.{Step}
use Rattle.service_driving.specs.declared.lane.TheConstants.{LANE}

-- the link on which the lane asks payments
abbrev pub from_lane : Link
from_lane = link.Asked LANE payment_node

-- the request of caller 7 with this number for a card of customer 7 with this limit
abbrev pub card_asked : ℕ → ℕ → Body
card_asked number limit = body.Asked (record { id = an_id 7 number; ask = ask.Card 7 limit })

-- a card with this limit was set
abbrev pub with_limit : ℕ → List Step
with_limit limit = with_step Role.Payment [] from_lane (card_asked 3 limit)
