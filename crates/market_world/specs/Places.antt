-- Where the cores stand.
use Rattle.std.specs.Prelude.{ℕ, ◌<◌}
use Rattle.market_events.specs.Links.{node_of, lane_node}
use Rattle.market_events.specs.declared.lanes.TheConstants.{LANES}
use Rattle.market_world.specs.declared.places.Place.{Place}
use Rattle.market_world.specs.declared.places.Place.TheVariants.{Service, Lane}

-- the node whose core stands there
abbrev pub node_at : Place → ℕ
node_at (Service role) = node_of role
node_at (Lane lane) = lane_node lane

-- a lane is one of the sixteen
abbrev pub IsPlace : Place → Type 0
IsPlace (Lane lane) = lane < LANES
IsPlace other = Unit {0}
