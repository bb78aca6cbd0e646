-- What the cores of the lanes are seen as.
use Rattle.std.specs.Prelude.{◌≡◌, List, map}
use Rattle.std.specs.List.{range_with_len}
use Rattle.market_events.specs.declared.lanes.TheConstants.{LANES}
use Rattle.market_world.specs.declared.lanes.Lanes.TheInside.{Inside}
use Rattle.market_events.specs.declared.events.Entry.{Entry}
use Rattle.market_events.specs.Links.{lane_node}
use Rattle.market_node.specs.Cores.{CoreState}

-- the entries of each lane, from lane 0 on
abbrev pub lane_entries : Inside → List (List Entry)
lane_entries a = map (λ (core : CoreState). core.entries) a.lanes.items

-- the lanes stand in order
abbrev pub AreLanes : Inside → Type 0
AreLanes a = map (λ (core : CoreState). core.node) a.lanes.items ≡ range_with_len (lane_node 0) LANES
