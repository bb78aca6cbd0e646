-- The lanes so far.
use Rattle.std.proofs.Common.{◌≡◌, [], replicate}
use Rattle.std.specs.Prelude.{map}
use Rattle.std.specs.List.{range_with_len}
use Rattle.market_events.specs.Links.{lane_node}
use Rattle.market_node.specs.Cores.{CoreState}
use Rattle.market_world.proofs.lanes.Lanes.new.Given as goal

abbrev pub invariant-loop-lane : goal.invariant-loop-lane
invariant-loop-lane l =
    (map (λ (core : CoreState). core.node) l.lanes.items ≡ range_with_len (lane_node 0) l.lane)
    × (map (λ (core : CoreState). core.entries) l.lanes.items ≡ replicate l.lane [])
