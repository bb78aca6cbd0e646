-- What the fields of a lane's core are seen as, and what they keep.
use Rattle.market_node.specs.declared.lane_core.LaneCore.TheInside.{Inside}
use Rattle.market_node.specs.Cores.{CoreState, core_of}
use Rattle.market_node.specs.Keeping.{KeepsRequests}
use Rattle.market_history.specs.Journals.{IsLane}

abbrev pub lane_state : Inside → CoreState
lane_state a = core_of a.recorder

pub record IsLaneCore (a : Inside) : Type 0 where
  pub lane : IsLane a.recorder.node
  pub keeps : KeepsRequests a.recorder.entries a.table.entries a.count a.waiting
