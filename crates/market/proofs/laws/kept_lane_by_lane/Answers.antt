-- The requests of one lane, by an induction over what was given.
use Rattle.market.proofs.Kept.LaneByLane.{of_lane-kept_of}
use Rattle.market.proofs.laws.kept_lane_by_lane.Goals as goal

pub returns : goal.returns
returns c = of_lane-kept_of
