-- How a lane goes through its queue of given requests: it passes over those that are kept, differ or find the
-- lane full, stops after one that it asks, and stops before one that has to wait.
use Rattle.std.specs.Prelude.{◌≡◌, ℕ, ◌-◌, ◌^◌, ◌<◌, ◌≤◌, List, [], ◌∷◌, length}
use Rattle.std.specs.List.{AllByRecursion}
use Rattle.market_events.specs.declared.events.Entry.{Entry}
use Rattle.market_events.specs.declared.requests.Request.{Request}
use Rattle.market_events.specs.Links.{lane_node}
use Rattle.market_events.specs.Requests.{lane_of}
use Rattle.market_events.specs.WellFormed.{IsRequest}
use Rattle.market_history.specs.declared.schedule.Give.{Give}
use Rattle.market_history.specs.declared.schedule.Give.TheVariants as give
use Rattle.market_history.specs.Blocks.{Arrival, grow}
use Rattle.market_history.specs.Once.{give_of}
use Rattle.market_history.specs.Stamps.{clock_before}
use Rattle.market_node.specs.Offered.{with_all_offered, FitsLane}
use Rattle.market_rings.specs.Fates.{FatesLeft}
use Rattle.market_turns.specs.Turns.{NodeState, CanTurn, HasTurned, arrivals}

-- what is left of the queue, by what is done with its first request
abbrev pub left_by : Give → Request → List Request → List Request → List Request
left_by give.Asked r rest passed = rest
left_by give.Waiting r rest passed = r ∷ rest
left_by other r rest passed = passed

abbrev pub queue_after : List Entry → List Request → List Request
queue_after entries [] = []
queue_after entries (r ∷ rs) = left_by (give_of entries r) r rs (queue_after entries rs)

-- what the entries become: with the block of the request that is asked, where one is
abbrev pub asked_by : Give → ℕ → List Entry → Request → List Entry → List Entry
asked_by give.Asked node entries r passed = grow node entries (Arrival.Gives r)
asked_by give.Waiting node entries r passed = entries
asked_by other node entries r passed = passed

abbrev pub with_queue : ℕ → List Entry → List Request → List Entry
with_queue node entries [] = entries
with_queue node entries (r ∷ rs) = asked_by (give_of entries r) node entries r (with_queue node entries rs)

-- a well-formed request of the lane
abbrev pub IsOwnRequest : ℕ → Request → Type 0
IsOwnRequest node r = IsRequest r × (lane_node (lane_of r.id) ≡ node)

-- the lane may be given the requests: its journal and its clock have room for what comes of one
pub record CanAsk (node : ℕ) (entries : List Entry) (queue : List Request) : Type 0 where
  pub own : AllByRecursion (IsOwnRequest node) queue
  pub few : length entries < 2 ^ 31
  pub clock : clock_before entries ≤ 2 ^ 62 - 8

-- a lane's core with its ends of rings and its queue
pub record LaneState : Type 0 where
  pub node : NodeState
  pub queue : List Request

-- the entries of a lane after the events that waited were offered
abbrev pub entries_offered : NodeState → List Entry
entries_offered node = with_all_offered node.core.node node.core.entries (arrivals node.ends)

pub record CanTurnLane (lane : LaneState) : Type 0 where
  pub links : CanTurn FitsLane lane.node
  pub asks : CanAsk lane.node.core.node (entries_offered lane.node) lane.queue

-- with other entries
abbrev pub with_entries_of : NodeState → List Entry → NodeState
with_entries_of node entries = record node { core = record node.core { entries = entries } }

-- a turn of a lane: that of its links, and then it went through its queue
pub record HasTurnedLane (old new : LaneState) (fates left : FatesLeft) : Type 0 where
  pub links : HasTurned old.node (with_entries_of new.node (entries_offered old.node)) fates left
  pub entries : new.node.core.entries
      ≡ with_queue old.node.core.node (entries_offered old.node) old.queue
  pub queue : new.queue ≡ queue_after (entries_offered old.node) old.queue
