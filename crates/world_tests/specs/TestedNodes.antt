-- What the tests keep of a lane's core.
use Rattle.std.specs.Prelude.{◌≡◌, ℕ, ◌+◌, ◌*◌, ◌≤◌, ◌%◌, length}
use Rattle.market_events.specs.declared.lanes.TheConstants.{LANES}
use Rattle.market_events.specs.Links.{lane_node}
use Rattle.market_history.specs.Stamps.{clock_before}
use Rattle.market_node.specs.Cores.{CoreState}

-- the node of the lane of caller 7
abbrev pub tested_node : ℕ
tested_node = lane_node (7 % LANES)

-- it is the core of this lane, with few entries and a low clock
pub record IsSmall (core : CoreState) : Type 0 where
  pub node : core.node ≡ tested_node
  pub few : length core.entries ≤ 1_000_000
  pub clock : clock_before core.entries ≤ 1_000_000

-- it is the core of this lane after at most so many requests that were answered
pub record IsWithin (requests : ℕ) (core : CoreState) : Type 0 where
  pub node : core.node ≡ tested_node
  pub few : length core.entries ≤ 4 * requests
  pub clock : clock_before core.entries ≤ 20 * requests

-- it got at most two entries, and its clock rose by at most ten
pub record GrewLittle (old new : CoreState) : Type 0 where
  pub node : new.node ≡ old.node
  pub few : length new.entries ≤ length old.entries + 2
  pub clock : clock_before new.entries ≤ clock_before old.entries + 10
