-- What rounds leave when they have settled all.
use Rattle.std.specs.Prelude.{◌≡◌, ℕ, ◌<◌, ◌==◌, List, [], ◌++◌, filter, take}
use Rattle.market_events.specs.declared.lanes.TheConstants.{LANES}
use Rattle.market_events.specs.declared.nodes.TheConstants.{NODES}
use Rattle.market_events.specs.declared.requests.Request.{Request}
use Rattle.market_events.specs.Links.{lane_node}
use Rattle.market_events.specs.Requests.{lane_of}
use Rattle.market_history.specs.Histories.{journal_at}
use Rattle.market_history.specs.Once.{kept_by, most_kept, once_after}
use Rattle.market_history.specs.Sent.{IsPrefixOf}
use Rattle.market_rounds.specs.Nodes.{FatedNode, histories_by, queue_by}

-- every journal begins as it was, and each lane keeps its requests and those of its queue, each once, as many
-- as it can keep
pub record HaveGoneOn (old new : List FatedNode) : Type 0 where
  pub begun : (n : ℕ) → n < NODES
      → IsPrefixOf (journal_at (histories_by old) n) (journal_at (histories_by new) n)
  pub due : (lane : ℕ) → lane < LANES
      → take most_kept (once_after [] (kept_by (histories_by new) lane ++ queue_by new (lane_node lane)))
      ≡ take most_kept (once_after [] (kept_by (histories_by old) lane ++ queue_by old (lane_node lane)))

-- the requests of a lane
abbrev pub requests_of : ℕ → List Request → List Request
requests_of lane given = filter (λ (r : Request). lane_of r.id == lane) given

-- each lane has its own of these requests at the end of its queue, and no journal changed
pub record AreGiven (given : List Request) (old new : List FatedNode) : Type 0 where
  pub histories : histories_by new ≡ histories_by old
  pub queued : (lane : ℕ) → lane < LANES
      → queue_by new (lane_node lane) ≡ queue_by old (lane_node lane) ++ requests_of lane given
