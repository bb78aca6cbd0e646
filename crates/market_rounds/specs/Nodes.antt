-- The nodes with what is in their queues and the fates of what they send.
use Rattle.std.specs.Prelude.{◌≡◌, ℕ, ◌<◌, List, [], ◌∷◌, ◌++◌, length, map, replicate, slice_index_or}
use Rattle.std.specs.List.{AllByRecursion}
use Rattle.market_amounts.specs.declared.keys.RequestId.{RequestId}
use Rattle.market_events.specs.declared.events.Entry.{Entry}
use Rattle.market_events.specs.declared.nodes.TheConstants.{NODES}
use Rattle.market_events.specs.declared.requests.Request.{Request}
use Rattle.market_events.specs.Links.{lane_node}
use Rattle.market_events.specs.Requests.{lane_of}
use Rattle.market_history.specs.declared.schedule.Step.{Step}
use Rattle.market_history.specs.Histories.{Histories}
use Rattle.market_history.specs.Outstanding.{IsSettled}
use Rattle.market_links.specs.declared.slots.TheConstants.{SLOTS}
use Rattle.market_node.specs.Cores.{new_core}
use Rattle.market_rings.specs.declared.fates.Fate.{Fate}
use Rattle.market_rings.specs.declared.fates.Way.{Way}
use Rattle.market_rings.specs.Fates.{FatesLeft, fates_at, with_fates}
use Rattle.market_rings.specs.NodeEnds.{NodeEnds, no_ends}
use Rattle.market_turns.specs.Queues.{IsOwnRequest, entries_offered, queue_after, with_entries_of, with_queue}
use Rattle.market_turns.specs.Turns.{NodeState, HasTurned, arrivals, with_node_committed}
use Rattle.market_rounds.specs.Between.{AreBetween}
use Rattle.market_rounds.specs.Turning.{turns_steps}

-- a node, the requests in its queue (a service has none), and the fates of what it sends
pub record FatedNode : Type 0 where
  pub node : NodeState
  pub queue : List Request
  pub fates : FatesLeft

abbrev pub no_fates : FatesLeft
no_fates = record { carry = replicate SLOTS []; ack = replicate SLOTS [] }

-- a node that did nothing, without ends
abbrev pub idle_node : ℕ → FatedNode
idle_node n = record { node = record { core = new_core n; ends = no_ends }; queue = []; fates = no_fates }

abbrev pub with_ends : FatedNode → NodeEnds → FatedNode
with_ends node ends = record node { node = record node.node { ends = ends } }

-- with requests more at the end of the queue
abbrev pub with_requests : FatedNode → List Request → FatedNode
with_requests node requests = record node { queue = node.queue ++ requests }

-- with one fate more at a slot
abbrev pub with_fate : FatedNode → Way → ℕ → Fate → FatedNode
with_fate node way slot fate =
    record node { fates = with_fates node.fates way slot (fates_at node.fates way slot ++ fate ∷ []) }

-- a node with no fates left
abbrev pub but_fates : FatedNode → FatedNode
but_fates node = record node { fates = no_fates }

abbrev pub with_committed : FatedNode → FatedNode
with_committed node = record node { node = with_node_committed node.node }

-- by number
abbrev pub at_node : List FatedNode → ℕ → FatedNode
at_node nodes n = slice_index_or nodes n (idle_node n)

abbrev pub node_by : List FatedNode → ℕ → NodeState
node_by nodes n = (at_node nodes n).node

abbrev pub queue_by : List FatedNode → ℕ → List Request
queue_by nodes n = (at_node nodes n).queue

abbrev pub fates_by : List FatedNode → ℕ → FatesLeft
fates_by nodes n = (at_node nodes n).fates

abbrev pub entries_of_node : FatedNode → List Entry
entries_of_node node = node.node.core.entries

-- the entries of the lane of a request with this id
abbrev pub entries_of_lane : List FatedNode → RequestId → List Entry
entries_of_lane nodes id = (at_node nodes (lane_node (lane_of id))).node.core.entries

-- the journals of the nodes
abbrev pub histories_by : List FatedNode → Histories
histories_by nodes = map entries_of_node nodes

-- the nodes between two rounds, with requests of its own in each queue
pub record AreReady (nodes : List FatedNode) : Type 0 where
  pub many : length nodes ≡ NODES
  pub between : AreBetween (histories_by nodes) (node_by nodes)
  pub own : (n : ℕ) → n < NODES → AllByRecursion (IsOwnRequest n) (queue_by nodes n)

-- every queue is empty, and every event that was made was taken
pub record AreDone (nodes : List FatedNode) : Type 0 where
  pub settled : IsSettled (histories_by nodes)
  pub queues : (n : ℕ) → n < NODES → queue_by nodes n ≡ []

-- a turn of a node, which then went through its queue
pub record HasTurnedWithQueue (old new : FatedNode) : Type 0 where
  pub links : HasTurned old.node (with_entries_of new.node (entries_offered old.node)) old.fates new.fates
  pub entries : new.node.core.entries
      ≡ with_queue old.node.core.node (entries_offered old.node) old.queue
  pub queue : new.queue ≡ queue_after (entries_offered old.node) old.queue

-- the steps of the schedule that a round is: those of node 0, then those of node 1, and so on
abbrev pub round_steps : List FatedNode → List Step
round_steps nodes =
    turns_steps (λ n. arrivals (node_by nodes n).ends) (queue_by nodes) (histories_by nodes) NODES
