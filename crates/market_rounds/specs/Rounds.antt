-- One round: all nodes turn, the ends of each link are brought together, and all entries are committed.
use Rattle.std.specs.Prelude.{◌≡◌, ℕ, ◌<◌, List, Some, length}
use Rattle.std.specs.List.{AllByRecursion}
use Rattle.market_events.specs.declared.links.Link.{Link}
use Rattle.market_events.specs.declared.nodes.TheConstants.{NODES}
use Rattle.market_events.specs.declared.requests.Request.{Request}
use Rattle.market_events.specs.Links.{IsLink, sender_of, receiver_of}
use Rattle.market_links.specs.Slots.{slot_into, slot_from}
use Rattle.market_links.specs.declared.slots.TheConstants.{SLOTS}
use Rattle.market_rings.specs.declared.link_ends.LinkOut.{LinkOut}
use Rattle.market_rings.specs.declared.link_ends.LinkIn.{LinkIn}
use Rattle.market_rings.specs.Fates.{FatesLeft}
use Rattle.market_rings.specs.LinkEnds.{HasMet}
use Rattle.market_rings.specs.NodeEnds.{NodeEnds, out_at, in_at}
use Rattle.market_node.specs.Cores.{new_core}
use Rattle.market_rings.specs.Wiring.{HasLinkIn, ends_of}
use Rattle.market_turns.specs.Queues.{IsOwnRequest, entries_offered, with_entries_of, with_queue}
use Rattle.market_turns.specs.Turns.{NodeState, HasTurned}

-- a node turned, with this queue: a service's queue is empty
pub record HasTurnedNode (node new : NodeState) (queue : List Request) (fates left : FatesLeft) : Type 0 where
  pub links : HasTurned node (with_entries_of new (entries_offered node)) fates left
  pub entries : new.core.entries ≡ with_queue node.core.node (entries_offered node) queue
  pub slots : length new.core.acknowledged ≡ SLOTS

-- the ends of a link were brought together
pub record HasMetBetween (link : Link) (from to new_from new_to : NodeEnds) : Type 0 where
  pub out : LinkOut
  pub into : LinkIn
  pub new_out : LinkOut
  pub new_into : LinkIn
  pub at_sender : out_at from (slot_from link) ≡ Some out
  pub at_receiver : in_at to (slot_into link) ≡ Some into
  pub new_at_sender : out_at new_from (slot_from link) ≡ Some new_out
  pub new_at_receiver : in_at new_to (slot_into link) ≡ Some new_into
  pub met : HasMet out into new_out new_into

pub record IsRound (nodes turned met : ℕ → NodeState) (queues : ℕ → List Request)
    (fates left : ℕ → FatesLeft) : Type 0 where
  pub turns : (n : ℕ) → n < NODES → HasTurnedNode (nodes n) (turned n) (queues n) (fates n) (left n)
  pub own : (n : ℕ) → n < NODES → AllByRecursion (IsOwnRequest n) (queues n)
  pub cores : (n : ℕ) → n < NODES → (met n).core ≡ (turned n).core
  pub links : (link : Link) → IsLink link
      → HasMetBetween link (turned (sender_of link)).ends (turned (receiver_of link)).ends
      (met (sender_of link)).ends (met (receiver_of link)).ends
  pub only : (n slot : ℕ) (into : LinkIn) → n < NODES → in_at (met n).ends slot ≡ Some into
      → HasLinkIn n slot

-- a node with an empty journal and these ends
abbrev pub fresh_node : List NodeEnds → ℕ → NodeState
fresh_node all n = record { core = new_core n; ends = ends_of all n }
