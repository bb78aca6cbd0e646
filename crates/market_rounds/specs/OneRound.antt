-- A round of the nodes with their queues and fates.
use Rattle.std.specs.Prelude.{◌≡◌, ℕ, ◌<◌, List, Some, is_some, length, map, true}
use Rattle.market_events.specs.declared.links.Link.{Link}
use Rattle.market_events.specs.declared.nodes.TheConstants.{NODES}
use Rattle.market_events.specs.Links.{IsLink, sender_of, receiver_of}
use Rattle.market_rings.specs.declared.link_ends.LinkIn.{LinkIn}
use Rattle.market_rings.specs.NodeEnds.{in_at}
use Rattle.market_rounds.specs.Nodes.{FatedNode, at_node, node_by, with_ends, with_committed}
use Rattle.market_rounds.specs.Nodes.{HasTurnedWithQueue}
use Rattle.market_rounds.specs.Rounds.{HasMetBetween}

-- the ends of each link were brought together, and nothing else changed
pub record HaveAllMet (old new : List FatedNode) : Type 0 where
  pub many : length new ≡ NODES
  pub others : (n : ℕ) → n < NODES → at_node new n ≡ with_ends (at_node old n) (node_by new n).ends
  pub links : (link : Link) → IsLink link
      → HasMetBetween link (node_by old (sender_of link)).ends (node_by old (receiver_of link)).ends
      (node_by new (sender_of link)).ends (node_by new (receiver_of link)).ends
  pub only : (n slot : ℕ) (into : LinkIn) → n < NODES → in_at (node_by new n).ends slot ≡ Some into
      → is_some (in_at (node_by old n).ends slot) ≡ true

-- all nodes turned, the ends of each link were brought together, and all entries were committed
pub record IsOneRound (old new : List FatedNode) : Type 0 where
  pub turned : List FatedNode
  pub met : List FatedNode
  pub turns : (n : ℕ) → n < NODES → HasTurnedWithQueue (at_node old n) (at_node turned n)
  pub meeting : HaveAllMet turned met
  pub committed : new ≡ map with_committed met
