-- The ends of all rings, node by node.
use Rattle.std.specs.Prelude.{◌≡◌, ℕ, ◌<◌, List, Some, length, slice_index_or, slice_set}
use Rattle.market_events.specs.declared.links.Link.{Link}
use Rattle.market_events.specs.Links.{IsLink, index_of, sender_of, receiver_of}
use Rattle.market_events.specs.declared.nodes.TheConstants.{NODES}
use Rattle.market_links.specs.Slots.{slot_into, slot_from}
use Rattle.market_links.specs.declared.slots.TheConstants.{SLOTS}
use Rattle.market_rings.specs.LinkEnds.{IsNewLink}
use Rattle.market_rings.specs.NodeEnds.{NodeEnds, no_ends, out_at, in_at, with_in, with_link_out}
use Rattle.market_rings.specs.declared.link_ends.LinkOut.{LinkOut}
use Rattle.market_rings.specs.declared.link_ends.LinkIn.{LinkIn}

-- the ends at a node
abbrev pub ends_of : List NodeEnds → ℕ → NodeEnds
ends_of all node = slice_index_or all node no_ends

-- the ends at the link's sender and at its receiver are of the same two rings, on which nothing was pushed
pub record IsWired (all : List NodeEnds) (link : Link) : Type 0 where
  pub out : LinkOut
  pub into : LinkIn
  pub at_sender : out_at (ends_of all (sender_of link)) (slot_from link) ≡ Some out
  pub at_receiver : in_at (ends_of all (receiver_of link)) (slot_into link) ≡ Some into
  pub fresh : IsNewLink out into

-- some link out of the node has the slot
pub record HasLinkOut (node slot : ℕ) : Type 0 where
  pub link : Link
  pub is_link : IsLink link
  pub sender : sender_of link ≡ node
  pub at_slot : slot_from link ≡ slot

-- some link into the node has the slot
pub record HasLinkIn (node slot : ℕ) : Type 0 where
  pub link : Link
  pub is_link : IsLink link
  pub receiver : receiver_of link ≡ node
  pub at_slot : slot_into link ≡ slot

-- the links with the first indices are wired, and there are no other ends
pub record AreWired (all : List NodeEnds) (count : ℕ) : Type 0 where
  pub many : length all ≡ NODES
  pub outs_long : (node : ℕ) → length (ends_of all node).outs ≡ SLOTS
  pub ins_long : (node : ℕ) → length (ends_of all node).ins ≡ SLOTS
  pub wired : (link : Link) → IsLink link → index_of link < count → IsWired all link
  pub outs : (node slot : ℕ) (out : LinkOut) → out_at (ends_of all node) slot ≡ Some out
      → HasLinkOut node slot
  pub ins : (node slot : ℕ) (into : LinkIn) → in_at (ends_of all node) slot ≡ Some into → HasLinkIn node slot

-- with the ends of a link at its sender and at its receiver
abbrev pub with_sender : List NodeEnds → Link → LinkOut → List NodeEnds
with_sender all link out =
    slice_set all (sender_of link) (with_link_out (ends_of all (sender_of link)) (slot_from link) out)

abbrev pub with_receiver : List NodeEnds → Link → LinkIn → List NodeEnds
with_receiver all link into =
    slice_set all (receiver_of link) (with_in (ends_of all (receiver_of link)) (slot_into link) into)
