-- What was sent on the links of a node.
use Rattle.std.specs.Prelude.{◌≡◌, Option, Some, None}
use Rattle.market_events.specs.declared.events.Event.{Event}
use Rattle.market_events.specs.declared.links.Link.{Link}
use Rattle.market_links.specs.Slots.{slot_into, slot_from}
use Rattle.market_node.specs.Cores.{CoreState, window_of}
use Rattle.market_rings.specs.declared.fates.Way.TheVariants.{Carry, Ack}
use Rattle.market_rings.specs.declared.link_ends.LinkOut.{LinkOut}
use Rattle.market_rings.specs.declared.link_ends.LinkIn.{LinkIn}
use Rattle.market_rings.specs.Fates.{FatesLeft, fates_at}
use Rattle.market_rings.specs.NodeEnds.{NodeEnds, out_at, in_at}
use Rattle.market_rings.specs.Pushes.{fates_left}
use Rattle.market_rings.specs.RingEnds.{Popping, with_sent}
use Rattle.market_turns.specs.Turns.{counts_sent}

-- the window of a link out of the node was sent
pub record HasSentWindow (core : CoreState) (before after : NodeEnds) (fates left : FatesLeft) (link : Link) :
    Type 0 where
  pub out : LinkOut
  pub there : out_at before (slot_from link) ≡ Some out
  pub sent : out_at after (slot_from link) ≡ Some (record out {
    events = with_sent out.events (window_of core link) (fates_at fates Carry (slot_from link));
  })
  pub unused : fates_at left Carry (slot_from link)
      ≡ fates_left (window_of core link) (fates_at fates Carry (slot_from link))

-- what comes in at the slot of a link into the node
abbrev pub events_in : Option LinkIn → Option (Popping Event)
events_in None = None
events_in (Some into) = Some into.events

-- the counts of a link into the node were sent back
pub record HasSentBack (core : CoreState) (before after : NodeEnds) (fates left : FatesLeft) (link : Link) :
    Type 0 where
  pub into : LinkIn
  pub there : in_at before (slot_into link) ≡ Some into
  pub sent : in_at after (slot_into link) ≡ Some (record into {
    counts = with_sent into.counts (counts_sent core link) (fates_at fates Ack (slot_into link));
  })
  pub unused : fates_at left Ack (slot_into link)
      ≡ fates_left (counts_sent core link) (fates_at fates Ack (slot_into link))
