-- The ends of rings at a node.
use Rattle.std.specs.Prelude.{◌≡◌, ℕ, ◌≤◌, List, [], Option, Some, None, replicate, slice_index_or}
use Rattle.std.specs.Prelude.{slice_set}
use Rattle.market_events.specs.declared.links.Link.{Link}
use Rattle.market_events.specs.declared.events.Event.{Event}
use Rattle.market_links.specs.Slots.{slot_into, slot_from}
use Rattle.market_links.specs.declared.slots.TheConstants.{SLOTS}
use Rattle.market_rings.specs.declared.fates.Fate.{Fate}
use Rattle.market_rings.specs.LinkEnds.{AreOfOneLink, HasMet}
use Rattle.market_rings.specs.RingEnds.{most_pushed, with_sent, with_all_popped}
use Rattle.market_rings.specs.declared.link_ends.LinkOut.{LinkOut}
use Rattle.market_rings.specs.declared.link_ends.LinkIn.{LinkIn}

-- by slot, the ends of the links out of a node and of the links into it
pub record NodeEnds : Type 0 where
  pub outs : List (Option LinkOut)
  pub ins : List (Option LinkIn)

abbrev pub no_ends : NodeEnds
no_ends = record { outs = replicate SLOTS None; ins = replicate SLOTS None }

abbrev pub out_at : NodeEnds → ℕ → Option LinkOut
out_at ends slot = slice_index_or ends.outs slot None

abbrev pub in_at : NodeEnds → ℕ → Option LinkIn
in_at ends slot = slice_index_or ends.ins slot None

abbrev pub with_link_out : NodeEnds → ℕ → LinkOut → NodeEnds
with_link_out ends slot out = record ends { outs = slice_set ends.outs slot (Some out) }

abbrev pub with_in : NodeEnds → ℕ → LinkIn → NodeEnds
with_in ends slot into = record ends { ins = slice_set ends.ins slot (Some into) }

-- at the first node are the ends of the link's sender, at the second those of its receiver, of the same two
-- rings
pub record AreJoined (from to : NodeEnds) (link : Link) : Type 0 where
  pub out : LinkOut
  pub into : LinkIn
  pub at_sender : out_at from (slot_from link) ≡ Some out
  pub at_receiver : in_at to (slot_into link) ≡ Some into
  pub joined : AreOfOneLink out into

-- the ends of the link were brought together, and nothing else changed
pub record HaveMet (from to new_from new_to : NodeEnds) (link : Link) : Type 0 where
  pub out : LinkOut
  pub into : LinkIn
  pub new_out : LinkOut
  pub new_into : LinkIn
  pub at_sender : out_at from (slot_from link) ≡ Some out
  pub at_receiver : in_at to (slot_into link) ≡ Some into
  pub met : HasMet out into new_out new_into
  pub sender : new_from ≡ with_link_out from (slot_from link) new_out
  pub receiver : new_to ≡ with_in to (slot_into link) new_into

-- the node has the ends of a link out of it, with room for these events and for what is held
pub record CanSendEvents (ends : NodeEnds) (link : Link) (events : List Event) : Type 0 where
  pub out : LinkOut
  pub there : out_at ends (slot_from link) ≡ Some out
  pub room : most_pushed events out.events.held ≤ out.events.free

-- the node has the ends of a link into it, with room for these counts and for what is held
pub record CanSendCounts (ends : NodeEnds) (link : Link) (counts : List ℕ) : Type 0 where
  pub into : LinkIn
  pub there : in_at ends (slot_into link) ≡ Some into
  pub room : most_pushed counts into.counts.held ≤ into.counts.free

-- events were sent on the link with these fates, and nothing else changed
pub record HaveSentEvents (before after : NodeEnds) (link : Link) (events : List Event) (fates : List Fate) :
    Type 0 where
  pub out : LinkOut
  pub there : out_at before (slot_from link) ≡ Some out
  pub sent : after
      ≡ with_link_out before (slot_from link) (record out { events = with_sent out.events events fates })

-- counts were sent back on the link with these fates, and nothing else changed
pub record HaveSentCounts (before after : NodeEnds) (link : Link) (counts : List ℕ) (fates : List Fate) :
    Type 0 where
  pub into : LinkIn
  pub there : in_at before (slot_into link) ≡ Some into
  pub sent : after
      ≡ with_in before (slot_into link) (record into { counts = with_sent into.counts counts fates })

-- what waits at the slot of a link into the node, and at that of a link out of it
abbrev pub events_waiting : Option LinkIn → List Event
events_waiting None = []
events_waiting (Some into) = into.events.waiting

abbrev pub counts_waiting : Option LinkOut → List ℕ
counts_waiting None = []
counts_waiting (Some out) = out.counts.waiting

-- with all of it popped
abbrev pub events_taken : Option LinkIn → Option LinkIn
events_taken None = None
events_taken (Some into) = Some (record into { events = with_all_popped into.events })

abbrev pub counts_taken : Option LinkOut → Option LinkOut
counts_taken None = None
counts_taken (Some out) = Some (record out { counts = with_all_popped out.counts })

abbrev pub with_events_taken : NodeEnds → ℕ → NodeEnds
with_events_taken ends slot =
    record ends { ins = slice_set ends.ins slot (events_taken (in_at ends slot)) }

abbrev pub with_counts_taken : NodeEnds → ℕ → NodeEnds
with_counts_taken ends slot =
    record ends { outs = slice_set ends.outs slot (counts_taken (out_at ends slot)) }
