-- What a turn of a node does.
use Rattle.std.specs.Prelude.{◌≡◌, ℕ, ◌≤◌, nat_lt, if◌then◌else◌, List, [], ◌∷◌, Some, fold, length}
use Rattle.std.specs.Prelude.{slice_set, is_some, true}
use Rattle.std.specs.List.{flat_map}
use Rattle.market_events.specs.declared.events.Entry.{Entry}
use Rattle.market_events.specs.declared.events.Event.{Event}
use Rattle.market_events.specs.declared.links.Link.{Link}
use Rattle.market_events.specs.Links.{IsLink, sender_of, receiver_of}
use Rattle.market_events.specs.Offers.{taken_on}
use Rattle.market_history.specs.Causality.{events_taken}
use Rattle.market_links.specs.Slots.{slot_into, slot_from}
use Rattle.market_node.specs.Cores.{CoreState, acknowledged_on, window_of, committed_on, with_all_committed}
use Rattle.market_node.specs.Offered.{with_all_offered, CanTakeAll}
use Rattle.market_node.specs.Sending.{with_count}
use Rattle.market_rings.specs.declared.fates.Way.TheVariants.{Carry, Ack}
use Rattle.market_rings.specs.declared.link_ends.LinkOut.{LinkOut}
use Rattle.market_rings.specs.declared.link_ends.LinkIn.{LinkIn}
use Rattle.market_rings.specs.Fates.{FatesLeft, fates_at}
use Rattle.market_rings.specs.NodeEnds.{NodeEnds, out_at, in_at, events_waiting}
use Rattle.market_rings.specs.Pushes.{fates_left}
use Rattle.market_rings.specs.RingEnds.{with_sent, with_all_popped}

-- a core with its ends of rings
pub record NodeState : Type 0 where
  pub core : CoreState
  pub ends : NodeEnds

-- with all entries committed
abbrev pub with_node_committed : NodeState → NodeState
with_node_committed node = record node { core = with_all_committed node.core }

-- the events that wait on the links into the node, in the order in which a turn offers them: link by link,
-- and on each link as they came
abbrev pub arrivals : NodeEnds → List Event
arrivals ends = flat_map events_waiting ends.ins

-- how many events of a link are acknowledged after these counts came back, one after the other
abbrev pub with_counts : Link → List Entry → ℕ → ℕ → List ℕ → ℕ
with_counts link entries committed acknowledged counts =
    fold (with_count link entries committed) acknowledged counts

abbrev pub with_counts_back : CoreState → Link → List ℕ → CoreState
with_counts_back core link counts = record core {
  acknowledged =
      slice_set core.acknowledged (slot_from link)
      (with_counts link core.entries core.committed (acknowledged_on core link) counts);
}

-- the counts that a turn sends back on a link: that of the committed events taken, where any event was taken
abbrev pub counts_sent : CoreState → Link → List ℕ
counts_sent core link =
    if nat_lt 0 (taken_on (events_taken core.entries) link) then committed_on core link ∷ [] else []

-- the node has the ends of the link, with room for all that a turn can push: seven events, each twice, and
-- seven that were held
pub record IsReadyOut (ends : NodeEnds) (link : Link) : Type 0 where
  pub out : LinkOut
  pub there : out_at ends (slot_from link) ≡ Some out
  pub free : 21 ≤ out.events.free
  pub held : length out.events.held ≤ 7

-- and for a count, twice, and one that was held
pub record IsReadyIn (ends : NodeEnds) (link : Link) : Type 0 where
  pub into : LinkIn
  pub there : in_at ends (slot_into link) ≡ Some into
  pub free : 3 ≤ into.counts.free
  pub held : length into.counts.held ≤ 1

-- the node has the ends of all its links, each with room, and what waits may be offered, one after the other
pub record CanTurn (can : ℕ → List Entry → Event → Type 0) (node : NodeState) : Type 0 where
  pub outs : (link : Link) → IsLink link → sender_of link ≡ node.core.node → IsReadyOut node.ends link
  pub ins : (link : Link) → IsLink link → receiver_of link ≡ node.core.node → IsReadyIn node.ends link
  pub takes : CanTakeAll can node.core.node node.core.entries (arrivals node.ends)

-- a link out of the node: its window was sent, each with the next fate; all counts that waited were popped,
-- and noted one after the other
pub record HasTurnedOut (old new : NodeState) (fates left : FatesLeft) (link : Link) : Type 0 where
  pub out : LinkOut
  pub there : out_at old.ends (slot_from link) ≡ Some out
  pub turned : out_at new.ends (slot_from link) ≡ Some (record {
    events = with_sent out.events (window_of old.core link) (fates_at fates Carry (slot_from link));
    counts = with_all_popped out.counts;
  })
  pub unused : fates_at left Carry (slot_from link)
      ≡ fates_left (window_of old.core link) (fates_at fates Carry (slot_from link))
  pub noted : acknowledged_on new.core link
      ≡ with_counts link old.core.entries old.core.committed (acknowledged_on old.core link)
      out.counts.waiting

-- a link into the node: all events that waited were popped, and the count of committed events taken was sent
-- back with the next fate
pub record HasTurnedIn (old new : NodeState) (fates left : FatesLeft) (link : Link) : Type 0 where
  pub into : LinkIn
  pub there : in_at old.ends (slot_into link) ≡ Some into
  pub turned : in_at new.ends (slot_into link) ≡ Some (record {
    events = with_all_popped into.events;
    counts = with_sent into.counts (counts_sent old.core link) (fates_at fates Ack (slot_into link));
  })
  pub unused : fates_at left Ack (slot_into link)
      ≡ fates_left (counts_sent old.core link) (fates_at fates Ack (slot_into link))

-- a turn: the journal grows by the blocks of the events that waited, and every link did its part
pub record HasTurned (old new : NodeState) (fates left : FatesLeft) : Type 0 where
  pub node : new.core.node ≡ old.core.node
  pub committed : new.core.committed ≡ old.core.committed
  pub entries : new.core.entries
      ≡ with_all_offered old.core.node old.core.entries (arrivals old.ends)
  pub slots : length new.core.acknowledged ≡ length old.core.acknowledged
  pub outs : (link : Link) → IsLink link → sender_of link ≡ old.core.node
      → HasTurnedOut old new fates left link
  pub ins : (link : Link) → IsLink link → receiver_of link ≡ old.core.node
      → HasTurnedIn old new fates left link
  -- no ends have come
  pub only : (slot : ℕ) (into : LinkIn) → in_at new.ends slot ≡ Some into
      → is_some (in_at old.ends slot) ≡ true
