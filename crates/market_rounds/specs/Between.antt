-- What holds between rounds: of each ring, of each link, and of all nodes together.
use Rattle.std.specs.Prelude.{◌≡◌, ℕ, ◌+◌, ◌<◌, ◌≤◌, ◌++◌, Some, length}
use Rattle.std.specs.List.{AllByRecursion}
use Rattle.market_events.specs.declared.events.Event.{Event}
use Rattle.market_events.specs.declared.links.Link.{Link}
use Rattle.market_events.specs.declared.nodes.TheConstants.{NODES}
use Rattle.market_events.specs.Links.{IsLink, sender_of, receiver_of}
use Rattle.market_events.specs.Offers.{taken_on}
use Rattle.market_history.specs.Causality.{events_taken}
use Rattle.market_history.specs.Histories.{Histories, journal_at}
use Rattle.market_history.specs.Lawful.{IsLawful}
use Rattle.market_links.specs.Slots.{slot_into, slot_from}
use Rattle.market_links.specs.declared.slots.TheConstants.{SLOTS}
use Rattle.market_node.specs.Cores.{acknowledged_on}
use Rattle.market_rings.specs.declared.link_ends.LinkOut.{LinkOut}
use Rattle.market_rings.specs.declared.link_ends.LinkIn.{LinkIn}
use Rattle.market_rings.specs.NodeEnds.{out_at, in_at}
use Rattle.market_rings.specs.RingEnds.{Pushing, Popping}
use Rattle.market_rings.specs.Wiring.{HasLinkIn}
use Rattle.market_turns.specs.Turns.{NodeState}
use Rattle.market_rounds.specs.Turning.{WasMade}

-- the two ends of one ring, where what was pushed was popped or waits, and all other slots are known to be
-- free: at most so many packets wait, and so many are held
pub record IsRing {T : Type 0} (most most_held : ℕ) (outlet : Pushing T) (inlet : Popping T) : Type 0 where
  pub joined : outlet.ring ≡ inlet.ring
  pub whole : inlet.popped ++ inlet.waiting ≡ outlet.pushed
  pub free : outlet.free + length inlet.waiting ≡ 64
  pub few : length inlet.waiting ≤ most
  pub few_held : length outlet.held ≤ most_held

-- a made event of the link
pub record IsOfLink (h : Histories) (link : Link) (event : Event) : Type 0 where
  pub made : WasMade h event
  pub on : event.link ≡ link

-- how many events of a link its receiver took
abbrev pub taken_at : Histories → Link → ℕ
taken_at h link = taken_on (events_taken (journal_at h (receiver_of link))) link

-- a link's two rings: what waits or is held on them are made events of the link, and counts of no more events
-- than were taken; and no more are acknowledged
pub record IsCarried (h : Histories) (link : Link) (acknowledged : ℕ) (out : LinkOut) (into : LinkIn) : Type 0
  where
    pub events : IsRing 21 7 out.events into.events
    pub counts : IsRing 3 1 into.counts out.counts
    pub waiting_made : AllByRecursion (IsOfLink h link) into.events.waiting
    pub held_made : AllByRecursion (IsOfLink h link) out.events.held
    pub waiting_taken : AllByRecursion (λ n. n ≤ taken_at h link) out.counts.waiting
    pub held_taken : AllByRecursion (λ n. n ≤ taken_at h link) into.counts.held
    pub acknowledged_taken : acknowledged ≤ taken_at h link

-- a link between two nodes
pub record IsCarriedBetween (h : Histories) (link : Link) (from to : NodeState) : Type 0 where
  pub out : LinkOut
  pub into : LinkIn
  pub at_sender : out_at from.ends (slot_from link) ≡ Some out
  pub at_receiver : in_at to.ends (slot_into link) ≡ Some into
  pub carried : IsCarried h link (acknowledged_on from.core link) out into

-- the node has these entries, all of them committed
pub record IsNode (h : Histories) (n : ℕ) (node : NodeState) : Type 0 where
  pub node_is : node.core.node ≡ n
  pub entries : node.core.entries ≡ journal_at h n
  pub committed : node.core.committed ≡ length (journal_at h n)
  pub slots : length node.core.acknowledged ≡ SLOTS

-- the nodes between two rounds
pub record AreBetween (h : Histories) (nodes : ℕ → NodeState) : Type 0 where
  pub lawful : IsLawful h
  pub each : (n : ℕ) → n < NODES → IsNode h n (nodes n)
  pub links : (link : Link) → IsLink link
      → IsCarriedBetween h link (nodes (sender_of link)) (nodes (receiver_of link))
  pub only : (n slot : ℕ) (into : LinkIn) → n < NODES → in_at (nodes n).ends slot ≡ Some into
      → HasLinkIn n slot
