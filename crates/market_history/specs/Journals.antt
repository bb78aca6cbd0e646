-- What may stand in the journal of a node.
use Rattle.std.specs.Prelude.{◌≡◌, ℕ, ◌+◌, ◌^◌, ◌<◌, ◌≤◌, true, List, [], ◌∷◌}
use Rattle.market_events.specs.declared.bodies.Body.{Body}
use Rattle.market_events.specs.declared.bodies.Body.TheVariants as body
use Rattle.market_events.specs.declared.events.Entry.{Entry}
use Rattle.market_events.specs.declared.events.Event.{Event}
use Rattle.market_events.specs.declared.events.What.{What}
use Rattle.market_events.specs.declared.events.What.TheVariants.{Given, Taken, Made, Answered}
use Rattle.market_events.specs.declared.links.Link.{Link}
use Rattle.market_events.specs.declared.links.Link.TheVariants as link
use Rattle.market_events.specs.declared.replies.Reply.{Reply}
use Rattle.market_events.specs.declared.replies.Reply.TheVariants as reply
use Rattle.market_events.specs.declared.replies.Rule.{Rule}
use Rattle.market_events.specs.declared.replies.Rule.TheVariants as rule
use Rattle.market_events.specs.Carried.{carries}
use Rattle.market_events.specs.Counts.{AreCounts}
use Rattle.market_events.specs.Links.{IsLink, lane_node, sender_of, receiver_of}
use Rattle.market_events.specs.Requests.{lane_of}
use Rattle.market_events.specs.WellFormed.{IsWellFormedEntry}
use Rattle.market_events.specs.declared.nodes.TheConstants.{NODES}
use Rattle.market_events.specs.declared.roles.TheConstants.{SERVICES}

-- a journal: its node, its entries, and for how many more there is room
pub record JournalState : Type 0 where
  pub node : ℕ
  pub entries : List Entry
  pub spare : ℕ

-- the node is a lane
abbrev pub IsLane : ℕ → Type 0
IsLane node = (SERVICES ≤ node) × (node < NODES)

-- the node's lane is that of the request that is asked
abbrev pub IsAskedBy : ℕ → Body → Type 0
IsAskedBy lane (body.Asked request) = lane_of request.id ≡ lane
IsAskedBy lane other = Unit {0}

-- a lane asks its own requests
abbrev pub AsksOwn : Link → Body → Type 0
AsksOwn (link.Asked lane service) b = IsAskedBy lane b
AsksOwn other b = Unit {0}

-- the event's numbers and the counts of its past are in their ranges, its link can carry its body, and a lane
-- asks its own requests
pub record IsEvent (event : Event) : Type 0 where
  pub link : IsLink event.link
  pub number_low : 1 ≤ event.number
  pub number_high : event.number < 2 ^ 32
  pub clock_high : event.clock ≤ 2 ^ 62
  pub past : AreCounts event.past
  pub body : carries event.link event.body ≡ true
  pub own : AsksOwn event.link event.body

-- a service refuses by the rule; by the other two a lane refuses what it does not keep
abbrev pub IsOfService : Rule → Type 0
IsOfService rule.LaneFull = ⊥
IsOfService rule.RequestDiffers = ⊥
IsOfService other = Unit {0}

-- a lane can keep the reply: it is no refusal that a lane alone gives
abbrev pub CanBeKept : Reply → Type 0
CanBeKept (reply.Refused rule) = IsOfService rule
CanBeKept other = Unit {0}

-- what may happen at the node with this clock: a lane is given its own requests, and answers with a reply
-- that it can keep, and an event is made by its sender, with its clock, or taken by its receiver
abbrev pub CanHappen : ℕ → ℕ → What → Type 0
CanHappen node clock (Given request) = IsLane node × (lane_node (lane_of request.id) ≡ node)
CanHappen node clock (Taken event) = IsEvent event × (receiver_of event.link ≡ node)
CanHappen node clock (Made event) = IsEvent event × (sender_of event.link ≡ node) × (event.clock ≡ clock)
CanHappen node clock (Answered id reply) = IsLane node × CanBeKept reply

-- the entry may stand at this place of the node's journal, and is well formed
pub record IsEntry (node place : ℕ) (entry : Entry) : Type 0 where
  pub formed : IsWellFormedEntry entry
  pub node_high : node < NODES
  pub place_high : place < 4_294_967_295
  pub clock_high : entry.clock ≤ 2 ^ 62
  pub what : CanHappen node entry.clock entry.what

-- each entry may stand at its place, the first of them at this one
abbrev pub AreEntriesFrom : ℕ → ℕ → List Entry → Type 0
AreEntriesFrom node place [] = Unit {0}
AreEntriesFrom node place (x ∷ xs) = IsEntry node place x × AreEntriesFrom node (place + 1) xs

-- each entry may stand at its place of the node's journal
abbrev pub IsJournal : ℕ → List Entry → Type 0
IsJournal node entries = AreEntriesFrom node 0 entries
