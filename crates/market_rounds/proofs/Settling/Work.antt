-- What is left to do between two rounds, and how far the oldest outstanding event is from being taken.
use Rattle.std.proofs.Common.{ℕ, ◌+◌, ◌-◌, ◌*◌, ◌^◌, ◌==◌, Bool, nat_lt, if◌then◌else◌, List, [], ◌∷◌, length}
use Rattle.std.specs.List.{list_any}
use Rattle.market_events.specs.declared.events.Event.{Event}
use Rattle.market_events.specs.declared.links.Link.{Link}
use Rattle.market_events.specs.declared.nodes.TheConstants.{NODES}
use Rattle.market_events.specs.Links.{sender_of, receiver_of}
use Rattle.market_history.specs.Outstanding.{outstanding}
use Rattle.market_laws.specs.Entries.{total_entries}
use Rattle.market_laws.proofs.Bounds.LinkSums.{over_links}
use Rattle.market_laws.proofs.Bounds.Sums.{sum_to}
use Rattle.market_links.specs.Slots.{slot_into, slot_from}
use Rattle.market_node.specs.Cores.{acknowledged_on}
use Rattle.market_rings.specs.declared.fates.Way.TheVariants.{Carry, Ack}
use Rattle.market_rings.specs.Fates.{fates_at}
use Rattle.market_rings.specs.NodeEnds.{out_at, in_at, events_waiting, counts_waiting}
use Rattle.market_rounds.specs.Between.{taken_at}
use Rattle.market_rounds.specs.Nodes.{FatedNode, node_by, queue_by, fates_by, histories_by}
use Rattle.market_rounds.proofs.Settling.Oldest.{of_oldest}

-- the fates that are left on a link
abbrev pub fates_on : List FatedNode → Link → ℕ
fates_on nodes link =
    length (fates_at (fates_by nodes (sender_of link)) Carry (slot_from link)) + length (fates_at (fates_by nodes (receiver_of link)) Ack (slot_into link))

abbrev pub queued_at : List FatedNode → ℕ → ℕ
queued_at nodes n = length (queue_by nodes n)

-- the entries that may still come, the requests in the queues, and the fates
abbrev pub work : List FatedNode → ℕ
work nodes = (2 ^ 24 - total_entries (histories_by nodes)) + sum_to (queued_at nodes) NODES + over_links (fates_on nodes)

-- the number of the first of these events
abbrev pub first_number : List Event → ℕ
first_number [] = 0
first_number (e ∷ es) = e.number

-- whether the first outstanding event of the link waits at its receiver
abbrev pub waits : List FatedNode → Link → Bool
waits nodes link =
    list_any (λ (e : Event). e.number == first_number (outstanding (histories_by nodes) link)) (events_waiting (in_at (node_by nodes (receiver_of link)).ends (slot_into link)))

-- a count, after which the event past those that were taken is in the window
abbrev pub reaches : ℕ → ℕ → Bool
reaches taken count = nat_lt taken (count + 7)

-- how far it is from being taken: 0 where it waits, 1 where its sender's window has it, 2 where a count that waits brings it there
abbrev pub phase_by : Bool → ℕ → ℕ → List ℕ → ℕ
phase_by here taken acknowledged counts =
    if here then 0 else if reaches taken acknowledged then 1 else if list_any (reaches taken) counts then 2 else 3

abbrev pub phase_on : List FatedNode → Link → ℕ
phase_on nodes link =
    phase_by (waits nodes link) (taken_at (histories_by nodes) link) (acknowledged_on (node_by nodes (sender_of link)).core link) (counts_waiting (out_at (node_by nodes (sender_of link)).ends (slot_from link)))

abbrev pub phase : List FatedNode → ℕ
phase nodes = of_oldest (histories_by nodes) (phase_on nodes)

-- the measure that each round makes smaller
abbrev pub to_settle : List FatedNode → ℕ
to_settle nodes = 4 * work nodes + phase nodes
