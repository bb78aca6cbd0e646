-- What the core of a node is seen as.
use Rattle.std.specs.Prelude.{ℕ, List, [], length, take, replicate, slice_index, slice_set}
use Rattle.market_events.specs.declared.events.Entry.{Entry}
use Rattle.market_events.specs.declared.events.Event.{Event}
use Rattle.market_events.specs.declared.links.Link.{Link}
use Rattle.market_events.specs.Offers.{taken_on}
use Rattle.market_history.specs.Causality.{events_taken}
use Rattle.market_links.specs.Slots.{slot_from}
use Rattle.market_links.specs.declared.slots.TheConstants.{SLOTS}
use Rattle.market_node.specs.Records.{RecordState}
use Rattle.market_node.specs.Sending.{window_on, with_count}

-- the node, the entries of its journal, how many of them are committed, and how many events were acknowledged
-- on each link out of it, by slot
pub record CoreState : Type 0 where
  pub node : ℕ
  pub entries : List Entry
  pub committed : ℕ
  pub acknowledged : List ℕ

abbrev pub core_of : RecordState → CoreState
core_of r =
    record { node = r.node; entries = r.entries; committed = r.committed; acknowledged = r.acknowledged }

abbrev pub with_entries : CoreState → List Entry → CoreState
with_entries core entries = record core { entries = entries }

-- a core with an empty journal
abbrev pub new_core : ℕ → CoreState
new_core node = record { node = node; entries = []; committed = 0; acknowledged = replicate SLOTS 0 }

-- with all entries committed
abbrev pub with_all_committed : CoreState → CoreState
with_all_committed core = record core { committed = length core.entries }

-- how many events were acknowledged on a link out of the node
abbrev pub acknowledged_on : CoreState → Link → ℕ
acknowledged_on core link = slice_index core.acknowledged (slot_from link)

-- what may be sent on a link: the first seven events, or fewer, that are released and not acknowledged
abbrev pub window_of : CoreState → Link → List Event
window_of core link = window_on link core.entries core.committed (acknowledged_on core link)

-- with a count of taken events that came back on a link
abbrev pub with_count_back : CoreState → Link → ℕ → CoreState
with_count_back core link count = record core {
  acknowledged =
      slice_set core.acknowledged (slot_from link)
      (with_count link core.entries core.committed (acknowledged_on core link) count);
}

-- how many of the events that were taken on a link are committed
abbrev pub committed_on : CoreState → Link → ℕ
committed_on core link = taken_on (events_taken (take core.committed core.entries)) link
