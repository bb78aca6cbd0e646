-- The record of a node.
use Rattle.std.specs.Prelude.{ℕ, List, [], replicate}
use Rattle.market_events.specs.declared.events.Entry.{Entry}
use Rattle.market_links.specs.declared.slots.TheConstants.{SLOTS}

-- the node, the entries of its journal, how many of them are committed, how many events were acknowledged on
-- each link out of it, by slot, and for how many more entries there is room
pub record RecordState : Type 0 where
  pub node : ℕ
  pub entries : List Entry
  pub committed : ℕ
  pub acknowledged : List ℕ
  pub room : ℕ

-- with no entry and no room
abbrev pub new_record : ℕ → RecordState
new_record node = record {
  node = node;
  entries = [];
  committed = 0;
  acknowledged = replicate SLOTS 0;
  room = 0;
}
