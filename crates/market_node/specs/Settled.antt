-- The events taken whose entries are committed.
use Rattle.std.specs.Prelude.{◌≡◌, ℕ, List, length, take, slice_index}
use Rattle.market_events.specs.declared.events.Entry.{Entry}
use Rattle.market_events.specs.declared.links.Link.{Link}
use Rattle.market_events.specs.Links.{IsLink, receiver_of}
use Rattle.market_events.specs.Offers.{taken_on}
use Rattle.market_history.specs.Causality.{events_taken}
use Rattle.market_links.specs.Slots.{slot_into}
use Rattle.market_links.specs.declared.slots.TheConstants.{SLOTS}

-- by slot, how many events of each link into the node the first entries took
pub record AreSettled (node : ℕ) (entries : List Entry) (committed : ℕ) (counts : List ℕ) : Type 0 where
  pub many : length counts ≡ SLOTS
  pub each : (link : Link) → IsLink link → receiver_of link ≡ node
      → slice_index counts (slot_into link) ≡ taken_on (events_taken (take committed entries)) link
