-- What the watcher of numbers keeps.
use Rattle.std.specs.Prelude.{◌≡◌, ℕ, List, length, slice_index}
use Rattle.market_events.specs.declared.events.Entry.{Entry}
use Rattle.market_events.specs.declared.links.Link.{Link}
use Rattle.market_events.specs.Links.{IsLink, sender_of, receiver_of}
use Rattle.market_history.specs.Histories.{Histories}
use Rattle.market_history.specs.Sent.{sent, got}
use Rattle.market_links.specs.Slots.{slot_from, slot_into}
use Rattle.market_links.specs.declared.slots.TheConstants.{SLOTS}
use Rattle.market_auditor.specs.declared.numbers.Numbers.{Numbers}

-- how many events of each link out of the node were made, and of each link into it taken
pub record AreNumbers (made taken : List ℕ) (n : ℕ) (before : List Entry) : Type 0 where
  pub made_each : length made ≡ SLOTS
  pub taken_each : length taken ≡ SLOTS
  pub made_on : (link : Link) → IsLink link → sender_of link ≡ n
      → slice_index made (slot_from link) ≡ length (sent link before)
  pub taken_on : (link : Link) → IsLink link → receiver_of link ≡ n
      → slice_index taken (slot_into link) ≡ length (got link before)

abbrev pub SawNumbers : Numbers → Histories → ℕ → List Entry → Type 0
SawNumbers numbers h n before = AreNumbers numbers.made.counts numbers.taken.counts n before
