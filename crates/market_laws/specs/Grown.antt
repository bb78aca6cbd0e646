-- Journals that are grown: block by block, each begun when it could.
use Rattle.std.specs.Prelude.{ℕ, List, [], Option, Some, None, filter_map}
use Rattle.market_events.specs.declared.events.Entry.{Entry}
use Rattle.market_events.specs.declared.events.Event.{Event}
use Rattle.market_events.specs.declared.events.What.{What}
use Rattle.market_events.specs.declared.events.What.TheVariants.{Given, Taken, Made, Answered}
use Rattle.market_history.specs.Blocks.{Arrival, what_of, grow}
use Rattle.market_history.specs.Lawful.{IsReadyAfter}

-- the journal of node n is nothing, or a grown one with one block more
pub data Grown (n : ℕ) : List Entry → Type 0 where
  nothing : Grown n []
  more : (j : List Entry) (a : Arrival) → Grown n j → IsReadyAfter n j (what_of a) → Grown n (grow n j a)

-- the event that was made, where one was
abbrev pub event_made : What → Option Event
event_made (Given request) = None
event_made (Taken event) = None
event_made (Made event) = Some event
event_made (Answered id reply) = None

-- the events that were made, in order
abbrev pub events_made : List Entry → List Event
events_made entries = filter_map (λ (x : Entry). event_made x.what) entries
