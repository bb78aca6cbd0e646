-- The events that journals have of a link: those that were made on it and those that were taken.
use Rattle.std.specs.Prelude.{◌≡◌, ℕ, List, ◌++◌, Option, Some, None, if◌then◌else◌, length, map}
use Rattle.std.specs.List.{filter_map, range_with_len}
use Rattle.market_events.specs.declared.events.Entry.{Entry}
use Rattle.market_events.specs.declared.events.Event.{Event}
use Rattle.market_events.specs.declared.events.What.{What}
use Rattle.market_events.specs.declared.events.What.TheVariants.{Given, Taken, Made, Answered}
use Rattle.market_events.specs.declared.links.Link.{Link}
use Rattle.market_events.specs.Links.{same_link}

-- the event, where it is on the link
abbrev pub event_on : Link → Event → Option Event
event_on link event = if same_link event.link link then Some event else None

-- the event that was made on the link, where one was
abbrev pub event_made_on : Link → What → Option Event
event_made_on link (Given request) = None
event_made_on link (Taken event) = None
event_made_on link (Made event) = event_on link event
event_made_on link (Answered id reply) = None

-- the event that was taken on the link, where one was
abbrev pub got_on : Link → What → Option Event
got_on link (Given request) = None
got_on link (Taken event) = event_on link event
got_on link (Made event) = None
got_on link (Answered id reply) = None

-- the events that were made on the link, in order
abbrev pub sent : Link → List Entry → List Event
sent link entries = filter_map (λ (x : Entry). event_made_on link x.what) entries

-- the events that were taken on the link, in order
abbrev pub got : Link → List Entry → List Event
got link entries = filter_map (λ (x : Entry). got_on link x.what) entries

-- the numbers are 1, 2 and so on, in order
abbrev pub IsNumbered : List Event → Type 0
IsNumbered events = map {A = Event} {B = ℕ} (λ e. e.number) events ≡ range_with_len 1 (length events)

-- the second list begins with the first
abbrev pub IsPrefixOf : {A : Type 0} → List A → List A → Type 0
IsPrefixOf {A} xs ys = (rest : List A) × (ys ≡ xs ++ rest)

-- what the receiver's journal took of the link is what the sender's made on it, up to some point
abbrev pub IsMatchedOn : Link → List Entry → List Entry → Type 0
IsMatchedOn link sender receiver = IsPrefixOf (got link receiver) (sent link sender)
