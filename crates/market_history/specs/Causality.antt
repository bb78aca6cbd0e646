-- What a node's journal knows of each service link, the pasts of the events that it made, and which events
-- come before which.
use Rattle.std.specs.Prelude.{◌≡◌, ℕ, max, List, [], ◌∷◌, ◌++◌, Option, Some, None, if◌then◌else◌, map}
use Rattle.std.specs.Prelude.{slice_index, Contains}
use Rattle.std.specs.List.{filter_map, range_with_len}
use Rattle.market_events.specs.declared.events.Entry.{Entry}
use Rattle.market_events.specs.declared.events.Event.{Event}
use Rattle.market_events.specs.declared.events.What.{What}
use Rattle.market_events.specs.declared.events.What.TheVariants.{Given, Taken, Made, Answered}
use Rattle.market_events.specs.declared.links.Link.TheVariants.{Service}
use Rattle.market_events.specs.declared.links.TheConstants.{SERVICE_LINKS}
use Rattle.market_events.specs.Links.{same_link, sender_of}
use Rattle.market_history.specs.Stamps.{EachAfter}

-- the event's number, where it is on this service link, else 0
abbrev pub number_on : ℕ → Event → ℕ
number_on k event = if same_link event.link (Service k) then event.number else 0

-- how many events of this service link it tells of: for an event that was taken, by its number and its past
abbrev pub count_in : What → ℕ → ℕ
count_in (Given request) k = 0
count_in (Taken event) k = max (number_on k event) (slice_index event.past k)
count_in (Made event) k = number_on k event
count_in (Answered id reply) k = 0

-- how many events of this service link the entry tells of
abbrev pub count_told : Entry → ℕ → ℕ
count_told entry k = count_in entry.what k

-- the greatest count of this service link that the entries tell of, 0 where there is none
abbrev pub known : List Entry → ℕ → ℕ
known [] k = 0
known (x ∷ xs) k = max (count_told x k) (known xs k)

-- the greatest counts that the entries tell of, from the first service link on
unfoldable pub past_of : List Entry → List ℕ
past_of entries = map (known entries) (range_with_len 0 SERVICE_LINKS)

-- an event that was made rests on what the entries before it tell of
abbrev pub RestsOn : List Entry → What → Type 0
RestsOn before (Given request) = Unit {0}
RestsOn before (Taken event) = Unit {0}
RestsOn before (Made event) = event.past ≡ past_of before
RestsOn before (Answered id reply) = Unit {0}

-- each event that was made rests on what the entries before it tell of
abbrev pub HasPasts : List Entry → Type 0
HasPasts entries = EachAfter (λ before x. RestsOn before x.what) [] entries

-- the event that was taken, where one was
abbrev pub event_taken : What → Option Event
event_taken (Given request) = None
event_taken (Taken event) = Some event
event_taken (Made event) = None
event_taken (Answered id reply) = None

-- the event that was made or taken, where one was
abbrev pub event_seen : What → Option Event
event_seen (Given request) = None
event_seen (Taken event) = Some event
event_seen (Made event) = Some event
event_seen (Answered id reply) = None

-- the events that were taken, in order
abbrev pub events_taken : List Entry → List Event
events_taken entries = filter_map (λ (x : Entry). event_taken x.what) entries

-- the events that were made or taken, in order
abbrev pub events_seen : List Entry → List Event
events_seen entries = filter_map (λ (x : Entry). event_seen x.what) entries

-- the journal made the event right after these entries
abbrev pub IsMadeAfter : List Entry → List Entry → Event → Type 0
IsMadeAfter journal before event =
    (x : Entry) × (rest : List Entry) × (x.what ≡ Made event) × (journal ≡ before ++ x ∷ rest)

-- f comes before e: e's sender made or took f before it made e, or it took an event before it made e which f
-- comes before
pub data IsBefore (journals : ℕ → List Entry) (f : Event) : Event → Type 0 where
  at_sender : (e : Event) (before : List Entry) → IsMadeAfter (journals (sender_of e.link)) before e
      → Contains (events_seen before) f → IsBefore journals f e
  through : (e g : Event) (before : List Entry) → IsMadeAfter (journals (sender_of e.link)) before e
      → Contains (events_taken before) g → IsBefore journals f g → IsBefore journals f e
