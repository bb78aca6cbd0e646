-- What is noted beside a journal, so that an entry is added without a walk over it.
use Rattle.std.specs.Prelude.{◌≡◌, ℕ, ◌+◌, ◌≤◌, ◌<◌, List, [], ◌∷◌, length, slice_index, slice_index_or, find}
use Rattle.std.specs.Prelude.{Option, Some, None, ◌==◌}
use Rattle.market_events.specs.declared.events.Entry.{Entry}
use Rattle.market_events.specs.declared.events.Event.{Event}
use Rattle.market_events.specs.declared.links.Link.{Link}
use Rattle.market_events.specs.declared.links.Link.TheVariants.{Service, Asked, Told}
use Rattle.market_events.specs.Counts.{with_raised}
use Rattle.market_events.specs.Links.{IsLink, sender_of, receiver_of}
use Rattle.market_events.specs.Offers.{taken_on, counts_of}
use Rattle.market_history.specs.Causality.{past_of, events_taken}
use Rattle.market_history.specs.Sent.{event_made_on, sent, IsNumbered}
use Rattle.market_history.specs.Stamps.{clock_before}
use Rattle.market_links.specs.Slots.{slot_into, slot_from}
use Rattle.market_links.specs.declared.slots.TheConstants.{SLOTS}
use Rattle.market_node.specs.PlaceStates.{PlaceState}

-- the counts with that of the link raised, where it is a service link
abbrev pub raised_on : List ℕ → Link → ℕ → List ℕ
raised_on counts (Service k) number = with_raised counts k number
raised_on counts (Asked lane service) number = counts
raised_on counts (Told service lane) number = counts

-- the place in front of others, where an event was made there
abbrev pub place_if : Option Event → ℕ → List ℕ → List ℕ
place_if None place more = more
place_if (Some event) place more = place ∷ more

-- the places of the entries that made an event on the link, where the first entry stands at this place
abbrev pub places_from : Link → ℕ → List Entry → List ℕ
places_from link place [] = []
places_from link place (x ∷ xs) = place_if (event_made_on link x.what) place (places_from link (place + 1) xs)

abbrev pub places_of : Link → List Entry → List ℕ
places_of link entries = places_from link 0 entries

-- the event of the link with this number, where one was made
abbrev pub event_with : Link → ℕ → List Entry → Option Event
event_with link number entries = find (λ (e : Event). e.number == number) (sent link entries)

-- what is at the slot
abbrev pub no_places : PlaceState
no_places = record { places = []; spare = 0 }

abbrev pub at_slot : List PlaceState → ℕ → PlaceState
at_slot lists slot = slice_index_or lists slot no_places

-- each slot has room for so many more places
abbrev pub HaveRoom : List PlaceState → ℕ → Type 0
HaveRoom lists room = (slot : ℕ) → slot < SLOTS → room ≤ (at_slot lists slot).spare

-- what is noted of the entries of a node's journal
pub record AreNotes (node : ℕ) (entries : List Entry) (last : ℕ) (told by_service by_slot : List ℕ)
    (lists : List PlaceState) : Type 0 where
  -- the last clock
  pub clock : last ≡ clock_before entries
  -- what is known of each service link
  pub known : told ≡ past_of entries
  -- how many events were taken on each service link, and on each link into the node
  pub services : by_service ≡ counts_of (events_taken entries)
  pub received : length by_slot ≡ SLOTS
  pub receivers : (link : Link) → IsLink link → receiver_of link ≡ node
      → slice_index by_slot (slot_into link) ≡ taken_on (events_taken entries) link
  -- where the events of each link out of the node stand
  pub listed : length lists ≡ SLOTS
  pub places : (link : Link) → IsLink link → sender_of link ≡ node
      → (at_slot lists (slot_from link)).places ≡ places_of link entries
  -- the events of each link are numbered
  pub numbered : (link : Link) → IsNumbered (sent link entries)
