-- What a node's entries become when events are offered to it.
use Rattle.std.specs.Prelude.{◌≡◌, ℕ, true, List, [], ◌∷◌, fold}
use Rattle.market_events.specs.declared.events.Entry.{Entry}
use Rattle.market_events.specs.declared.events.Event.{Event}
use Rattle.market_events.specs.declared.events.Offer.{Offer}
use Rattle.market_events.specs.declared.events.Offer.TheVariants as offer
use Rattle.market_events.specs.declared.roles.Role.{Role}
use Rattle.market_events.specs.Offers.{offer_of}
use Rattle.market_events.specs.Services.{fits}
use Rattle.market_history.specs.Blocks.{Arrival, grow, inputs_of, steps_of}
use Rattle.market_history.specs.Causality.{events_taken}
use Rattle.market_history.specs.Journals.{AsksOwn}
use Rattle.market_node.specs.Arriving.{CanArrive}
use Rattle.market_node.specs.Keeping.{IsAwaitedBy}

-- an event that is taken adds a block, and any other leaves the entries as they are
abbrev pub by_offer : ℕ → List Entry → Event → Offer → List Entry
by_offer node entries event offer.Take = grow node entries (Arrival.Takes event)
by_offer node entries event other = entries

abbrev pub with_offered : ℕ → List Entry → Event → List Entry
with_offered node entries event = by_offer node entries event (offer_of node (events_taken entries) event)

-- events are offered one after the other
abbrev pub with_all_offered : ℕ → List Entry → List Event → List Entry
with_all_offered node entries events = fold (with_offered node) entries events

-- each of the events may be offered after those before it
abbrev pub CanTakeAll : (ℕ → List Entry → Event → Type 0) → ℕ → List Entry → List Event → Type 0
CanTakeAll can node entries [] = Unit {0}
CanTakeAll can node entries (event ∷ events) =
    can node entries event × CanTakeAll can node (with_offered node entries event) events

-- the event may be offered to a service: where it is taken, its body fits the steps before it
pub record FitsService (role : Role) (node : ℕ) (entries : List Entry) (event : Event) : Type 0 where
  pub arrives : CanArrive node entries event
  pub own : offer_of node (events_taken entries) event ≡ offer.Take → AsksOwn event.link event.body
  pub fits : offer_of node (events_taken entries) event ≡ offer.Take
      → fits role (steps_of role (inputs_of entries)) event.link event.body ≡ true

-- the event may be offered to a lane: where it is taken, it tells the reply to a request that waits for one
pub record FitsLane (node : ℕ) (entries : List Entry) (event : Event) : Type 0 where
  pub arrives : CanArrive node entries event
  pub awaited : offer_of node (events_taken entries) event ≡ offer.Take → IsAwaitedBy entries event.body
