-- What the core of a node asks of what arrives there, and the journal that this leaves.
use Rattle.std.specs.Prelude.{◌≡◌, ℕ, ◌-◌, ◌^◌, ◌<◌, ◌≤◌, true, Result, Ok, Err, List, length}
use Rattle.std.specs.declared.alloc.AllocError.{AllocError}
use Rattle.market_events.specs.declared.events.Entry.{Entry}
use Rattle.market_events.specs.declared.events.Event.{Event}
use Rattle.market_events.specs.declared.events.Offer.{Offer}
use Rattle.market_events.specs.declared.events.Offer.TheVariants as offer
use Rattle.market_events.specs.declared.requests.Request.{Request}
use Rattle.market_events.specs.Links.{lane_node}
use Rattle.market_events.specs.Offers.{offer_of}
use Rattle.market_events.specs.Requests.{lane_of}
use Rattle.market_events.specs.Services.{fits}
use Rattle.market_events.specs.WellFormed.{IsRequest}
use Rattle.market_history.specs.declared.schedule.Give.{Give}
use Rattle.market_history.specs.declared.schedule.Give.TheVariants as give
use Rattle.market_history.specs.Blocks.{Arrival, grow, inputs_of, role_at, services, steps_of}
use Rattle.market_history.specs.Causality.{events_taken}
use Rattle.market_history.specs.Journals.{AsksOwn}
use Rattle.market_history.specs.Stamps.{clock_before}
use Rattle.market_node.specs.Arriving.{CanArrive}
use Rattle.market_node.specs.Keeping.{IsAwaitedBy}

-- the event can be offered to the node with this journal: the node's core can look at it, a request is asked
-- by its own lane, and where it is taken it fits a service, and is awaited by a lane
pub record CanOffer (n : ℕ) (entries : List Entry) (event : Event) : Type 0 where
  pub arrives : CanArrive n entries event
  pub own : AsksOwn event.link event.body
  pub fitting : n < services → offer_of n (events_taken entries) event ≡ offer.Take
      → fits (role_at n) (steps_of (role_at n) (inputs_of entries)) event.link event.body ≡ true
  pub awaited : offer_of n (events_taken entries) event ≡ offer.Take → IsAwaitedBy entries event.body

-- the request can be given to the lane with this journal
pub record CanGive (n : ℕ) (entries : List Entry) (request : Request) : Type 0 where
  pub formed : IsRequest request
  pub own : lane_node (lane_of request.id) ≡ n
  pub few : length entries < 2 ^ 31
  pub clock : clock_before entries ≤ 2 ^ 62 - 8

-- the journal after an event was offered: one block more where it was taken
abbrev pub after_offer_of : ℕ → List Entry → Event → Result Offer AllocError → List Entry
after_offer_of n entries event (Ok offer.Take) = grow n entries (Arrival.Takes event)
after_offer_of n entries event (Ok offer.Old) = entries
after_offer_of n entries event (Ok offer.Ahead) = entries
after_offer_of n entries event (Ok offer.NotReady) = entries
after_offer_of n entries event (Err e) = entries

-- and after a request was given: one block more where it was asked
abbrev pub after_give_of : ℕ → List Entry → Request → Result Give AllocError → List Entry
after_give_of n entries request (Ok give.Asked) = grow n entries (Arrival.Gives request)
after_give_of n entries request (Ok give.Kept) = entries
after_give_of n entries request (Ok give.Differs) = entries
after_give_of n entries request (Ok give.Waiting) = entries
after_give_of n entries request (Ok give.Full) = entries
after_give_of n entries request (Err e) = entries
