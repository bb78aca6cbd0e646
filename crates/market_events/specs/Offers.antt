-- What becomes of an event that is offered to its receiver, by the events that this node took before.
use Rattle.std.specs.Prelude.{ℕ, ◌+◌, Bool, not, ◌==◌, ◌||◌, nat_lt, nat_le, List, map, count_by, slice_index}
use Rattle.std.specs.Prelude.{if◌then◌else◌}
use Rattle.std.specs.List.{range_with_len, list_all}
use Rattle.market_events.specs.declared.links.TheConstants.{SERVICE_LINKS}
use Rattle.market_events.specs.declared.links.Link.{Link}
use Rattle.market_events.specs.declared.links.Link.TheVariants.{Service}
use Rattle.market_events.specs.declared.events.Event.{Event}
use Rattle.market_events.specs.declared.events.Offer.{Offer}
use Rattle.market_events.specs.declared.events.Offer.TheVariants.{Take, Old, Ahead, NotReady}
use Rattle.market_events.specs.Links.{receiver_of, same_link}

-- how many of the events were taken on this link
abbrev pub taken_on : List Event → Link → ℕ
taken_on taken link = count_by (λ (e : Event). same_link e.link link) taken

-- how many of the events were taken on each service link
unfoldable pub counts_of : List Event → List ℕ
counts_of taken = map (λ k. taken_on taken (Service k)) (range_with_len 0 SERVICE_LINKS)

-- a service link into the node is not needed further than it was taken
abbrev pub is_met : ℕ → List ℕ → List ℕ → ℕ → Bool
is_met node counts past k =
    not (receiver_of (Service k) == node) || nat_le (slice_index past k) (slice_index counts k)

-- no service link into the node is needed further than it was taken
unfoldable pub is_ready : ℕ → List ℕ → List ℕ → Bool
is_ready node counts past = list_all (is_met node counts past) (range_with_len 0 SERVICE_LINKS)

-- by the count taken on the event's link, and the counts taken on each service link
abbrev pub offer_by : ℕ → ℕ → List ℕ → Event → Offer
offer_by count node counts event =
    if nat_le event.number count then Old
    else if nat_lt (count + 1) event.number then Ahead
    else if is_ready node counts event.past then Take
    else NotReady

-- what becomes of an event at a node that took these events
abbrev pub offer_of : ℕ → List Event → Event → Offer
offer_of node taken event = offer_by (taken_on taken event.link) node (counts_of taken) event
