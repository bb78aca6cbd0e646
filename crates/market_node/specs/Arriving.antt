-- What a core asks of an event that is offered to it.
use Rattle.std.specs.Prelude.{◌≡◌, ℕ, ◌-◌, ◌^◌, ◌<◌, ◌≤◌, max, true, List, length}
use Rattle.market_events.specs.declared.events.Entry.{Entry}
use Rattle.market_events.specs.declared.events.Event.{Event}
use Rattle.market_events.specs.Carried.{carries}
use Rattle.market_events.specs.Links.{IsLink, receiver_of}
use Rattle.market_events.specs.WellFormed.{IsWellFormedEvent}
use Rattle.market_history.specs.Stamps.{clock_before}

-- the event's link leads into the node and can carry its body, which is well formed, and the journal and the
-- clocks have room for what comes of it
pub record CanArrive (node : ℕ) (entries : List Entry) (event : Event) : Type 0 where
  pub link : IsLink event.link
  pub into : receiver_of event.link ≡ node
  pub carried : carries event.link event.body ≡ true
  pub formed : IsWellFormedEvent event
  pub few : length entries < 2 ^ 31
  pub clock : max (clock_before entries) event.clock ≤ 2 ^ 62 - 8
