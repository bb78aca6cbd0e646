-- Outstanding events, link by link.
use Rattle.std.specs.Prelude.{◌≡◌, ℕ, ◌<◌, true, List, [], ◌∷◌, Option, Some, None, slice_get, if◌then◌else◌}
use Rattle.std.specs.List.{AllByRecursion}
use Rattle.market_events.specs.declared.events.Event.{Event}
use Rattle.market_events.specs.declared.links.Link.{Link}
use Rattle.market_events.specs.Links.{IsLink, index_of}
use Rattle.market_history.specs.Histories.{Histories}
use Rattle.market_history.specs.Outstanding.{outstanding, is_no_later}

-- the first event of the link that is outstanding
abbrev pub first_of : Histories → Link → Option Event
first_of h link = slice_get (outstanding h link) 0

-- no event is outstanding on the links before the one with this index
abbrev pub AreSettledBelow : Histories → ℕ → Type 0
AreSettledBelow h n = (link : Link) → IsLink link → index_of link < n → outstanding h link ≡ []

-- the event waits, and no other one of the links before the one with this index comes before it
pub record IsOldestBelow (h : Histories) (n : ℕ) (event : Event) : Type 0 where
  pub on : IsLink event.link
  pub rest : List Event
  pub first : outstanding h event.link ≡ event ∷ rest
  pub least : (link : Link) → IsLink link → index_of link < n
      → AllByRecursion (λ (e : Event). is_no_later event e ≡ true) (outstanding h link)

-- the oldest of the events that wait on the links before the one with this index, where any does
abbrev pub IsFoundBelow : Histories → ℕ → Option Event → Type 0
IsFoundBelow h n None = AreSettledBelow h n
IsFoundBelow h n (Some event) = IsOldestBelow h n event

-- the older of two events, where there are any
abbrev pub older_of : Option Event → Option Event → Option Event
older_of found None = found
older_of None (Some event) = Some event
older_of (Some before) (Some event) = Some (if is_no_later before event then before else event)
