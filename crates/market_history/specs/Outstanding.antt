-- Events that were made and not yet taken, and the oldest of them.
use Rattle.std.specs.Prelude.{◌≡◌, ℕ, Bool, true, ◌==◌, ◌&&◌, ◌||◌, nat_lt, nat_le, List, [], ◌∷◌, ◌++◌}
use Rattle.std.specs.Prelude.{length, drop, map}
use Rattle.std.specs.List.{AllByRecursion, flat_map, range_with_len}
use Rattle.market_events.specs.declared.events.Event.{Event}
use Rattle.market_events.specs.declared.lanes.TheConstants.{LANES}
use Rattle.market_events.specs.declared.links.Link.{Link}
use Rattle.market_events.specs.declared.links.Link.TheVariants.{Service, Asked, Told}
use Rattle.market_events.specs.declared.links.TheConstants.{SERVICE_LINKS}
use Rattle.market_events.specs.Links.{IsLink, sender_of, receiver_of}
use Rattle.market_history.specs.Blocks.{services}
use Rattle.market_history.specs.Histories.{Histories, journal_at}
use Rattle.market_history.specs.Sent.{sent, got}

-- the events of the link past those that were taken
abbrev pub outstanding : Histories → Link → List Event
outstanding h link =
    drop (length (got link (journal_at h (receiver_of link)))) (sent link (journal_at h (sender_of link)))

-- no event is outstanding
abbrev pub IsSettled : Histories → Type 0
IsSettled h = (link : Link) → IsLink link → outstanding h link ≡ []

-- all links: those between services, those from each lane to each service, and those back
abbrev pub service_links : List Link
service_links = map Service (range_with_len 0 SERVICE_LINKS)

abbrev pub lane_links : ℕ → List Link
lane_links lane =
    map (λ s. Asked lane s) (range_with_len 0 services) ++ map (λ s. Told s lane) (range_with_len 0 services)

abbrev pub all_links : List Link
all_links = service_links ++ flat_map lane_links (range_with_len 0 LANES)

-- a comes before b, or with it: by clock, and by the sender where the clocks are equal
abbrev pub is_no_later : Event → Event → Bool
is_no_later a b =
    nat_lt a.clock b.clock || ((a.clock == b.clock) && nat_le (sender_of a.link) (sender_of b.link))

-- the event of the link with this number is outstanding, the first of its link, and no other one that is
-- comes before it
pub record IsOldest (h : Histories) (link : Link) (number : ℕ) : Type 0 where
  pub event : Event
  pub named : event.number ≡ number
  pub rest : List Event
  pub first : outstanding h link ≡ event ∷ rest
  pub least : (other : Link) → IsLink other
      → AllByRecursion (λ (e : Event). is_no_later event e ≡ true) (outstanding h other)
