-- What holds of a world at every moment, and what holds besides where no event is outstanding.
use Rattle.std.specs.Prelude.{◌≡◌, ℕ, ◌+◌, ◌<◌, ◌≤◌, false, true, is_some, List, Contains}
use Rattle.std.specs.List.{AllByRecursion, sum_by}
use Rattle.market_amounts.specs.declared.keys.ProductKey.{ProductKey}
use Rattle.market_amounts.specs.declared.keys.RequestId.{RequestId}
use Rattle.market_events.specs.declared.events.Entry.{Entry}
use Rattle.market_events.specs.declared.events.Event.{Event}
use Rattle.market_events.specs.declared.lanes.TheConstants.{LANES}
use Rattle.market_events.specs.declared.links.Link.TheVariants.{Service}
use Rattle.market_events.specs.declared.requests.Request.{Request}
use Rattle.market_events.specs.Carts.{changes_taken}
use Rattle.market_events.specs.Links.{lane_node, receiver_of}
use Rattle.market_events.specs.Products.{changes_made}
use Rattle.market_events.specs.declared.roles.Role.{Role}
use Rattle.market_events.specs.Stocks.{Reservation, on_hand, pieces_of, reserved, sold, stocked}
use Rattle.market_history.specs.Blocks.{service_steps}
use Rattle.market_history.specs.Book.{IsBook, tables_at_end}
use Rattle.market_history.specs.Causality.{IsBefore, events_taken}
use Rattle.market_history.specs.Checkouts.{is_kept_checkout, listed_reservations, IsDecided}
use Rattle.market_history.specs.Histories.{Histories, journal_at}
use Rattle.market_history.specs.Lawful.{IsLawful}
use Rattle.market_history.specs.Once.{is_waiting, kept_by, reply_at}
use Rattle.market_history.specs.Sent.{IsPrefixOf}
use Rattle.market_laws.specs.Copies.{ShowsFirst}
use Rattle.market_laws.specs.Pasts.{IsTakenAfter}
use Rattle.market_laws.specs.Runs.{Member}
use Rattle.market_laws.specs.Settling.{on_its_way}

-- at every moment
pub record IsSound (h : Histories) : Type 0 where
  pub lawful : IsLawful h
  -- the pieces that stock has reserved are those of the listed reservations, and are on hand
  pub listed : (key : ProductKey)
      → reserved (service_steps h Role.Stock) key
      ≡ sum_by (λ (r : Reservation). pieces_of key r.lines) (listed_reservations h)
  pub covered : (key : ProductKey)
      → reserved (service_steps h Role.Stock) key ≤ on_hand (service_steps h Role.Stock) key
  -- with these no more pieces were sold than were stocked
  pub within : (key : ProductKey)
      → sold (service_steps h Role.Stock) key + reserved (service_steps h Role.Stock) key
      ≤ stocked (service_steps h Role.Stock) key
  -- each listed reservation waits for exactly one event that is outstanding
  pub waits : AllByRecursion (λ (r : Reservation). on_its_way h r.checkout ≡ 1) (listed_reservations h)
  -- the changes that the cart took, and those that stock took, are a front of those that products made
  pub cart_took :
      IsPrefixOf (changes_taken (service_steps h Role.Cart)) (changes_made (service_steps h Role.Product))
  pub stock_took :
      IsPrefixOf (changes_taken (service_steps h Role.Stock)) (changes_made (service_steps h Role.Product))
  -- so their copies show what some first changes leave of each product
  pub cart_shows : ShowsFirst (tables_at_end h).cart_copy (changes_made (service_steps h Role.Product))
  pub stock_shows : ShowsFirst (tables_at_end h).stock_copy (changes_made (service_steps h Role.Product))
  -- no node takes an event before one that is before it and comes to this node on a service link
  pub taken_first : (n k : ℕ) (f e : Event) (taken : List Entry)
      → f.link ≡ Service k → receiver_of (Service k) ≡ n
      → IsBefore (journal_at h) f e → IsTakenAfter (journal_at h n) taken e → Contains (events_taken taken) f

-- where no event is outstanding
pub record IsComplete (h : Histories) : Type 0 where
  -- no lane waits, and each kept request has its reply
  pub idle : (lane : ℕ) → lane < LANES → is_waiting (journal_at h (lane_node lane)) ≡ false
  pub answered : (lane : ℕ) (r : Request) → lane < LANES → Member r (kept_by h lane)
      → is_some (reply_at h r.id) ≡ true
  -- each checkout is whole or undone
  pub decided : (c : RequestId) → is_kept_checkout h c ≡ true → IsDecided h c
  -- every table is the sum of what was accepted
  pub book : IsBook h
