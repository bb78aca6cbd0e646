-- Which steps stock holds: its tables are the sums over them.
use Rattle.std.specs.Prelude.{◌≡◌, Bool, false, ◌&&◌, None, List, Option, option_map, find, if◌then◌else◌}
use Rattle.std.specs.List.{list_any}
use Rattle.market_amounts.specs.declared.keys.ProductKey.{ProductKey}
use Rattle.market_amounts.specs.declared.keys.RequestId.{RequestId}
use Rattle.market_events.specs.declared.bodies.Body.{Body}
use Rattle.market_events.specs.declared.bodies.Body.TheVariants as body
use Rattle.market_events.specs.declared.bodies.PricedLine.{PricedLine}
use Rattle.market_events.specs.declared.requests.Ask.{Ask}
use Rattle.market_events.specs.declared.requests.Ask.TheVariants as ask
use Rattle.market_events.specs.Carts.{changes_taken, is_accepted}
use Rattle.market_events.specs.Orders.{is_of}
use Rattle.market_events.specs.Requests.{same_key}
use Rattle.market_events.specs.Steps.{Step}
use Rattle.market_events.specs.Stocks.{Reservation, reservations, is_settled, on_hand, reserved}
use Rattle.cart_replica.specs.Copy.{IsCopyOf}
use Rattle.stock_service.specs.declared.service.Stocks.{Stocks}
use Rattle.stock_service.specs.Amounts.{Amounts}
use Rattle.stock_service.specs.Tables.{amounts_at, has_at, lines_at}

-- what the steps say of a product's pieces
abbrev pub amounts_by : List Step → ProductKey → Amounts
amounts_by steps key = record { on_hand = on_hand steps key; reserved = reserved steps key }

-- whether pieces of the product were stocked
abbrev pub stocks_asked : ProductKey → Ask → Bool
stocks_asked key (ask.Stock k pieces) = same_key k key
stocks_asked key other = false

-- the same of a body
abbrev pub stocks_in : ProductKey → Body → Bool
stocks_in key (body.Asked request) = stocks_asked key request.ask
stocks_in key other = false

-- and of some steps
abbrev pub was_stocked : List Step → ProductKey → Bool
was_stocked steps key = list_any (λ (s : Step). is_accepted s && stocks_in key s.body) steps

-- the lines of a reservation that nothing settled
abbrev pub lines_held : List Step → RequestId → Option (List PricedLine)
lines_held steps id =
    if is_settled steps id then None
    else option_map (λ (r : Reservation). r.lines) (find (is_of id) (reservations steps))

-- the tables have what the steps say
pub record Holds (stocks : Stocks) (steps : List Step) : Type 0 where
  -- the copy of the changes that were taken
  pub copied : IsCopyOf stocks.copy (changes_taken steps)
  -- of each product the pieces on hand, and those that are reserved
  pub each : (key : ProductKey) → amounts_at stocks.levels key ≡ amounts_by steps key
  -- a level of each product of which pieces were stocked
  pub there : (key : ProductKey) → has_at stocks.levels key ≡ was_stocked steps key
  -- of each checkout that waits for its payment the lines
  pub lines : (id : RequestId) → lines_at stocks.held id ≡ lines_held steps id
