-- For which steps the table of the orders stands.
use Rattle.std.specs.Prelude.{◌≡◌, ℕ, List, Option, Some, None, length, find, option_map}
use Rattle.market_amounts.specs.declared.keys.RequestId.{RequestId}
use Rattle.market_events.specs.declared.replies.OrderStatus.{OrderStatus}
use Rattle.market_events.specs.Orders.{checkouts_taken, is_of, order_status, order_total, open_lines}
use Rattle.market_events.specs.Steps.{Step}
use Rattle.market_events.specs.Stocks.{Reservation}
use Rattle.order_service.specs.declared.tables.Order.{Order}
use Rattle.order_service.specs.Tables.{order_at}

-- the customer of the checkout, 0 where stock confirmed none
abbrev pub customer_reserved : Option Reservation → ℕ
customer_reserved None = 0
customer_reserved (Some r) = r.customer

abbrev pub order_customer : List Step → RequestId → ℕ
order_customer steps id = customer_reserved (find (is_of id) (checkouts_taken steps))

-- what the steps say of the checkout's order
abbrev pub order_by : List Step → RequestId → Option Order
order_by steps id =
    option_map (λ (st : OrderStatus). record {
      customer = order_customer steps id;
      status = st;
      total = order_total steps id;
      undelivered = length (open_lines steps id);
    })
    (order_status steps id)

-- the table has of each checkout what the steps say
pub record Holds (table : List (RequestId × Order)) (steps : List Step) : Type 0 where
  pub each : (id : RequestId) → order_at table id ≡ order_by steps id
