-- The table of the orders: what it has of a checkout, and what a body leaves of that.
use Rattle.std.specs.Prelude.{ℕ, ◌-◌, Bool, ◌==◌, ◌&&◌, nat_lt, List, Option, Some, None, length}
use Rattle.std.specs.Prelude.{count_by, option_map, if◌then◌else◌}
use Rattle.std.specs.BTreeMap.{is_at}
use Rattle.std.specs.Map.{lookup}
use Rattle.market_amounts.specs.declared.keys.RequestId.{RequestId}
use Rattle.market_events.specs.declared.bodies.Body.{Body}
use Rattle.market_events.specs.declared.bodies.Body.TheVariants as body
use Rattle.market_events.specs.declared.bodies.Item.{Item}
use Rattle.market_events.specs.declared.bodies.PricedLine.{PricedLine}
use Rattle.market_events.specs.declared.replies.OrderStatus.{OrderStatus}
use Rattle.market_events.specs.declared.replies.OrderStatus.TheVariants as status
use Rattle.market_events.specs.Orders.{OrderSums}
use Rattle.market_events.specs.Requests.{same_id}
use Rattle.market_events.specs.Steps.{id_cmp}
use Rattle.market_events.specs.WellFormed.{total_of}
use Rattle.order_service.specs.declared.tables.Order.{Order}

-- what the table has of the checkout
abbrev pub order_at : List (RequestId × Order) → RequestId → Option Order
order_at table id = lookup (is_at (id_cmp id)) table

abbrev pub status_in : Option Order → Option OrderStatus
status_in order = option_map (λ (o : Order). o.status) order

abbrev pub total_of_order : Option Order → ℕ
total_of_order None = 0
total_of_order (Some order) = order.total

abbrev pub open_in : Option Order → ℕ
open_in None = 0
open_in (Some order) = order.undelivered

-- whose the order is
abbrev pub customer_in : Option Order → Option ℕ
customer_in order = option_map (λ (o : Order). o.customer) order

-- the order of a checkout that is new
abbrev pub new_order : ℕ → List PricedLine → Order
new_order customer lines = record {
  customer = customer;
  status = status.Invoiced;
  total = total_of lines;
  undelivered = length lines;
}

-- the order, where there is one, with this status
abbrev pub with_status : OrderStatus → Option Order → Option Order
with_status st None = None
with_status st (Some order) = Some (record order { status = st })

-- how many of the items are of the checkout and of its order's customer
abbrev pub is_own : RequestId → ℕ → Item → Bool
is_own id customer i = same_id i.checkout id && (customer == i.customer)

abbrev pub item_count : RequestId → Option Order → List Item → ℕ
item_count id None items = 0
item_count id (Some order) items = count_by (is_own id order.customer) items

-- the order with so many lines delivered, which is delivered with its last one
abbrev pub with_delivered : ℕ → Option Order → Option Order
with_delivered n None = None
with_delivered n (Some order) =
    Some (record {
      customer = order.customer;
      status = if nat_lt 0 n && (order.undelivered - n == 0) then status.Delivered else order.status;
      total = order.total;
      undelivered = order.undelivered - n;
    })

-- the order after an item of its checkout and of this customer
abbrev pub with_item : ℕ → Option Order → Option Order
with_item customer None = None
with_item customer (Some order) =
    if order.customer == customer then with_delivered 1 (Some order) else Some order

-- the orders after this body
abbrev pub order_after : (RequestId → Option Order) → Body → RequestId → Option Order
order_after orders (body.StockConfirmed checkout customer lines) id =
    if same_id checkout id then Some (new_order customer lines) else orders id
order_after orders (body.Confirmed checkout customer lines total) id =
    if same_id checkout id then with_status status.Paid (orders id) else orders id
order_after orders (body.Failed checkout customer rule) id =
    if same_id checkout id then with_status status.Cancelled (orders id) else orders id
order_after orders (body.Shipped checkout) id =
    if same_id checkout id then with_status status.Shipped (orders id) else orders id
order_after orders (body.Delivered items) id = with_delivered (item_count id (orders id) items) (orders id)
order_after orders other id = orders id

-- the sums of orders, as the table has them
abbrev pub sums_at : List (RequestId × Order) → OrderSums
sums_at table = record {
  status = λ id. status_in (order_at table id);
  total = λ id. total_of_order (order_at table id);
}
