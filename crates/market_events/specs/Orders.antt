-- Orders: what they answer, by the confirmed checkouts, payments, shipments and deliveries that were taken.
use Rattle.std.specs.Prelude.{ℕ, Bool, true, false, ◌==◌, ◌&&◌, not, List, [], ◌∷◌, Option, Some}
use Rattle.std.specs.Prelude.{None, filter, filter_map, if◌then◌else◌}
use Rattle.std.specs.List.{list_any, sum_by, flat_map}
use Rattle.market_amounts.specs.declared.keys.ProductKey.{ProductKey}
use Rattle.market_amounts.specs.declared.keys.RequestId.{RequestId}
use Rattle.market_events.specs.declared.bodies.Body.{Body}
use Rattle.market_events.specs.declared.bodies.Body.TheVariants as body
use Rattle.market_events.specs.declared.bodies.Ending.TheVariants as ending
use Rattle.market_events.specs.declared.bodies.Item.{Item}
use Rattle.market_events.specs.declared.bodies.PricedLine.{PricedLine}
use Rattle.market_events.specs.declared.links.TheConstants.{ORDER_TO_PAYMENT, ORDER_TO_SELLER, ORDER_TO_CART}
use Rattle.market_events.specs.declared.replies.OrderStatus.{OrderStatus}
use Rattle.market_events.specs.declared.replies.OrderStatus.TheVariants as status
use Rattle.market_events.specs.declared.replies.Reply.TheVariants as reply
use Rattle.market_events.specs.declared.replies.Rule.TheVariants as rule
use Rattle.market_events.specs.declared.requests.Ask.{Ask}
use Rattle.market_events.specs.declared.requests.Ask.TheVariants as ask
use Rattle.market_events.specs.Links.{order_node}
use Rattle.market_events.specs.Requests.{same_key, same_id}
use Rattle.market_events.specs.Steps.{Step, Sending, taken_bodies, told, refused}
use Rattle.market_events.specs.Stocks.{Reservation, reservation_in, confirms, fails}
use Rattle.market_events.specs.WellFormed.{total_of}

-- the checkouts that stock confirmed, as they were taken
abbrev pub checkouts_taken : List Step → List Reservation
checkouts_taken steps = filter_map reservation_in (taken_bodies steps)

abbrev pub is_of : RequestId → Reservation → Bool
is_of id r = same_id r.checkout id

-- what the lines of the checkout cost
abbrev pub order_total : List Step → RequestId → ℕ
order_total steps id =
    sum_by (λ (r : Reservation). if is_of id r then total_of r.lines else 0) (checkouts_taken steps)

-- the items that were delivered
abbrev pub items_in : Body → List Item
items_in (body.Delivered items) = items
items_in other = []

abbrev pub items_taken : List Step → List Item
items_taken steps = flat_map items_in (taken_bodies steps)

-- the item is this product of the checkout
abbrev pub is_item_of : RequestId → ProductKey → Item → Bool
is_item_of id key item = same_id item.checkout id && same_key item.key key

-- two items are the same: of one checkout, one product and one customer
abbrev pub same_item : Item → Item → Bool
same_item a b = is_item_of a.checkout a.key b && (b.customer == a.customer)

-- the item of a line of a checkout
abbrev pub item_of : Reservation → PricedLine → Item
item_of r line = record { checkout = r.checkout; customer = r.customer; key = line.key }

-- the line of a checkout stands in none of these items
abbrev pub is_left : List Item → Reservation → PricedLine → Bool
is_left items r line = not (list_any (same_item (item_of r line)) items)

-- the lines of the checkout that stand in none of them
abbrev pub lines_left : List Item → RequestId → Reservation → List PricedLine
lines_left items id r = if is_of id r then filter (is_left items r) r.lines else []

-- the lines of the checkout that stood in no delivery
abbrev pub open_lines : List Step → RequestId → List PricedLine
open_lines steps id = flat_map (lines_left (items_taken steps) id) (checkouts_taken steps)

abbrev pub ships : RequestId → Body → Bool
ships id (body.Shipped checkout) = same_id checkout id
ships id other = false

abbrev pub is_taken : (RequestId → Body → Bool) → List Step → RequestId → Bool
is_taken test steps id = list_any (test id) (taken_bodies steps)

abbrev pub is_nil : {A : Type 0} → List A → Bool
is_nil [] = true
is_nil (x ∷ xs) = false

-- the first that holds
abbrev pub order_status : List Step → RequestId → Option OrderStatus
order_status steps id =
    if not (list_any (is_of id) (checkouts_taken steps)) then None
    else if is_taken fails steps id then Some status.Cancelled
    else if is_nil (open_lines steps id) then Some status.Delivered
    else if is_taken ships steps id then Some status.Shipped
    else if is_taken confirms steps id then Some status.Paid
    else Some status.Invoiced

pub record OrderSums : Type 0 where
  pub status : RequestId → Option OrderStatus
  pub total : RequestId → ℕ

abbrev pub order_sums : List Step → OrderSums
order_sums steps = record { status = order_status steps; total = order_total steps }

-- order: refused where the checkout has none
abbrev pub order_reply_rows : RequestId → Option OrderStatus → ℕ → List Sending
order_reply_rows id None total = refused order_node id rule.NoOrder
order_reply_rows id (Some status) total = told order_node id (reply.OrderState status total) ∷ []

abbrev pub order_asked : OrderSums → RequestId → Ask → List Sending
order_asked s id (ask.Order checkout) = order_reply_rows id (s.status checkout) (s.total checkout)
order_asked s id other = []

abbrev pub order_rows : OrderSums → Body → List Sending
order_rows s (body.Asked request) = order_asked s request.id request.ask
order_rows s (body.StockConfirmed checkout customer lines) =
    (ORDER_TO_SELLER, body.Invoice checkout customer lines (total_of lines))
    ∷ (ORDER_TO_PAYMENT, body.Invoice checkout customer lines (total_of lines)) ∷ []
order_rows s (body.Failed checkout customer rule) =
    (ORDER_TO_CART, body.Ended checkout (ending.Undone rule)) ∷ []
order_rows s (body.Shipped checkout) =
    (ORDER_TO_CART, body.Ended checkout (ending.Whole (s.total checkout))) ∷ []
order_rows s other = []
