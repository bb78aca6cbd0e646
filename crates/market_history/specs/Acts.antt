-- What was accepted so far, and the tables, which are the sums of it.
use Rattle.std.specs.Prelude.{ℕ, ◌+◌, ◌-◌, ◌==◌, ◌&&◌, not, List, [], Option, Some, None, map, filter}
use Rattle.std.specs.Prelude.{filter_map, if◌then◌else◌}
use Rattle.std.specs.List.{list_any, sum_by, count_by, flat_map}
use Rattle.market_amounts.specs.declared.keys.ProductKey.{ProductKey}
use Rattle.market_amounts.specs.declared.keys.RequestId.{RequestId}
use Rattle.market_events.specs.declared.bodies.Item.{Item}
use Rattle.market_events.specs.declared.bodies.PricedLine.{PricedLine}
use Rattle.market_events.specs.declared.replies.OrderStatus.{OrderStatus}
use Rattle.market_events.specs.declared.replies.OrderStatus.TheVariants as status
use Rattle.market_events.specs.declared.replies.UndoneRule.{UndoneRule}
use Rattle.market_events.specs.Carts.{Held, CartSums, joined, with_key}
use Rattle.market_events.specs.Copies.{ProductChange, copy_of, version_of, last_some}
use Rattle.market_events.specs.Customers.{CustomerSums}
use Rattle.market_events.specs.Orders.{OrderSums, is_of, is_item_of, lines_left, is_nil}
use Rattle.market_events.specs.Payments.{PaymentSums}
use Rattle.market_events.specs.Products.{ProductSums}
use Rattle.market_events.specs.Requests.{same_key}
use Rattle.market_events.specs.Sellers.{SellerChange, SellerSums}
use Rattle.market_events.specs.Shipments.{ShipmentSums}
use Rattle.market_events.specs.Steps.{listed}
use Rattle.market_events.specs.Stocks.{StockSums, Reservation, pieces_of}
use Rattle.market_events.specs.WellFormed.{total_of}

-- what a customer left of a product in the basket, a line or none; or that the basket was sent on
pub data BasketAct : Type 0 where
  Left : ℕ → ProductKey → Option Held → BasketAct
  Emptied : ℕ → BasketAct

-- pieces of a product that were stocked
pub record StockAct : Type 0 where
  pub key : ProductKey
  pub pieces : ℕ

-- a card that was set
pub record CardAct : Type 0 where
  pub customer : ℕ
  pub limit : ℕ

-- what was accepted: changes of products, lines set and removed and baskets sent on, pieces stocked, cards,
-- the checkouts that are whole, those that are undone with their rules, those of them that were not paid, the
-- items delivered, and the changes of each seller's entries
pub record Acts : Type 0 where
  pub changes : List ProductChange
  pub baskets : List BasketAct
  pub stocked : List StockAct
  pub cards : List CardAct
  pub whole : List Reservation
  pub undone : List (RequestId × UndoneRule)
  pub unpaid : List Reservation
  pub items : List Item
  pub entries : ℕ → List SellerChange

abbrev pub no_acts : Acts
no_acts =
    record {
      changes = [];
      baskets = [];
      stocked = [];
      cards = [];
      whole = [];
      undone = [];
      unpaid = [];
      items
          = [];
      entries = λ seller. [];
    }

-- what the act leaves of this customer's line of this product
abbrev pub line_left : ℕ → ProductKey → BasketAct → Option (Option Held)
line_left customer key (Left c k left) = if (c == customer) && same_key k key then Some left else None
line_left customer key (Emptied c) = if c == customer then Some None else None

-- what the last act of this customer and this product leaves
abbrev pub line_at : List BasketAct → ℕ → ProductKey → Option Held
line_at acts customer key = joined (last_some (line_left customer key) acts)

abbrev pub act_key : ℕ → BasketAct → Option ProductKey
act_key customer (Left c k left) = if c == customer then Some k else None
act_key customer (Emptied c) = None

-- the basket of a customer by rising key
abbrev pub basket_by : List BasketAct → ℕ → List (ProductKey × Held)
basket_by acts customer =
    listed (filter_map (λ key. with_key key (line_at acts customer key)) (filter_map (act_key customer) acts))

-- the pieces of a product that were stocked, and those that whole checkouts took
abbrev pub pieces_stocked : List StockAct → ProductKey → ℕ
pieces_stocked acts key = sum_by (λ (a : StockAct). if same_key a.key key then a.pieces else 0) acts

abbrev pub pieces_sold : List Reservation → ProductKey → ℕ
pieces_sold checkouts key = sum_by (λ (r : Reservation). pieces_of key r.lines) checkouts

-- the lines of a checkout
abbrev pub lines_if : RequestId → Reservation → List PricedLine
lines_if id r = if is_of id r then r.lines else []

abbrev pub lines_of : List Reservation → RequestId → List PricedLine
lines_of checkouts id = flat_map (lines_if id) checkouts

-- the lines of a checkout that stood in no delivery, as items of its customer
abbrev pub lines_waiting : List Reservation → List Item → RequestId → List PricedLine
lines_waiting checkouts items id = flat_map (lines_left items id) checkouts

-- an order is cancelled where its checkout was not paid, and delivered where each line of it was
abbrev pub status_by : Acts → RequestId → Option OrderStatus
status_by acts id =
    if list_any (is_of id) acts.unpaid then Some status.Cancelled
    else if not (list_any (is_of id) acts.whole) then None
    else if is_nil (lines_waiting acts.whole acts.items id) then Some status.Delivered
    else Some status.Shipped

-- what the lines of a checkout cost
abbrev pub cost_if : RequestId → Reservation → ℕ
cost_if id r = if is_of id r then total_of r.lines else 0

abbrev pub total_by : Acts → RequestId → ℕ
total_by acts id = sum_by (cost_if id) acts.whole + sum_by (cost_if id) acts.unpaid

-- the limit of the customer's last card, and the sum of what the customer paid
abbrev pub card_limit : ℕ → CardAct → Option ℕ
card_limit customer act = if act.customer == customer then Some act.limit else None

abbrev pub limit_by : List CardAct → ℕ → Option ℕ
limit_by acts customer = last_some (card_limit customer) acts

abbrev pub paid_for_checkouts : List Reservation → ℕ → ℕ
paid_for_checkouts checkouts customer =
    sum_by (λ (r : Reservation). if r.customer == customer then total_of r.lines else 0) checkouts

-- the packages of whole checkouts, one for each line, and those of them that no delivery has
abbrev pub packages_for : Reservation → List Item
packages_for r =
    map (λ (line : PricedLine). record { checkout = r.checkout; customer = r.customer; key = line.key })
    r.lines

abbrev pub packages_of_checkouts : List Reservation → List Item
packages_of_checkouts checkouts = flat_map packages_for checkouts

abbrev pub packages_waiting : List Reservation → List Item → List Item
packages_waiting checkouts items =
    filter (λ (p : Item). not (list_any (is_item_of p.checkout p.key) items))
    (packages_of_checkouts checkouts)

-- how many checkouts are of this customer
abbrev pub count_for : List Reservation → ℕ → ℕ
count_for checkouts customer = count_by (λ (r : Reservation). r.customer == customer) checkouts

-- the tables of the eight services
abbrev pub product_table : Acts → ProductSums
product_table acts = record { look = copy_of acts.changes; version = version_of acts.changes }

abbrev pub cart_table : Acts → CartSums
cart_table acts = record { look = copy_of acts.changes; basket = basket_by acts.baskets }

abbrev pub on_hand_by : Acts → ProductKey → ℕ
on_hand_by acts key = pieces_stocked acts.stocked key - pieces_sold acts.whole key

abbrev pub stock_table : Acts → StockSums
stock_table acts = record { look = copy_of acts.changes; on_hand = on_hand_by acts; reserved = λ key. 0 }

abbrev pub order_table : Acts → OrderSums
order_table acts = record { status = status_by acts; total = total_by acts }

abbrev pub payment_table : Acts → PaymentSums
payment_table acts = record { limit = limit_by acts.cards; spent = paid_for_checkouts acts.whole }

abbrev pub shipment_table : Acts → ShipmentSums
shipment_table acts = record { waiting = packages_waiting acts.whole acts.items }

abbrev pub customer_table : Acts → CustomerSums
customer_table acts = record {
  confirmed = count_for acts.whole;
  failed = count_for acts.unpaid;
  delivered = λ customer. count_by (λ (i : Item). i.customer == customer) acts.items;
}

abbrev pub seller_table : Acts → SellerSums
seller_table acts = record { changes = acts.entries }
