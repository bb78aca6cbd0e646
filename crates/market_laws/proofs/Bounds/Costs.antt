-- What a service makes of a body costs no more than the body's link weighs.
use Rattle.std.proofs.Common.{◌≡◌, ℕ, ◌+◌, ◌≤◌, ◌&&◌, Bool, true, false, nat_le, nat_lt, not, List, [], ◌∷◌, Option, Some, None, length, if◌then◌else◌, refl, arith}
use Rattle.market_amounts.specs.declared.keys.ProductKey.{ProductKey}
use Rattle.market_amounts.specs.declared.keys.RequestId.{RequestId}
use Rattle.market_events.specs.declared.bodies.Body.{Body}
use Rattle.market_events.specs.declared.bodies.Body.TheVariants as body
use Rattle.market_events.specs.declared.bodies.Item.{Item}
use Rattle.market_events.specs.declared.bodies.StockRule.{StockRule}
use Rattle.market_events.specs.declared.changes.Change.TheVariants as change
use Rattle.market_events.specs.declared.changes.Look.{Look}
use Rattle.market_events.specs.declared.changes.Look.TheVariants.{Unknown, Gone, Live}
use Rattle.market_events.specs.declared.links.Link.{Link}
use Rattle.market_events.specs.declared.replies.OrderStatus.{OrderStatus}
use Rattle.market_events.specs.declared.requests.Ask.{Ask}
use Rattle.market_events.specs.declared.requests.Ask.TheVariants as ask
use Rattle.market_events.specs.Carried.{carries}
use Rattle.market_events.specs.Carts.{CartSums, Held, cart_sums, cart_rows, cart_asked, view_rows, line_rows, checkout_rows, first_gone, has_key}
use Rattle.market_events.specs.Customers.{CustomerSums, customer_sums, customer_rows, customer_asked}
use Rattle.market_events.specs.Links.{receiver_of}
use Rattle.market_events.specs.Orders.{OrderSums, order_sums, order_rows, order_asked, order_reply_rows}
use Rattle.market_events.specs.Payments.{PaymentSums, payment_sums, payment_rows, payment_asked, invoice_rows}
use Rattle.market_events.specs.Products.{ProductSums, product_sums, product_rows, product_asked, create_rows, price_rows, delete_rows}
use Rattle.market_events.specs.Sellers.{SellerSums, seller_sums, seller_rows, seller_asked}
use Rattle.market_events.specs.declared.roles.Role.{Role}
use Rattle.market_events.specs.Services.{node_of, answers}
use Rattle.market_events.specs.Shipments.{ShipmentSums, shipment_sums, shipment_rows, shipment_asked, deliver_rows, delivered_of, oldest_of}
use Rattle.market_events.specs.Steps.{Step, Sending}
use Rattle.market_events.specs.Stocks.{StockSums, stock_sums, stock_taken_rows, stock_asked, stock_rows, level_rows, reserve_rows, line_refusal, first_some}
use Rattle.market_events.specs.WellFormed.{pieces_max, most_lines}
use Rattle.market_laws.proofs.Bounds.Weights.{weight, costs, weight-low, asked_weight, reserve_weight, reserve_failed_weight, ended_weight, stock_confirmed_weight, failed_weight, shipped_weight, invoice_weight, confirmed_weight}

-- what a request causes: its checkout's reservation at most
abbrev AreFew : List Sending → Type 0
AreFew rows = costs rows ≤ 37

-- by a test
few_by : (test : Bool) (xs ys : List Sending) → AreFew xs → AreFew ys → AreFew (if test then xs else ys)
few_by true xs ys p q = p
few_by false xs ys p q = q

cart_few : (s : CartSums) (id : RequestId) (a : Ask) → AreFew (cart_asked s id a)
cart_few s id (ask.View key) = by (s.look key)
  where
    by : (look : Look) → AreFew (view_rows id look)
    by Unknown = omega arith
    by (Gone v) = omega arith
    by (Live v price freight) = omega arith
cart_few s id (ask.Line customer key quantity voucher) = by (s.look key)
  where
    by : (look : Look) → AreFew (line_rows id key quantity look (s.basket customer))
    by Unknown = omega arith
    by (Gone v) = omega arith
    by (Live v price freight) = few_by (nat_le most_lines (length (s.basket customer)) && not (has_key (s.basket customer) key)) _ _ (omega arith) (omega arith)
cart_few s id (ask.Remove customer key) = few_by (has_key (s.basket customer) key) _ _ (omega arith) (omega arith)
cart_few s id (ask.Checkout customer) = by (s.basket customer) (first_gone s.look (s.basket customer))
  where
    by : (basket : List (ProductKey × Held)) (first : Option ProductKey) → AreFew (checkout_rows id customer s.look basket first)
    by [] first = omega arith
    by (e ∷ es) (Some key) = omega arith
    by (e ∷ es) None = omega arith
cart_few s id other = omega arith

product_few : (s : ProductSums) (id : RequestId) (a : Ask) → AreFew (product_asked s id a)
product_few s id (ask.Create key price freight) = by (s.look key)
  where
    by : (look : Look) → AreFew (create_rows id key (change.Created price freight) look (s.version key))
    by Unknown = omega arith
    by (Gone v) = omega arith
    by (Live v price freight) = omega arith
product_few s id (ask.Price key price) = by (s.look key)
  where
    by : (look : Look) → AreFew (price_rows id key (change.Priced price) look (s.version key))
    by Unknown = omega arith
    by (Gone v) = omega arith
    by (Live v price freight) = omega arith
product_few s id (ask.Delete key) = by (s.look key)
  where
    by : (look : Look) → AreFew (delete_rows id key look (s.version key))
    by Unknown = omega arith
    by (Gone v) = omega arith
    by (Live v price freight) = omega arith
product_few s id other = omega arith

stock_few : (s : StockSums) (id : RequestId) (a : Ask) → AreFew (stock_asked s id a)
stock_few s id (ask.Stock key pieces) = by (s.look key)
  where
    by : (look : Look) → AreFew (stock_rows id pieces look (s.on_hand key))
    by Unknown = omega arith
    by (Gone v) = omega arith
    by (Live v price freight) = few_by (nat_lt pieces_max (s.on_hand key + pieces)) _ _ (omega arith) (omega arith)
stock_few s id (ask.Level key) = by (s.look key)
  where
    by : (look : Look) → AreFew (level_rows id look (s.on_hand key) (s.reserved key))
    by Unknown = omega arith
    by (Gone v) = omega arith
    by (Live v price freight) = omega arith
stock_few s id other = omega arith

order_few : (s : OrderSums) (id : RequestId) (a : Ask) → AreFew (order_asked s id a)
order_few s id (ask.Order checkout) = by (s.status checkout)
  where
    by : (status : Option OrderStatus) → AreFew (order_reply_rows id status (s.total checkout))
    by None = omega arith
    by (Some status) = omega arith
order_few s id other = omega arith

payment_few : (s : PaymentSums) (id : RequestId) (a : Ask) → AreFew (payment_asked s id a)
payment_few s id (ask.Card customer limit) = omega arith
payment_few s id other = omega arith

shipment_few : (s : ShipmentSums) (id : RequestId) (a : Ask) → AreFew (shipment_asked s id a)
shipment_few s id ask.Deliver = by (delivered_of s.waiting)
  where
    by : (items : List Item) → AreFew (deliver_rows id items (length (oldest_of s.waiting)))
    by [] = omega arith
    by (i ∷ more) = omega arith
shipment_few s id other = omega arith

customer_few : (s : CustomerSums) (id : RequestId) (a : Ask) → AreFew (customer_asked s id a)
customer_few s id (ask.Customer customer) = omega arith
customer_few s id other = omega arith

seller_few : (s : SellerSums) (id : RequestId) (a : Ask) → AreFew (seller_asked s id a)
seller_few s id (ask.Dashboard seller) = omega arith
seller_few s id other = omega arith

-- the rows cost less than the link weighs
abbrev AreCovered : List Sending → Link → Type 0
AreCovered rows from = 1 + costs rows ≤ weight from

by_cart : (s : CartSums) (from : Link) (b : Body) → carries from b ≡ true → AreCovered (cart_rows s b) from
by_cart s from (body.Asked request) carried = omega (arith, asked_weight from request carried, cart_few s request.id request.ask)
by_cart s from (body.ReserveFailed checkout key rule) carried = omega (arith, reserve_failed_weight from checkout key rule carried)
by_cart s from (body.Ended checkout ending) carried = omega (arith, ended_weight from checkout ending carried)
by_cart s from other carried = omega (arith, weight-low from)

by_product : (s : ProductSums) (from : Link) (b : Body) → carries from b ≡ true → AreCovered (product_rows s b) from
by_product s from (body.Asked request) carried = omega (arith, asked_weight from request carried, product_few s request.id request.ask)
by_product s from other carried = omega (arith, weight-low from)

by_stock : (s : StockSums) (from : Link) (b : Body) → carries from b ≡ true → AreCovered (stock_taken_rows s b) from
by_stock s from (body.Asked request) carried = omega (arith, asked_weight from request carried, stock_few s request.id request.ask)
by_stock s from (body.Reserve checkout customer lines) carried =
    let few = by (first_some (line_refusal s) lines) in omega (arith, reserve_weight from checkout customer lines carried, few)
  where
    by : (o : Option (ProductKey × StockRule)) → costs (reserve_rows checkout customer lines o) ≤ 35
    by None = omega arith
    by (Some refusal) = omega arith
by_stock s from other carried = omega (arith, weight-low from)

by_order : (s : OrderSums) (from : Link) (b : Body) → carries from b ≡ true → receiver_of from ≡ node_of Role.Order → AreCovered (order_rows s b) from
by_order s from (body.Asked request) carried into = omega (arith, asked_weight from request carried, order_few s request.id request.ask)
by_order s from (body.StockConfirmed checkout customer lines) carried into = omega (arith, stock_confirmed_weight from checkout customer lines carried)
by_order s from (body.Failed checkout customer rule) carried into = omega (arith, failed_weight from checkout customer rule carried into)
by_order s from (body.Shipped checkout) carried into = omega (arith, shipped_weight from checkout carried into)
by_order s from other carried into = omega (arith, weight-low from)

by_payment : (s : PaymentSums) (from : Link) (b : Body) → carries from b ≡ true → receiver_of from ≡ node_of Role.Payment → AreCovered (payment_rows s b) from
by_payment s from (body.Asked request) carried into = omega (arith, asked_weight from request carried, payment_few s request.id request.ask)
by_payment s from (body.Invoice checkout customer lines total) carried into =
    let few = by (s.limit customer) in omega (arith, invoice_weight from checkout customer lines total carried into, few)
  where
    within : (limit : ℕ) (test : Bool) → nat_le (s.spent customer + total) limit ≡ test → costs (invoice_rows checkout customer lines total (Some limit) (s.spent customer)) ≤ 28
    within limit true is = rw is (omega arith)
    within limit false is = rw is (omega arith)

    by : (limit : Option ℕ) → costs (invoice_rows checkout customer lines total limit (s.spent customer)) ≤ 28
    by None = omega arith
    by (Some limit) = within limit (nat_le (s.spent customer + total) limit) refl
by_payment s from other carried into = omega (arith, weight-low from)

by_shipment : (s : ShipmentSums) (from : Link) (b : Body) → carries from b ≡ true → receiver_of from ≡ node_of Role.Shipment → AreCovered (shipment_rows s b) from
by_shipment s from (body.Asked request) carried into = omega (arith, asked_weight from request carried, shipment_few s request.id request.ask)
by_shipment s from (body.Confirmed checkout customer lines total) carried into = omega (arith, confirmed_weight from checkout customer lines total carried into)
by_shipment s from other carried into = omega (arith, weight-low from)

by_customer : (s : CustomerSums) (from : Link) (b : Body) → carries from b ≡ true → AreCovered (customer_rows s b) from
by_customer s from (body.Asked request) carried = omega (arith, asked_weight from request carried, customer_few s request.id request.ask)
by_customer s from other carried = omega (arith, weight-low from)

by_seller : (s : SellerSums) (from : Link) (b : Body) → carries from b ≡ true → AreCovered (seller_rows s b) from
by_seller s from (body.Asked request) carried = omega (arith, asked_weight from request carried, seller_few s request.id request.ask)
by_seller s from other carried = omega (arith, weight-low from)

-- what a service answers costs less than the link weighs, on which the body came
pub answers-covered : (role : Role) (steps : List Step) (from : Link) (b : Body) → carries from b ≡ true → receiver_of from ≡ node_of role → AreCovered (answers role steps from b) from
unfolding answers
answers-covered Role.Cart steps from b carried into = by_cart (cart_sums steps) from b carried
answers-covered Role.Product steps from b carried into = by_product (product_sums steps) from b carried
answers-covered Role.Stock steps from b carried into = by_stock (stock_sums steps) from b carried
answers-covered Role.Order steps from b carried into = by_order (order_sums steps) from b carried into
answers-covered Role.Payment steps from b carried into = by_payment (payment_sums steps) from b carried into
answers-covered Role.Shipment steps from b carried into = by_shipment (shipment_sums steps) from b carried into
answers-covered Role.Customer steps from b carried into = by_customer (customer_sums steps) from b carried
answers-covered Role.Seller steps from b carried into = by_seller (seller_sums steps) from b carried
