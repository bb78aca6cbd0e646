-- Bodies of a kind come into orders, payments, shipments, customers and sellers on one service link alone (Alone); so none of
-- the kind was taken before, where one at most of it is made (none-taken).
use Rattle.std.proofs.Common.{◌≡◌, ℕ, ◌<◌, ◌≤◌, Bool, true, false, List, count_by, refl, arith}
use Rattle.std.specs.List.{list_any}
use Rattle.market_amounts.specs.declared.keys.RequestId.{RequestId}
use Rattle.market_events.specs.declared.bodies.Body.{Body}
use Rattle.market_events.specs.declared.bodies.Body.TheVariants as body
use Rattle.market_events.specs.declared.events.Event.{Event}
use Rattle.market_events.specs.declared.links.Link.{Link}
use Rattle.market_events.specs.Carried.{carries}
use Rattle.market_events.specs.Links.{IsLink, sender_of, receiver_of, order_node, payment_node, shipment_node, customer_node, seller_node}
use Rattle.market_events.specs.Orders.{ships}
use Rattle.market_events.specs.Services.{IsRunOf, invoices}
use Rattle.market_events.specs.Steps.{Step, taken_bodies, made_on}
use Rattle.market_events.specs.Stocks.{confirms, settles}
use Rattle.market_events.specs.declared.links.TheConstants.{STOCK_TO_ORDER, ORDER_TO_PAYMENT, ORDER_TO_SELLER, PAYMENT_TO_ORDER, PAYMENT_TO_SHIPMENT, PAYMENT_TO_CUSTOMER, PAYMENT_TO_SELLER, SHIPMENT_TO_ORDER, SHIPMENT_TO_SELLER, SHIPMENT_TO_CUSTOMER}
use Rattle.market_history.specs.Blocks.{role_at, services}
use Rattle.market_history.specs.Histories.{Histories, journal_at}
use Rattle.market_history.specs.Lawful.{IsLawful}
use Rattle.market_laws.specs.Cuts.{steps_at, TookAt}
use Rattle.market_laws.specs.Runs.{holds_pieces, is_delivery}
use Rattle.market_laws.proofs.Origins.Made.{steps-run}
use Rattle.market_laws.proofs.Origins.Once.{once-service}
use Rattle.market_laws.proofs.Fits.KindsOnLinks.{came-on}

-- bodies that pass come into the node on this service link alone
abbrev pub Alone : ℕ → (Body → Bool) → Link → Type 0
Alone s test link = (other : Link) (b : Body) → IsLink other → receiver_of other ≡ s → carries other b ≡ true → test b ≡ true → other ≡ link

-- into payments and shipments
pub invoice-payment : (id : RequestId) → Alone payment_node (invoices id) ORDER_TO_PAYMENT
invoice-payment id link (body.Invoice checkout customer lines total) is into carried passes =
    came-on payment_node ORDER_TO_PAYMENT (body.Invoice checkout customer lines total) (omega arith) tt refl link is into carried
invoice-payment id link other is into carried passes = cc

pub confirm-shipment : (id : RequestId) → Alone shipment_node (confirms id) PAYMENT_TO_SHIPMENT
confirm-shipment id link (body.Confirmed checkout customer lines total) is into carried passes =
    came-on shipment_node PAYMENT_TO_SHIPMENT (body.Confirmed checkout customer lines total) (omega arith) tt refl link is into carried
confirm-shipment id link other is into carried passes = cc

-- into customers
pub settle-customer : (id : RequestId) → Alone customer_node (settles id) PAYMENT_TO_CUSTOMER
settle-customer id link (body.Confirmed checkout customer lines total) is into carried passes =
    came-on customer_node PAYMENT_TO_CUSTOMER (body.Confirmed checkout customer lines total) (omega arith) tt refl link is into carried
settle-customer id link (body.Failed checkout customer rule) is into carried passes =
    came-on customer_node PAYMENT_TO_CUSTOMER (body.Failed checkout customer rule) (omega arith) tt refl link is into carried
settle-customer id link other is into carried passes = cc

pub delivery-customer : Alone customer_node is_delivery SHIPMENT_TO_CUSTOMER
delivery-customer link (body.Delivered items) is into carried passes = came-on customer_node SHIPMENT_TO_CUSTOMER (body.Delivered items) (omega arith) tt refl link is into carried
delivery-customer link other is into carried passes = cc

-- into orders
pub held-order : (id : RequestId) → Alone order_node (holds_pieces id) STOCK_TO_ORDER
held-order id link (body.StockConfirmed checkout customer lines) is into carried passes =
    came-on order_node STOCK_TO_ORDER (body.StockConfirmed checkout customer lines) (omega arith) tt refl link is into carried
held-order id link other is into carried passes = cc

pub settle-order : (id : RequestId) → Alone order_node (settles id) PAYMENT_TO_ORDER
settle-order id link (body.Confirmed checkout customer lines total) is into carried passes =
    came-on order_node PAYMENT_TO_ORDER (body.Confirmed checkout customer lines total) (omega arith) tt refl link is into carried
settle-order id link (body.Failed checkout customer rule) is into carried passes =
    came-on order_node PAYMENT_TO_ORDER (body.Failed checkout customer rule) (omega arith) tt refl link is into carried
settle-order id link other is into carried passes = cc

pub ship-order : (id : RequestId) → Alone order_node (ships id) SHIPMENT_TO_ORDER
ship-order id link (body.Shipped checkout) is into carried passes = came-on order_node SHIPMENT_TO_ORDER (body.Shipped checkout) (omega arith) tt refl link is into carried
ship-order id link other is into carried passes = cc

pub delivery-order : Alone order_node is_delivery SHIPMENT_TO_ORDER
delivery-order link (body.Delivered items) is into carried passes = came-on order_node SHIPMENT_TO_ORDER (body.Delivered items) (omega arith) tt refl link is into carried
delivery-order link other is into carried passes = cc

-- into sellers
pub invoice-seller : (id : RequestId) → Alone seller_node (invoices id) ORDER_TO_SELLER
invoice-seller id link (body.Invoice checkout customer lines total) is into carried passes =
    came-on seller_node ORDER_TO_SELLER (body.Invoice checkout customer lines total) (omega arith) tt refl link is into carried
invoice-seller id link other is into carried passes = cc

pub settle-seller : (id : RequestId) → Alone seller_node (settles id) PAYMENT_TO_SELLER
settle-seller id link (body.Confirmed checkout customer lines total) is into carried passes =
    came-on seller_node PAYMENT_TO_SELLER (body.Confirmed checkout customer lines total) (omega arith) tt refl link is into carried
settle-seller id link (body.Failed checkout customer rule) is into carried passes =
    came-on seller_node PAYMENT_TO_SELLER (body.Failed checkout customer rule) (omega arith) tt refl link is into carried
settle-seller id link other is into carried passes = cc

pub ship-seller : (id : RequestId) → Alone seller_node (ships id) SHIPMENT_TO_SELLER
ship-seller id link (body.Shipped checkout) is into carried passes = came-on seller_node SHIPMENT_TO_SELLER (body.Shipped checkout) (omega arith) tt refl link is into carried
ship-seller id link other is into carried passes = cc

pub delivery-seller : Alone seller_node is_delivery SHIPMENT_TO_SELLER
delivery-seller link (body.Delivered items) is into carried passes = came-on seller_node SHIPMENT_TO_SELLER (body.Delivered items) (omega arith) tt refl link is into carried
delivery-seller link other is into carried passes = cc

-- the link of an event of a kind that comes on one link alone
pub came-alone : (h : Histories) (s : ℕ) (event : Event) (t : TookAt h s event) (test : Body → Bool) (link : Link) → Alone s test link → test event.body ≡ true → event.link ≡ link
came-alone h s event t test link alone passes = alone event.link event.body t.ready.0 t.ready.1 t.ready.2 passes

-- none of a kind that comes on one link alone was taken before, where a run of the sender makes one of it at most
pub none-taken : (h : Histories) (s : ℕ) (event : Event) → IsLawful h → (t : TookAt h s event) (link : Link) (n : ℕ) → sender_of link ≡ n → n < services → (test : Body → Bool) → Alone s test link
    → test event.body ≡ true → ((steps : List Step) → IsRunOf (role_at n) steps → count_by test (made_on link steps) ≤ 1) → list_any test (taken_bodies (steps_at s t.before)) ≡ false
none-taken h s event lawful t link n leaves lt test alone passes few =
    once-service h s event lawful t link n (came-alone h s event t test link alone passes) leaves lt test (few (steps_at n (journal_at h n)) (steps-run n (journal_at h n))) passes
    (λ other b is into carried own also. alone other b is into carried also)
