-- Links: their places among all links, and who sends and receives on each.
use Rattle.std.specs.Prelude.{ℕ, ◌+◌, ◌*◌, ◌<◌, Bool, false, ◌==◌, ◌&&◌, List, [], ◌∷◌, slice_index_or}
use Rattle.market_amounts.specs.declared.keys.RequestId.{RequestId}
use Rattle.market_events.specs.declared.lanes.TheConstants.{LANES}
use Rattle.market_events.specs.declared.links.TheConstants.{SERVICE_LINKS}
use Rattle.market_events.specs.declared.links.Link.{Link}
use Rattle.market_events.specs.declared.links.Link.TheVariants.{Service, Asked, Told}
use Rattle.market_events.specs.declared.requests.Ask.{Ask}
use Rattle.market_events.specs.declared.requests.Ask.TheVariants as ask
use Rattle.market_events.specs.declared.requests.Request.{Request}
use Rattle.market_events.specs.declared.roles.TheConstants.{SERVICES}
use Rattle.market_events.specs.Requests.{lane_of}
-- the services
pub use Rattle.market_events.specs.declared.roles.Role.{Role}

-- the node of each service
abbrev pub node_of : Role → ℕ
node_of Role.Cart = 0
node_of Role.Product = 1
node_of Role.Stock = 2
node_of Role.Order = 3
node_of Role.Payment = 4
node_of Role.Shipment = 5
node_of Role.Customer = 6
node_of Role.Seller = 7

abbrev pub cart_node : ℕ
cart_node = node_of Role.Cart

abbrev pub product_node : ℕ
product_node = node_of Role.Product

abbrev pub stock_node : ℕ
stock_node = node_of Role.Stock

abbrev pub order_node : ℕ
order_node = node_of Role.Order

abbrev pub payment_node : ℕ
payment_node = node_of Role.Payment

abbrev pub shipment_node : ℕ
shipment_node = node_of Role.Shipment

abbrev pub customer_node : ℕ
customer_node = node_of Role.Customer

abbrev pub seller_node : ℕ
seller_node = node_of Role.Seller

-- the node of a lane
abbrev pub lane_node : ℕ → ℕ
lane_node lane = SERVICES + lane

-- the sender and the receiver of each service link, from link 0 on
abbrev pub service_ends : List (ℕ × ℕ)
service_ends =
    (product_node, cart_node) ∷ (product_node, stock_node) ∷ (cart_node, stock_node) ∷ (stock_node, cart_node)
    ∷ (stock_node, order_node) ∷ (order_node, payment_node) ∷ (order_node, seller_node)
    ∷ (order_node, cart_node)
    ∷ (payment_node, stock_node) ∷ (payment_node, order_node) ∷ (payment_node, shipment_node)
    ∷ (payment_node, customer_node) ∷ (payment_node, seller_node)
    ∷ (shipment_node, order_node) ∷ (shipment_node, seller_node) ∷ (shipment_node, customer_node) ∷ []

-- the numbers are in their ranges
abbrev pub IsLink : Link → Type 0
IsLink (Service number) = number < SERVICE_LINKS
IsLink (Asked lane service) = (lane < LANES) × (service < SERVICES)
IsLink (Told service lane) = (service < SERVICES) × (lane < LANES)

-- service links have their number, then come those from each lane to each service, and those back
abbrev pub index_of : Link → ℕ
index_of (Service number) = number
index_of (Asked lane service) = 16 + SERVICES * lane + service
index_of (Told service lane) = 16 + LANES * SERVICES + SERVICES * lane + service

abbrev pub sender_of : Link → ℕ
sender_of (Service number) = (slice_index_or service_ends number (0, 0)).0
sender_of (Asked lane service) = lane_node lane
sender_of (Told service lane) = service

abbrev pub receiver_of : Link → ℕ
receiver_of (Service number) = (slice_index_or service_ends number (0, 0)).1
receiver_of (Asked lane service) = service
receiver_of (Told service lane) = lane_node lane

abbrev pub same_link : Link → Link → Bool
same_link (Service m) (Service n) = m == n
same_link (Asked i s) (Asked j t) = (i == j) && (s == t)
same_link (Told s i) (Told t j) = (s == t) && (i == j)
same_link a b = false

-- the service that a request is for
abbrev pub service_by_ask : Ask → ℕ
service_by_ask (ask.Create key price freight) = product_node
service_by_ask (ask.Price key price) = product_node
service_by_ask (ask.Delete key) = product_node
service_by_ask (ask.View key) = cart_node
service_by_ask (ask.Line customer key quantity voucher) = cart_node
service_by_ask (ask.Remove customer key) = cart_node
service_by_ask (ask.Checkout customer) = cart_node
service_by_ask (ask.Stock key pieces) = stock_node
service_by_ask (ask.Level key) = stock_node
service_by_ask (ask.Order checkout) = order_node
service_by_ask (ask.Card customer limit) = payment_node
service_by_ask ask.Deliver = shipment_node
service_by_ask (ask.Customer customer) = customer_node
service_by_ask (ask.Dashboard seller) = seller_node

-- the link on which the lane of a request asks its service, and that on which a service tells the lane
abbrev pub asking : Request → Link
asking request = Asked (lane_of request.id) (service_by_ask request.ask)

abbrev pub telling : ℕ → RequestId → Link
telling service id = Told service (lane_of id)
