-- What the eight services answer, which inputs fit, and runs of a service.
use Rattle.std.specs.Prelude.{◌≡◌, ℕ, ◌+◌, Bool, true, false, ◌==◌, ◌&&◌, not, nat_lt, List, [], ◌∷◌}
use Rattle.std.specs.Prelude.{◌++◌, length, if◌then◌else◌}
use Rattle.std.specs.List.{list_any, list_all}
use Rattle.market_amounts.specs.declared.keys.RequestId.{RequestId}
use Rattle.market_events.specs.declared.bodies.Body.{Body}
use Rattle.market_events.specs.declared.bodies.Body.TheVariants as body
use Rattle.market_events.specs.declared.bodies.Item.{Item}
use Rattle.market_events.specs.declared.bodies.PricedLine.{PricedLine}
use Rattle.market_events.specs.declared.changes.Change.{Change}
use Rattle.market_events.specs.declared.changes.Change.TheVariants as change
use Rattle.market_events.specs.declared.changes.Look.{Look}
use Rattle.market_events.specs.declared.changes.Look.TheVariants.{Unknown, Gone, Live}
use Rattle.market_events.specs.declared.links.Link.{Link}
use Rattle.market_events.specs.declared.links.TheConstants.{CART_TO_STOCK}
use Rattle.market_events.specs.Carried.{carries}
use Rattle.market_events.specs.Carts.{changes_taken, cart_sums, cart_rows}
use Rattle.market_events.specs.Copies.{copy_of}
use Rattle.market_events.specs.Customers.{customer_sums, customer_rows}
use Rattle.market_events.specs.Formed.{body_formed}
pub use Rattle.market_events.specs.declared.roles.Role.{Role}
pub use Rattle.market_events.specs.Links.{node_of}
use Rattle.market_events.specs.Links.{receiver_of}
use Rattle.market_events.specs.Looks.{is_live, look_version}
use Rattle.market_events.specs.Orders.{checkouts_taken, is_of, is_taken, ships, items_taken, same_item}
use Rattle.market_events.specs.Orders.{order_sums, order_rows}
use Rattle.market_events.specs.Payments.{payment_sums, payment_rows}
use Rattle.market_events.specs.Products.{product_sums, product_rows}
use Rattle.market_events.specs.Requests.{same_id, same_key}
use Rattle.market_events.specs.Sellers.{invoice_lines, seller_sums, seller_rows}
use Rattle.market_events.specs.Shipments.{shipment_sums, shipment_rows}
use Rattle.market_events.specs.Steps.{Step, Sending, taken_bodies, made_on, same_lines}
use Rattle.market_events.specs.Stocks.{Reservation, reservations, confirms, is_settled, stock_sums}
use Rattle.market_events.specs.Stocks.{stock_taken_rows}

-- what the service makes for an input that fits, after these steps
unfoldable pub answers : Role → List Step → Link → Body → List Sending
answers Role.Cart steps from b = cart_rows (cart_sums steps) b
answers Role.Product steps from b = product_rows (product_sums steps) b
answers Role.Stock steps from b = stock_taken_rows (stock_sums steps) b
answers Role.Order steps from b = order_rows (order_sums steps) b
answers Role.Payment steps from b = payment_rows (payment_sums steps) b
answers Role.Shipment steps from b = shipment_rows (shipment_sums steps) b
answers Role.Customer steps from b = customer_rows (customer_sums steps) b
answers Role.Seller steps from b = seller_rows (seller_sums steps) b

-- a request whose id was not taken before
abbrev pub asks : RequestId → Body → Bool
asks id (body.Asked request) = same_id request.id id
asks id other = false

abbrev pub is_new : List Step → RequestId → Bool
is_new steps id = not (list_any (asks id) (taken_bodies steps))

-- a change with the next version of its product, which is a creation exactly where the product is not live
abbrev pub change_is_due : Look → Change → Bool
change_is_due look (change.Created price freight) = not (is_live look)
change_is_due look (change.Priced price) = is_live look
change_is_due look change.Deleted = is_live look

abbrev pub change_fits : Look → ℕ → Change → Bool
change_fits look version c = (version == 1 + look_version look) && change_is_due look c

abbrev pub is_known : Look → Bool
is_known Unknown = false
is_known (Gone v) = true
is_known (Live v price freight) = true

-- the body is of this kind, for this checkout
abbrev pub reserves : RequestId → Body → Bool
reserves id (body.Reserve checkout customer lines) = same_id checkout id
reserves id other = false

abbrev pub invoices : RequestId → Body → Bool
invoices id (body.Invoice checkout customer lines total) = same_id checkout id
invoices id other = false

abbrev pub ends : RequestId → Body → Bool
ends id (body.ReserveFailed checkout key rule) = same_id checkout id
ends id (body.Ended checkout ending) = same_id checkout id
ends id other = false

-- the checkout is of this customer, and has these lines
abbrev pub is_for : RequestId → ℕ → Reservation → Bool
is_for id customer r = is_of id r && (r.customer == customer)

abbrev pub is_for_lines : RequestId → ℕ → List PricedLine → Reservation → Bool
is_for_lines id customer lines r = is_for id customer r && same_lines r.lines lines

abbrev pub invoices_for : RequestId → ℕ → Body → Bool
invoices_for id customer (body.Invoice checkout c lines total) = same_id checkout id && (c == customer)
invoices_for id customer other = false

abbrev pub invoices_lines : RequestId → ℕ → List PricedLine → Body → Bool
invoices_lines id customer lines (body.Invoice checkout c others total) =
    same_id checkout id && (c == customer) && same_lines others lines
invoices_lines id customer lines other = false

-- a payment, or that there is none, for a checkout that was seen before and is not settled
abbrev pub settles_fit : List Step → RequestId → Bool → Bool
settles_fit steps id seen = seen && not (is_settled steps id)

-- a shipment of a checkout that was paid and not shipped
abbrev pub ships_fit : List Step → RequestId → Bool
ships_fit steps id = is_taken confirms steps id && not (is_taken ships steps id)

-- no item occurs twice, or in an earlier delivery: two items that differ in the customer alone are two
abbrev pub items_apart : List Item → List Item → Bool
items_apart before [] = true
items_apart before (i ∷ more) = not (list_any (same_item i) before) && items_apart (before ++ i ∷ []) more

-- the item is of a line of a checkout that was shipped, whoever its customer is
abbrev pub is_line_of : List PricedLine → Item → Bool
is_line_of lines item = list_any (λ (line : PricedLine). same_key line.key item.key) lines

abbrev pub order_item_fits : List Step → Item → Bool
order_item_fits steps item =
    is_taken ships steps item.checkout
    && list_any (λ (r : Reservation). is_of item.checkout r
    && is_line_of r.lines item) (checkouts_taken steps)

abbrev pub seller_item_fits : List Step → Item → Bool
seller_item_fits steps item =
    is_taken ships steps item.checkout && is_line_of (invoice_lines (taken_bodies steps) item.checkout) item

abbrev pub cart_fits : List Step → Body → Bool
cart_fits steps (body.Asked request) = is_new steps request.id
cart_fits steps (body.Changed key version change) =
    change_fits (copy_of (changes_taken steps) key) version change
cart_fits steps (body.ReserveFailed checkout key rule) =
    list_any (reserves checkout) (made_on CART_TO_STOCK steps)
    && not (list_any (ends checkout) (taken_bodies steps))
cart_fits steps (body.Ended checkout ending) =
    list_any (reserves checkout) (made_on CART_TO_STOCK steps)
    && not (list_any (ends checkout) (taken_bodies steps))
cart_fits steps other = false

abbrev pub product_fits : List Step → Body → Bool
product_fits steps (body.Asked request) = is_new steps request.id
product_fits steps other = false

abbrev pub stock_fits : List Step → Body → Bool
stock_fits steps (body.Asked request) = is_new steps request.id
stock_fits steps (body.Changed key version change) =
    change_fits (copy_of (changes_taken steps) key) version change
stock_fits steps (body.Reserve checkout customer lines) =
    not (is_taken reserves steps checkout)
    && list_all (λ (line : PricedLine). is_known (copy_of (changes_taken steps) line.key)) lines
stock_fits steps (body.Confirmed checkout customer lines total) =
    settles_fit steps checkout (list_any (is_for_lines checkout customer lines) (reservations steps))
stock_fits steps (body.Failed checkout customer rule) =
    settles_fit steps checkout (list_any (is_for checkout customer) (reservations steps))
stock_fits steps other = false

abbrev pub order_fits : List Step → Body → Bool
order_fits steps (body.Asked request) = is_new steps request.id
order_fits steps (body.StockConfirmed checkout customer lines) =
    not (list_any (is_of checkout) (checkouts_taken steps))
order_fits steps (body.Confirmed checkout customer lines total) =
    settles_fit steps checkout (list_any (is_for_lines checkout customer lines) (checkouts_taken steps))
order_fits steps (body.Failed checkout customer rule) =
    settles_fit steps checkout (list_any (is_for checkout customer) (checkouts_taken steps))
order_fits steps (body.Shipped checkout) = ships_fit steps checkout
order_fits steps (body.Delivered items) =
    items_apart (items_taken steps) items && list_all (order_item_fits steps) items
order_fits steps other = false

abbrev pub payment_fits : List Step → Body → Bool
payment_fits steps (body.Asked request) = is_new steps request.id
payment_fits steps (body.Invoice checkout customer lines total) = not (is_taken invoices steps checkout)
payment_fits steps other = false

abbrev pub shipment_fits : List Step → Body → Bool
shipment_fits steps (body.Asked request) = is_new steps request.id
shipment_fits steps (body.Confirmed checkout customer lines total) = not (is_taken confirms steps checkout)
shipment_fits steps other = false

abbrev pub customer_fits : List Step → Body → Bool
customer_fits steps (body.Asked request) = is_new steps request.id
customer_fits steps (body.Confirmed checkout customer lines total) = not (is_settled steps checkout)
customer_fits steps (body.Failed checkout customer rule) = not (is_settled steps checkout)
customer_fits steps (body.Delivered items) = items_apart (items_taken steps) items
customer_fits steps other = false

abbrev pub seller_fits : List Step → Body → Bool
seller_fits steps (body.Asked request) = is_new steps request.id
seller_fits steps (body.Invoice checkout customer lines total) = not (is_taken invoices steps checkout)
seller_fits steps (body.Confirmed checkout customer lines total) =
    settles_fit steps checkout (list_any (invoices_lines checkout customer lines) (taken_bodies steps))
seller_fits steps (body.Failed checkout customer rule) =
    settles_fit steps checkout (list_any (invoices_for checkout customer) (taken_bodies steps))
seller_fits steps (body.Shipped checkout) = ships_fit steps checkout
seller_fits steps (body.Delivered items) =
    items_apart (items_taken steps) items && list_all (seller_item_fits steps) items
seller_fits steps other = false

abbrev pub role_fits : Role → List Step → Body → Bool
role_fits Role.Cart steps b = cart_fits steps b
role_fits Role.Product steps b = product_fits steps b
role_fits Role.Stock steps b = stock_fits steps b
role_fits Role.Order steps b = order_fits steps b
role_fits Role.Payment steps b = payment_fits steps b
role_fits Role.Shipment steps b = shipment_fits steps b
role_fits Role.Customer steps b = customer_fits steps b
role_fits Role.Seller steps b = seller_fits steps b

-- how many steps a service takes at most
abbrev pub most_steps : ℕ
most_steps = 8_388_608

-- the input fits the steps before it: these are few, the body is well formed, its link leads into the service
-- and can carry it, and the kind's own condition holds
unfoldable pub fits : Role → List Step → Link → Body → Bool
fits role steps from b =
    nat_lt (length steps) most_steps && body_formed b && (receiver_of from == node_of role) && carries from b
    && role_fits role steps b

-- an input that does not fit is answered by nothing
unfoldable pub reactions : Role → List Step → Link → Body → List Sending
reactions role steps from b = if fits role steps from b then answers role steps from b else []

-- the step's input fits these steps, and it makes the answers
pub record Follows (role : Role) (before : List Step) (step : Step) : Type 0 where
  pub fit : fits role before step.from step.body ≡ true
  pub made : step.made ≡ answers role before step.from step.body

-- each step follows those before it
abbrev pub RunsFrom : Role → List Step → List Step → Type 0
RunsFrom role before [] = Unit {0}
RunsFrom role before (s ∷ ss) = Follows role before s × RunsFrom role (before ++ s ∷ []) ss

abbrev pub IsRunOf : Role → List Step → Type 0
IsRunOf role steps = RunsFrom role [] steps
