-- The eight services of a run, by the steps that they took.
use Rattle.std.specs.Prelude.{◌≡◌, ◌+◌, ◌*◌, ◌≤◌, false, List, length}
use Rattle.market_events.specs.declared.requests.Request.{Request}
use Rattle.market_events.specs.declared.roles.Role.{Role}
use Rattle.market_events.specs.Standing.{Stands}
use Rattle.cart_service.specs.Holds as cart
use Rattle.customer_service.specs.Holds as customer
use Rattle.order_service.specs.Holds as order
use Rattle.payment_service.specs.Holds as payment
use Rattle.product_service.specs.Holds as product
use Rattle.seller_service.specs.Holds as seller
use Rattle.shipment_service.specs.Holds as shipment
use Rattle.stock_service.specs.Holds as stock
use Rattle.market.specs.declared.services.Services.{Services}
use Rattle.market_history.specs.Acts.{no_acts}
use Rattle.market.specs.Agreeing.{HasTables}
use Rattle.market.specs.Carrying.{Taken, IsFresh, most_made, steps_taken}
use Rattle.market.specs.Once.{has_id_of}
use Rattle.market_history.specs.Sequential.{acts_after}

-- the services stand for these steps
pub record StandFor (services : Services) (taken : Taken) : Type 0 where
  pub carts : Stands Role.Cart cart.Holds services.carts taken.carts
  pub products : Stands Role.Product product.Holds services.products taken.products
  pub stocks : Stands Role.Stock stock.Holds services.stocks taken.stocks
  pub orders : Stands Role.Order order.Holds services.orders taken.orders
  pub payments : Stands Role.Payment payment.Holds services.payments taken.payments
  pub shipments : Stands Role.Shipment shipment.Holds services.shipments taken.shipments
  pub customers : Stands Role.Customer customer.Holds services.customers taken.customers
  pub sellers : Stands Role.Seller seller.Holds services.sellers taken.sellers

-- the services stand for steps by which they answered these requests: the sums are the tables, each service
-- took few steps, and none of another request
pub record Serves (services : Services) (requests : List Request) : Type 0 where
  pub taken : Taken
  pub stand : StandFor services taken
  pub tables : HasTables taken (acts_after no_acts requests)
  pub few : (role : Role) → length (steps_taken taken role) ≤ (most_made + 1) * length requests
  pub fresh : (r : Request) → has_id_of requests r ≡ false → (role : Role)
      → IsFresh (steps_taken taken role) r.id

-- a request may come next: its id is new, and there are not too many
pub record IsNext (requests : List Request) (r : Request) : Type 0 where
  pub new : has_id_of requests r ≡ false
  pub few : length requests ≤ 262_144
