-- The base workload at each service: a run, and on each link what one service made and the other took.
use Rattle.std.specs.Prelude.{◌≡◌, List, [], ◌∷◌, filter_map}
use Rattle.market_events.specs.declared.bodies.Body.{Body}
use Rattle.market_events.specs.declared.links.Link.{Link}
use Rattle.market_events.specs.Examples.{mug_change, mug_reserve, mug_reserved, mug_invoice, mug_paid}
use Rattle.market_events.specs.Examples.{mug_shipped, mug_ended}
use Rattle.market_events.specs.ExamplesCart.{mug_is_ended}
use Rattle.market_events.specs.ExamplesCustomer as customer
use Rattle.market_events.specs.ExamplesOrder.{mug_is_shipped}
use Rattle.market_events.specs.ExamplesPayment.{was_paid}
use Rattle.market_events.specs.ExamplesProduct.{mug_created}
use Rattle.market_events.specs.ExamplesSeller as seller
use Rattle.market_events.specs.ExamplesShipment as shipment
use Rattle.market_events.specs.ExamplesStock.{two_paid}
use Rattle.market_events.specs.Services.{Role, IsRunOf}
use Rattle.market_events.specs.Steps.{Step, made_on, body_on}
use Rattle.market_events.specs.declared.links.TheConstants.{PRODUCT_TO_CART, PRODUCT_TO_STOCK, CART_TO_STOCK}
use Rattle.market_events.specs.declared.links.TheConstants.{STOCK_TO_CART, STOCK_TO_ORDER, ORDER_TO_PAYMENT}
use Rattle.market_events.specs.declared.links.TheConstants.{ORDER_TO_SELLER, ORDER_TO_CART, PAYMENT_TO_STOCK}
use Rattle.market_events.specs.declared.links.TheConstants.{PAYMENT_TO_ORDER, PAYMENT_TO_SHIPMENT}
use Rattle.market_events.specs.declared.links.TheConstants.{PAYMENT_TO_CUSTOMER, PAYMENT_TO_SELLER}
use Rattle.market_events.specs.declared.links.TheConstants.{SHIPMENT_TO_ORDER, SHIPMENT_TO_SELLER}
use Rattle.market_events.specs.declared.links.TheConstants.{SHIPMENT_TO_CUSTOMER}

-- what each service took of it, and made
abbrev pub cart_of_base : List Step
cart_of_base = mug_is_ended

abbrev pub product_of_base : List Step
product_of_base = mug_created ∷ []

abbrev pub stock_of_base : List Step
stock_of_base = two_paid

abbrev pub order_of_base : List Step
order_of_base = mug_is_shipped

abbrev pub payment_of_base : List Step
payment_of_base = was_paid

abbrev pub shipment_of_base : List Step
shipment_of_base = shipment.base_shipped

abbrev pub customer_of_base : List Step
customer_of_base = customer.base_paid

abbrev pub seller_of_base : List Step
seller_of_base = seller.base_shipped

-- the bodies that were taken on a link
abbrev pub bodies_taken_on : Link → List Step → List Body
bodies_taken_on link steps = filter_map (λ (s : Step). body_on link (s.from, s.body)) steps

-- on the link one service makes these bodies, and the other takes them
abbrev pub Crosses : Link → List Step → List Step → List Body → Type 0
Crosses link sender receiver bodies =
    (made_on link sender ≡ bodies) × (bodies_taken_on link receiver ≡ bodies)

pub record BaseRuns : Type 0 where
  pub cart : IsRunOf Role.Cart cart_of_base
  pub product : IsRunOf Role.Product product_of_base
  pub stock : IsRunOf Role.Stock stock_of_base
  pub order : IsRunOf Role.Order order_of_base
  pub payment : IsRunOf Role.Payment payment_of_base
  pub shipment : IsRunOf Role.Shipment shipment_of_base
  pub customer : IsRunOf Role.Customer customer_of_base
  pub seller : IsRunOf Role.Seller seller_of_base

pub record BaseLinks : Type 0 where
  pub product_to_cart : Crosses PRODUCT_TO_CART product_of_base cart_of_base (mug_change ∷ [])
  pub product_to_stock : Crosses PRODUCT_TO_STOCK product_of_base stock_of_base (mug_change ∷ [])
  pub cart_to_stock : Crosses CART_TO_STOCK cart_of_base stock_of_base (mug_reserve ∷ [])
  pub stock_to_cart : Crosses STOCK_TO_CART stock_of_base cart_of_base []
  pub stock_to_order : Crosses STOCK_TO_ORDER stock_of_base order_of_base (mug_reserved ∷ [])
  pub order_to_payment : Crosses ORDER_TO_PAYMENT order_of_base payment_of_base (mug_invoice ∷ [])
  pub order_to_seller : Crosses ORDER_TO_SELLER order_of_base seller_of_base (mug_invoice ∷ [])
  pub order_to_cart : Crosses ORDER_TO_CART order_of_base cart_of_base (mug_ended ∷ [])
  pub payment_to_stock : Crosses PAYMENT_TO_STOCK payment_of_base stock_of_base (mug_paid ∷ [])
  pub payment_to_order : Crosses PAYMENT_TO_ORDER payment_of_base order_of_base (mug_paid ∷ [])
  pub payment_to_shipment : Crosses PAYMENT_TO_SHIPMENT payment_of_base shipment_of_base (mug_paid ∷ [])
  pub payment_to_customer : Crosses PAYMENT_TO_CUSTOMER payment_of_base customer_of_base (mug_paid ∷ [])
  pub payment_to_seller : Crosses PAYMENT_TO_SELLER payment_of_base seller_of_base (mug_paid ∷ [])
  pub shipment_to_order : Crosses SHIPMENT_TO_ORDER shipment_of_base order_of_base (mug_shipped ∷ [])
  pub shipment_to_seller : Crosses SHIPMENT_TO_SELLER shipment_of_base seller_of_base (mug_shipped ∷ [])
  pub shipment_to_customer : Crosses SHIPMENT_TO_CUSTOMER shipment_of_base customer_of_base []

pub record BaseExamples : Type 0 where
  pub runs : BaseRuns
  pub links : BaseLinks
