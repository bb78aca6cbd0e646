-- A body comes to one of the services, and the services stand for its step.
use Rattle.std.proofs.Common.{◌≡◌, ℕ, ◌<◌, true, List, Result, Ok, Err, IfOk, OnOk, ap, sym, ◌∙◌, subst, arith}
use Rattle.std.proofs.Math.Bridge.{le_prop}
use Rattle.std.proofs.Math.Logic.{∥∥₁_elim}
use Rattle.std.proofs.lemmas.Bool.Decides.{nat_tests}
use Rattle.market_events.specs.declared.bodies.Body.{Body}
use Rattle.market_events.specs.declared.bodies.Body.TheVariants as body
use Rattle.market_events.specs.declared.links.Link.{Link}
use Rattle.market_events.specs.declared.links.Link.TheVariants.{Service}
use Rattle.market_events.specs.declared.links.TheConstants.{SERVICE_LINKS}
use Rattle.market_events.specs.Carried.{carries}
use Rattle.market_events.specs.Links.{receiver_of}
use Rattle.market_events.specs.declared.roles.Role.{Role}
use Rattle.market_events.specs.Services.{answers, fits, reactions}
use Rattle.market_events.specs.Standing.{Stands, CanTake, with_step}
use Rattle.market_events.specs.Steps.{Step, Sending}
use Rattle.market_events.proofs.Runs.Standing.{stands_on, reactions-fit}
use Rattle.market_events.proofs.Steps.Taken.{fits-parts}
use Rattle.cart_service.specs.Holds as cart
use Rattle.customer_service.specs.Holds as customer
use Rattle.market_history.specs.Blocks.{role_at}
use Rattle.order_service.specs.Holds as order
use Rattle.payment_service.specs.Holds as payment
use Rattle.product_service.specs.Holds as product
use Rattle.seller_service.specs.Holds as seller
use Rattle.shipment_service.specs.Holds as shipment
use Rattle.stock_service.specs.Holds as stock
use Rattle.market.specs.declared.services.Services.{Services}
use Rattle.market.specs.Carrying.{Taken, role_told, with_taken, CanPass, made_of, passed, steps_taken}
use Rattle.market.specs.Services.{StandFor}

-- the services stand for steps that the body fits at this service
abbrev pub CanTakeAt : Services → ℕ → Link → Body → Type 0
CanTakeAt services service from b = ∥ ((taken : Taken) × StandFor services taken × (fits (role_at service) (steps_taken taken (role_at service)) from b ≡ true)) ∥₁

-- a service with this role
module _ (service : ℕ) (role : Role) (is : role_at service ≡ role) (from : Link) (b : Body) where
  pub fits_at : (taken : Taken) → fits (role_at service) (steps_taken taken (role_at service)) from b ≡ true → fits role (steps_taken taken role) from b ≡ true
  fits_at taken fit = ap (λ r. fits r (steps_taken taken r) from b) (sym is) ∙ fit

  -- it can take the body, where it has part in what the services stand for
  pub can_take : {Kept : Type 0} (holds : Kept → List Step → Type 0) (kept : Kept) (services : Services)
      → ((taken : Taken) → StandFor services taken → Stands role holds kept (steps_taken taken role)) → CanTakeAt services service from b → CanTake role holds kept from b
  can_take holds kept services part can = ∥∥₁_elim can squash₁ (λ it. ∣ (steps_taken it.0 role, part it.0 it.1, fits_at it.0 it.2) ∣₁)

  -- what it makes are the answers
  pub answers_at : (taken : Taken) (made : List Sending) → fits (role_at service) (steps_taken taken (role_at service)) from b ≡ true → made ≡ reactions role (steps_taken taken role) from b
      → made ≡ answers (role_at service) (steps_taken taken (role_at service)) from b
  answers_at taken made fit e = e ∙ reactions-fit role (steps_taken taken role) from b (fits_at taken fit) ∙ ap (λ r. answers r (steps_taken taken r) from b) (sym is)

  -- and it stands for one step more
  pub stands_at : (taken : Taken) (after : Services) → StandFor after (with_taken taken role from b) → StandFor after (with_taken taken (role_at service) from b)
  stands_at taken after stand = subst (λ r. StandFor after (with_taken taken r from b)) (sym is) stand

-- a link that carries a body is one of the sixteen
carried_within : (n : ℕ) (b : Body) → carries (Service n) b ≡ true → n < SERVICE_LINKS
carried_within n (body.Asked request) h = cc
carried_within n (body.Told id reply) h = cc
carried_within n other h = grind (arith, nat_tests)

-- a body that can be passed on a service link
module _ (services : Services) (link : Link) (n : ℕ) (at : link ≡ Service n) (b : Body) where
  pub link_within : ∥ ((taken : Taken) × StandFor services taken × CanPass taken (link, b)) ∥₁ → n < SERVICE_LINKS
  link_within can =
      ∥∥₁_elim can le_prop
      (λ it. carried_within n b (fits-parts (role_told n) (steps_taken it.0 (role_told n)) (Service n) b (subst (λ l. CanPass it.0 (l, b)) at it.2)).carried)

  module _ (receiver : ℕ) (is : receiver ≡ receiver_of link) where
    -- it fits the service there
    pub pass_fits : (taken : Taken) → CanPass taken (link, b) → fits (role_at receiver) (steps_taken taken (role_at receiver)) link b ≡ true
    pass_fits taken can =
        ap (λ r. fits (role_at r) (steps_taken taken (role_at r)) link b) is
        ∙ ap (λ l. fits (role_at (receiver_of l)) (steps_taken taken (role_at (receiver_of l))) l b) at ∙ subst (λ l. CanPass taken (l, b)) at can

    pub can_take_there : ∥ ((taken : Taken) × StandFor services taken × CanPass taken (link, b)) ∥₁ → CanTakeAt services receiver link b
    can_take_there can = ∥∥₁_elim can squash₁ (λ it. ∣ (it.0, it.1, pass_fits it.0 it.2) ∣₁)

    -- and what that makes is what is made of it
    pub made_there : (taken : Taken) → made_of taken (link, b) ≡ answers (role_at receiver) (steps_taken taken (role_at receiver)) link b
    made_there taken =
        ap (λ l. made_of taken (l, b)) at ∙ sym (ap (λ l. answers (role_at (receiver_of l)) (steps_taken taken (role_at (receiver_of l))) l b) at)
        ∙ sym (ap (λ r. answers (role_at r) (steps_taken taken (role_at r)) link b) is)

    pub passed_there : (taken : Taken) → passed taken (link, b) ≡ with_taken taken (role_at receiver) link b
    passed_there taken =
        ap (λ l. passed taken (l, b)) at ∙ sym (ap (λ l. with_taken taken (role_at (receiver_of l)) l b) at)
        ∙ sym (ap (λ r. with_taken taken (role_at r) link b) is)

    pub makes_there : {E : Type 0} (r : Result (List Sending) E)
        → IfOk r (λ made. (taken : Taken) → StandFor services taken → fits (role_at receiver) (steps_taken taken (role_at receiver)) link b ≡ true → made ≡ answers (role_at receiver) (steps_taken taken (role_at receiver)) link b)
        → IfOk r (λ made. (taken : Taken) → StandFor services taken → CanPass taken (link, b) → made ≡ made_of taken (link, b))
    makes_there (Ok made) made_is = λ taken stand can. made_is taken stand (pass_fits taken can) ∙ sym (made_there taken)
    makes_there (Err e) made_is = tt

    pub stands_there : {T E : Type 0} (r : Result T E) (after : Services)
        → OnOk r ((taken : Taken) → StandFor services taken → fits (role_at receiver) (steps_taken taken (role_at receiver)) link b ≡ true → StandFor after (with_taken taken (role_at receiver) link b))
        → OnOk r ((taken : Taken) → StandFor services taken → CanPass taken (link, b) → StandFor after (passed taken (link, b)))
    stands_there (Ok x) after on = λ taken stand can. subst (λ t. StandFor after t) (sym (passed_there taken)) (on taken stand (pass_fits taken can))
    stands_there (Err e) after on = tt

-- the services after one of them took a body
module _ (services : Services) (taken : Taken) (stand : StandFor services taken) (from : Link) (b : Body) where
  pub carts_on : (new : _) → fits Role.Cart taken.carts from b ≡ true → cart.Holds new (with_step Role.Cart taken.carts from b) → StandFor (record services { carts = new }) (with_taken taken Role.Cart from b)
  carts_on new fit held = record {
    carts = stands_on Role.Cart cart.Holds services.carts new taken.carts from b stand.carts fit held;
    products = stand.products;
    stocks = stand.stocks;
    orders = stand.orders;
    payments = stand.payments;
    shipments = stand.shipments;
    customers = stand.customers;
    sellers = stand.sellers;
  }

  pub products_on : (new : _) → fits Role.Product taken.products from b ≡ true → product.Holds new (with_step Role.Product taken.products from b) → StandFor (record services { products = new }) (with_taken taken Role.Product from b)
  products_on new fit held = record {
    carts = stand.carts;
    products = stands_on Role.Product product.Holds services.products new taken.products from b stand.products fit held;
    stocks = stand.stocks;
    orders = stand.orders;
    payments = stand.payments;
    shipments = stand.shipments;
    customers = stand.customers;
    sellers = stand.sellers;
  }

  pub stocks_on : (new : _) → fits Role.Stock taken.stocks from b ≡ true → stock.Holds new (with_step Role.Stock taken.stocks from b) → StandFor (record services { stocks = new }) (with_taken taken Role.Stock from b)
  stocks_on new fit held = record {
    carts = stand.carts;
    products = stand.products;
    stocks = stands_on Role.Stock stock.Holds services.stocks new taken.stocks from b stand.stocks fit held;
    orders = stand.orders;
    payments = stand.payments;
    shipments = stand.shipments;
    customers = stand.customers;
    sellers = stand.sellers;
  }

  pub orders_on : (new : _) → fits Role.Order taken.orders from b ≡ true → order.Holds new (with_step Role.Order taken.orders from b) → StandFor (record services { orders = new }) (with_taken taken Role.Order from b)
  orders_on new fit held = record {
    carts = stand.carts;
    products = stand.products;
    stocks = stand.stocks;
    orders = stands_on Role.Order order.Holds services.orders new taken.orders from b stand.orders fit held;
    payments = stand.payments;
    shipments = stand.shipments;
    customers = stand.customers;
    sellers = stand.sellers;
  }

  pub payments_on : (new : _) → fits Role.Payment taken.payments from b ≡ true → payment.Holds new (with_step Role.Payment taken.payments from b) → StandFor (record services { payments = new }) (with_taken taken Role.Payment from b)
  payments_on new fit held = record {
    carts = stand.carts;
    products = stand.products;
    stocks = stand.stocks;
    orders = stand.orders;
    payments = stands_on Role.Payment payment.Holds services.payments new taken.payments from b stand.payments fit held;
    shipments = stand.shipments;
    customers = stand.customers;
    sellers = stand.sellers;
  }

  pub shipments_on : (new : _) → fits Role.Shipment taken.shipments from b ≡ true → shipment.Holds new (with_step Role.Shipment taken.shipments from b) → StandFor (record services { shipments = new }) (with_taken taken Role.Shipment from b)
  shipments_on new fit held = record {
    carts = stand.carts;
    products = stand.products;
    stocks = stand.stocks;
    orders = stand.orders;
    payments = stand.payments;
    shipments = stands_on Role.Shipment shipment.Holds services.shipments new taken.shipments from b stand.shipments fit held;
    customers = stand.customers;
    sellers = stand.sellers;
  }

  pub customers_on : (new : _) → fits Role.Customer taken.customers from b ≡ true → customer.Holds new (with_step Role.Customer taken.customers from b) → StandFor (record services { customers = new }) (with_taken taken Role.Customer from b)
  customers_on new fit held = record {
    carts = stand.carts;
    products = stand.products;
    stocks = stand.stocks;
    orders = stand.orders;
    payments = stand.payments;
    shipments = stand.shipments;
    customers = stands_on Role.Customer customer.Holds services.customers new taken.customers from b stand.customers fit held;
    sellers = stand.sellers;
  }

  pub sellers_on : (new : _) → fits Role.Seller taken.sellers from b ≡ true → seller.Holds new (with_step Role.Seller taken.sellers from b) → StandFor (record services { sellers = new }) (with_taken taken Role.Seller from b)
  sellers_on new fit held = record {
    carts = stand.carts;
    products = stand.products;
    stocks = stand.stocks;
    orders = stand.orders;
    payments = stand.payments;
    shipments = stand.shipments;
    customers = stand.customers;
    sellers = stands_on Role.Seller seller.Holds services.sellers new taken.sellers from b stand.sellers fit held;
  }
