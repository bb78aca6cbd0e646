use Rattle.std.proofs.Common.{◌≡◌, sym, ◌∙◌, subst}
use Rattle.market_events.specs.declared.roles.Role.{Role}
use Rattle.cart_service.specs.Holds as cart
use Rattle.customer_service.specs.Holds as customer
use Rattle.market_history.specs.Blocks.{role_at}
use Rattle.order_service.specs.Holds as order
use Rattle.payment_service.specs.Holds as payment
use Rattle.product_service.specs.Holds as product
use Rattle.seller_service.specs.Holds as seller
use Rattle.shipment_service.specs.Holds as shipment
use Rattle.stock_service.specs.Holds as stock
use Rattle.market.specs.Carrying.{with_taken}
use Rattle.market.specs.Services.{StandFor}
use Rattle.market.proofs.Carrying.Giving.{can_take, fits_at, answers_at, stands_at, carts_on, products_on, stocks_on, orders_on, payments_on, shipments_on, customers_on, sellers_on}
use Rattle.market.proofs.services.Services.accept.Goals.{in-Cart+in_ok-accept-in-Cart, in-Product+in_ok-accept-in-Product, in-Stock+in_ok-accept-in-Stock, in-Order+in_ok-accept-in-Order, in-Payment+in_ok-accept-in-Payment, in-Shipment+in_ok-accept-in-Shipment, in-Customer+in_ok-accept-in-Customer, in-Seller+in_ok-accept-in-Seller}
use Rattle.market.proofs.services.Services.accept.Goals as goal

pub accept-requires-clause-can : goal.accept-requires-clause-can
accept-requires-clause-can c =
    can_take c.args.service Role.Cart (sym c.role_of.ensures ∙ c.in-Cart.is) c.args.from c.args.body.now cart.Holds c.args.self.now.carts c.args.self.now (λ taken stand. stand.carts) c.requires

pub accept-requires-in-Product-clause-can : goal.accept-requires-in-Product-clause-can
accept-requires-in-Product-clause-can c =
    can_take c.args.service Role.Product (sym c.role_of.ensures ∙ c.in-Product.is) c.args.from c.args.body.now product.Holds c.args.self.now.products c.args.self.now (λ taken stand. stand.products) c.requires

pub accept-requires-in-Stock-clause-can : goal.accept-requires-in-Stock-clause-can
accept-requires-in-Stock-clause-can c =
    can_take c.args.service Role.Stock (sym c.role_of.ensures ∙ c.in-Stock.is) c.args.from c.args.body.now stock.Holds c.args.self.now.stocks c.args.self.now (λ taken stand. stand.stocks) c.requires

pub accept-requires-in-Order-clause-can : goal.accept-requires-in-Order-clause-can
accept-requires-in-Order-clause-can c =
    can_take c.args.service Role.Order (sym c.role_of.ensures ∙ c.in-Order.is) c.args.from c.args.body.now order.Holds c.args.self.now.orders c.args.self.now (λ taken stand. stand.orders) c.requires

pub accept-requires-in-Payment-clause-can : goal.accept-requires-in-Payment-clause-can
accept-requires-in-Payment-clause-can c =
    can_take c.args.service Role.Payment (sym c.role_of.ensures ∙ c.in-Payment.is) c.args.from c.args.body.now payment.Holds c.args.self.now.payments c.args.self.now (λ taken stand. stand.payments) c.requires

pub accept-requires-in-Shipment-clause-can : goal.accept-requires-in-Shipment-clause-can
accept-requires-in-Shipment-clause-can c =
    can_take c.args.service Role.Shipment (sym c.role_of.ensures ∙ c.in-Shipment.is) c.args.from c.args.body.now shipment.Holds c.args.self.now.shipments c.args.self.now (λ taken stand. stand.shipments) c.requires

pub accept-requires-in-Customer-clause-can : goal.accept-requires-in-Customer-clause-can
accept-requires-in-Customer-clause-can c =
    can_take c.args.service Role.Customer (sym c.role_of.ensures ∙ c.in-Customer.is) c.args.from c.args.body.now customer.Holds c.args.self.now.customers c.args.self.now (λ taken stand. stand.customers) c.requires

pub accept-requires-in-Seller-clause-can : goal.accept-requires-in-Seller-clause-can
accept-requires-in-Seller-clause-can c =
    can_take c.args.service Role.Seller (sym c.role_of.ensures ∙ c.in-Seller.is) c.args.from c.args.body.now seller.Holds c.args.self.now.sellers c.args.self.now (λ taken stand. stand.sellers) c.requires

pub returns-clause-made : goal.returns-clause-made
returns-clause-made c = λ taken stand fit.
    let n = c.args.service in
    let from = c.args.from in
    let b = c.args.body.now in
    elim c.match-role_of.branch [
      | in-Cart+in_ok-accept-in-Cart w ↦
          let is : role_at n ≡ Role.Cart = sym c.role_of.ensures ∙ w.in-Cart.is in
          w.made-is ∙ answers_at n Role.Cart is from b taken _ fit (w.in_ok-accept-in-Cart.ensures.made taken.carts stand.carts (fits_at n Role.Cart is from b taken fit))
      | in-Product+in_ok-accept-in-Product w ↦
          let is : role_at n ≡ Role.Product = sym c.role_of.ensures ∙ w.in-Product.is in
          w.made-is ∙ answers_at n Role.Product is from b taken _ fit (w.in_ok-accept-in-Product.ensures.made taken.products stand.products (fits_at n Role.Product is from b taken fit))
      | in-Stock+in_ok-accept-in-Stock w ↦
          let is : role_at n ≡ Role.Stock = sym c.role_of.ensures ∙ w.in-Stock.is in
          w.made-is ∙ answers_at n Role.Stock is from b taken _ fit (w.in_ok-accept-in-Stock.ensures.made taken.stocks stand.stocks (fits_at n Role.Stock is from b taken fit))
      | in-Order+in_ok-accept-in-Order w ↦
          let is : role_at n ≡ Role.Order = sym c.role_of.ensures ∙ w.in-Order.is in
          w.made-is ∙ answers_at n Role.Order is from b taken _ fit (w.in_ok-accept-in-Order.ensures.made taken.orders stand.orders (fits_at n Role.Order is from b taken fit))
      | in-Payment+in_ok-accept-in-Payment w ↦
          let is : role_at n ≡ Role.Payment = sym c.role_of.ensures ∙ w.in-Payment.is in
          w.made-is ∙ answers_at n Role.Payment is from b taken _ fit (w.in_ok-accept-in-Payment.ensures.made taken.payments stand.payments (fits_at n Role.Payment is from b taken fit))
      | in-Shipment+in_ok-accept-in-Shipment w ↦
          let is : role_at n ≡ Role.Shipment = sym c.role_of.ensures ∙ w.in-Shipment.is in
          w.made-is ∙ answers_at n Role.Shipment is from b taken _ fit (w.in_ok-accept-in-Shipment.ensures.made taken.shipments stand.shipments (fits_at n Role.Shipment is from b taken fit))
      | in-Customer+in_ok-accept-in-Customer w ↦
          let is : role_at n ≡ Role.Customer = sym c.role_of.ensures ∙ w.in-Customer.is in
          w.made-is ∙ answers_at n Role.Customer is from b taken _ fit (w.in_ok-accept-in-Customer.ensures.made taken.customers stand.customers (fits_at n Role.Customer is from b taken fit))
      | in-Seller+in_ok-accept-in-Seller w ↦
          let is : role_at n ≡ Role.Seller = sym c.role_of.ensures ∙ w.in-Seller.is in
          w.made-is ∙ answers_at n Role.Seller is from b taken _ fit (w.in_ok-accept-in-Seller.ensures.made taken.sellers stand.sellers (fits_at n Role.Seller is from b taken fit))
    ]

pub returns-clause-stands_on : goal.returns-clause-stands_on
returns-clause-stands_on c = λ taken stand fit.
    let n = c.args.service in
    let from = c.args.from in
    let b = c.args.body.now in
    elim c.match-role_of.branch [
      | in-Cart+in_ok-accept-in-Cart w ↦
          let is : role_at n ≡ Role.Cart = sym c.role_of.ensures ∙ w.in-Cart.is in
          let here = fits_at n Role.Cart is from b taken fit in
          subst (λ services. StandFor services (with_taken taken (role_at n) from b)) (sym w.self-is)
          (stands_at n Role.Cart is from b taken _ (carts_on c.args.self.now taken stand from b w.accept.new.self here (w.in_ok-accept-in-Cart.ensures.kept taken.carts stand.carts here)))
      | in-Product+in_ok-accept-in-Product w ↦
          let is : role_at n ≡ Role.Product = sym c.role_of.ensures ∙ w.in-Product.is in
          let here = fits_at n Role.Product is from b taken fit in
          subst (λ services. StandFor services (with_taken taken (role_at n) from b)) (sym w.self-is)
          (stands_at n Role.Product is from b taken _ (products_on c.args.self.now taken stand from b w.accept-in-Product.new.self here (w.in_ok-accept-in-Product.ensures.kept taken.products stand.products here)))
      | in-Stock+in_ok-accept-in-Stock w ↦
          let is : role_at n ≡ Role.Stock = sym c.role_of.ensures ∙ w.in-Stock.is in
          let here = fits_at n Role.Stock is from b taken fit in
          subst (λ services. StandFor services (with_taken taken (role_at n) from b)) (sym w.self-is)
          (stands_at n Role.Stock is from b taken _ (stocks_on c.args.self.now taken stand from b w.accept-in-Stock.new.self here (w.in_ok-accept-in-Stock.ensures.kept taken.stocks stand.stocks here)))
      | in-Order+in_ok-accept-in-Order w ↦
          let is : role_at n ≡ Role.Order = sym c.role_of.ensures ∙ w.in-Order.is in
          let here = fits_at n Role.Order is from b taken fit in
          subst (λ services. StandFor services (with_taken taken (role_at n) from b)) (sym w.self-is)
          (stands_at n Role.Order is from b taken _ (orders_on c.args.self.now taken stand from b w.accept-in-Order.new.self here (w.in_ok-accept-in-Order.ensures.kept taken.orders stand.orders here)))
      | in-Payment+in_ok-accept-in-Payment w ↦
          let is : role_at n ≡ Role.Payment = sym c.role_of.ensures ∙ w.in-Payment.is in
          let here = fits_at n Role.Payment is from b taken fit in
          subst (λ services. StandFor services (with_taken taken (role_at n) from b)) (sym w.self-is)
          (stands_at n Role.Payment is from b taken _ (payments_on c.args.self.now taken stand from b w.accept-in-Payment.new.self here (w.in_ok-accept-in-Payment.ensures.kept taken.payments stand.payments here)))
      | in-Shipment+in_ok-accept-in-Shipment w ↦
          let is : role_at n ≡ Role.Shipment = sym c.role_of.ensures ∙ w.in-Shipment.is in
          let here = fits_at n Role.Shipment is from b taken fit in
          subst (λ services. StandFor services (with_taken taken (role_at n) from b)) (sym w.self-is)
          (stands_at n Role.Shipment is from b taken _ (shipments_on c.args.self.now taken stand from b w.accept-in-Shipment.new.self here (w.in_ok-accept-in-Shipment.ensures.kept taken.shipments stand.shipments here)))
      | in-Customer+in_ok-accept-in-Customer w ↦
          let is : role_at n ≡ Role.Customer = sym c.role_of.ensures ∙ w.in-Customer.is in
          let here = fits_at n Role.Customer is from b taken fit in
          subst (λ services. StandFor services (with_taken taken (role_at n) from b)) (sym w.self-is)
          (stands_at n Role.Customer is from b taken _ (customers_on c.args.self.now taken stand from b w.accept-in-Customer.new.self here (w.in_ok-accept-in-Customer.ensures.kept taken.customers stand.customers here)))
      | in-Seller+in_ok-accept-in-Seller w ↦
          let is : role_at n ≡ Role.Seller = sym c.role_of.ensures ∙ w.in-Seller.is in
          let here = fits_at n Role.Seller is from b taken fit in
          subst (λ services. StandFor services (with_taken taken (role_at n) from b)) (sym w.self-is)
          (stands_at n Role.Seller is from b taken _ (sellers_on c.args.self.now taken stand from b w.accept-in-Seller.new.self here (w.in_ok-accept-in-Seller.ensures.kept taken.sellers stand.sellers here)))
    ]
