-- What a service makes of a body weighs less than the body, so that the carrying ends.
use Rattle.std.proofs.Common.{◌≡◌, ℕ, ◌+◌, ◌<◌, Bool, true, false, nat_le, List, ◌∷◌, ◌++◌, Option, Some, None, sum_by, refl, sym, subst, arith}
use Rattle.std.proofs.lemmas.List.Sums.{sum_by-append, sum_by-cons}
use Rattle.market_amounts.specs.declared.keys.ProductKey.{ProductKey}
use Rattle.market_events.specs.declared.bodies.Body.{Body}
use Rattle.market_events.specs.declared.bodies.Body.TheVariants as body
use Rattle.market_events.specs.declared.bodies.StockRule.{StockRule}
use Rattle.market_events.specs.declared.links.Link.{Link}
use Rattle.market_events.specs.declared.links.Link.TheVariants.{Service, Asked, Told}
use Rattle.market_events.specs.Carried.{carries}
use Rattle.market_events.specs.Carts.{CartSums, cart_sums, cart_rows}
use Rattle.market_events.specs.Customers.{CustomerSums, customer_sums, customer_rows}
use Rattle.market_events.specs.Orders.{OrderSums, order_sums, order_rows}
use Rattle.market_events.specs.Payments.{PaymentSums, payment_sums, payment_rows, invoice_rows}
use Rattle.market_events.specs.Products.{ProductSums, product_sums, product_rows}
use Rattle.market_events.specs.Sellers.{SellerSums, seller_sums, seller_rows}
use Rattle.market_events.specs.declared.roles.Role.{Role}
use Rattle.market_events.specs.Services.{answers}
use Rattle.market_events.specs.Shipments.{ShipmentSums, shipment_sums, shipment_rows}
use Rattle.market_events.specs.Steps.{Step, Sending}
use Rattle.market_events.specs.Stocks.{StockSums, stock_sums, stock_taken_rows, reserve_rows, line_refusal, first_some}
use Rattle.market_events.proofs.Runs.Carts.{answers-cart}
use Rattle.market_events.proofs.Steps.Customers.{answers-customer}
use Rattle.market_events.proofs.Runs.Orders.{answers-order}
use Rattle.market_events.proofs.Steps.Payments.{answers-payment}
use Rattle.market_events.proofs.Steps.Products.{answers-product}
use Rattle.market_events.proofs.Steps.SellerEntries.{answers-seller}
use Rattle.market_events.proofs.Steps.Shipments.{answers-shipment}
use Rattle.market_events.proofs.Runs.Stock.{answers-stock}
use Rattle.market_events.proofs.Steps.Taken.{fits-parts}
use Rattle.market.specs.Carrying.{Taken, role_told, CanPass, made_of, steps_taken}

-- a body weighs more than all that can be made of it
abbrev pub weight : Body → ℕ
weight (body.Changed key version change) = 1
weight (body.Reserve checkout customer lines) = 74
weight (body.ReserveFailed checkout key rule) = 2
weight (body.StockConfirmed checkout customer lines) = 73
weight (body.Invoice checkout customer lines total) = 36
weight (body.Confirmed checkout customer lines total) = 7
weight (body.Failed checkout customer rule) = 3
weight (body.Ended checkout ending) = 2
weight (body.Shipped checkout) = 3
weight (body.Delivered items) = 1
weight (body.Asked request) = 1
weight (body.Told id reply) = 1

abbrev pub weights : List Sending → ℕ
weights sendings = sum_by (λ (s : Sending). weight s.1) sendings

-- a body that stands on a service link
abbrev is_made : Body → Bool
is_made (body.Asked request) = false
is_made other = true

carried_made : (n : ℕ) (b : Body) → carries (Service n) b ≡ true → is_made b ≡ true
carried_made n (body.Asked request) h = cc
carried_made n other h = refl

by_cart : (s : CartSums) (b : Body) → is_made b ≡ true → weights (cart_rows s b) < weight b
by_cart s (body.Asked request) made = cc
by_cart s other made = omega arith

by_product : (s : ProductSums) (b : Body) → is_made b ≡ true → weights (product_rows s b) < weight b
by_product s (body.Asked request) made = cc
by_product s other made = omega arith

by_stock : (s : StockSums) (b : Body) → is_made b ≡ true → weights (stock_taken_rows s b) < weight b
by_stock s (body.Asked request) made = cc
by_stock s (body.Reserve checkout customer lines) made = either (first_some (line_refusal s) lines)
  where
    either : (o : Option (ProductKey × StockRule)) → weights (reserve_rows checkout customer lines o) < 74
    either None = omega arith
    either (Some refusal) = omega arith
by_stock s other made = omega arith

by_order : (s : OrderSums) (b : Body) → is_made b ≡ true → weights (order_rows s b) < weight b
by_order s (body.Asked request) made = cc
by_order s other made = omega arith

by_payment : (s : PaymentSums) (b : Body) → is_made b ≡ true → weights (payment_rows s b) < weight b
by_payment s (body.Asked request) made = cc
by_payment s (body.Invoice checkout customer lines total) made = by_limit (s.limit customer)
  where
    within : (limit : ℕ) (b : Bool) → nat_le (s.spent customer + total) limit ≡ b → weights (invoice_rows checkout customer lines total (Some limit) (s.spent customer)) < 36
    within limit true is = rw is (omega arith)
    within limit false is = rw is (omega arith)

    by_limit : (limit : Option ℕ) → weights (invoice_rows checkout customer lines total limit (s.spent customer)) < 36
    by_limit None = omega arith
    by_limit (Some limit) = within limit (nat_le (s.spent customer + total) limit) refl
by_payment s other made = omega arith

by_shipment : (s : ShipmentSums) (b : Body) → is_made b ≡ true → weights (shipment_rows s b) < weight b
by_shipment s (body.Asked request) made = cc
by_shipment s other made = omega arith

by_customer : (s : CustomerSums) (b : Body) → is_made b ≡ true → weights (customer_rows s b) < weight b
by_customer s (body.Asked request) made = cc
by_customer s other made = omega arith

by_seller : (s : SellerSums) (b : Body) → is_made b ≡ true → weights (seller_rows s b) < weight b
by_seller s (body.Asked request) made = cc
by_seller s other made = omega arith

lighter : (role : Role) (steps : List Step) (from : Link) (b : Body) → is_made b ≡ true → weights (answers role steps from b) < weight b
lighter Role.Cart steps from b made = subst (λ rows. weights rows < weight b) (sym (answers-cart steps from b)) (by_cart (cart_sums steps) b made)
lighter Role.Product steps from b made = subst (λ rows. weights rows < weight b) (sym (answers-product steps from b)) (by_product (product_sums steps) b made)
lighter Role.Stock steps from b made = subst (λ rows. weights rows < weight b) (sym (answers-stock steps from b)) (by_stock (stock_sums steps) b made)
lighter Role.Order steps from b made = subst (λ rows. weights rows < weight b) (sym (answers-order steps from b)) (by_order (order_sums steps) b made)
lighter Role.Payment steps from b made = subst (λ rows. weights rows < weight b) (sym (answers-payment steps from b)) (by_payment (payment_sums steps) b made)
lighter Role.Shipment steps from b made = subst (λ rows. weights rows < weight b) (sym (answers-shipment steps from b)) (by_shipment (shipment_sums steps) b made)
lighter Role.Customer steps from b made = subst (λ rows. weights rows < weight b) (sym (answers-customer steps from b)) (by_customer (customer_sums steps) b made)
lighter Role.Seller steps from b made = subst (λ rows. weights rows < weight b) (sym (answers-seller steps from b)) (by_seller (seller_sums steps) b made)

weighs : (b : Body) → 0 < weight b
weighs (body.Changed key version change) = omega arith
weighs other = omega arith

-- what is made of a body that is passed on
made_lighter : (taken : Taken) (s : Sending) → CanPass taken s → weights (made_of taken s) < weight s.1
made_lighter taken (Service n, b) can = lighter (role_told n) (steps_taken taken (role_told n)) (Service n) b (carried_made n b (fits-parts (role_told n) (steps_taken taken (role_told n)) (Service n) b can).carried)
made_lighter taken (Asked lane service, b) can = weighs b
made_lighter taken (Told service lane, b) can = weighs b

-- what waits weighs less after it
pub waiting_lighter : (taken : Taken) (s : Sending) (more : List Sending) → CanPass taken s → weights (more ++ made_of taken s) < weights (s ∷ more)
waiting_lighter taken s more can = omega (arith, made_lighter taken s can, sum_by-append (λ (s : Sending). weight s.1) more (made_of taken s), sum_by-cons (λ (s : Sending). weight s.1) s more)
