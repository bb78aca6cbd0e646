-- Each service is asked once with an id, and tells no more than it was asked.
use Rattle.std.proofs.Common.{◌≡◌, ◌≤◌, true, false, cond, List, count_by, refl, ap, sym, ◌∙◌, arith}
use Rattle.std.specs.List.{list_any}
use Rattle.market_amounts.specs.declared.keys.RequestId.{RequestId}
use Rattle.market_events.specs.declared.bodies.Body.{Body}
use Rattle.market_events.specs.declared.bodies.Body.TheVariants as body
use Rattle.market_events.specs.declared.requests.Ask.{Ask}
use Rattle.market_events.specs.declared.requests.Ask.TheVariants as ask
use Rattle.market_events.specs.declared.requests.Request.{Request}
use Rattle.market_events.specs.Customers.{CustomerSums, customer_asked, customer_rows, customer_sums}
use Rattle.market_events.specs.Links.{customer_node, seller_node, service_by_ask}
use Rattle.market_events.specs.Requests.{same_id}
use Rattle.market_events.specs.Sellers.{SellerSums, seller_asked, seller_rows, seller_sums}
use Rattle.market_events.specs.declared.roles.Role.{Role}
use Rattle.market_events.specs.Services.{IsRunOf, role_fits, is_new, asks}
use Rattle.market_events.specs.Steps.{Step, taken_bodies}
use Rattle.market_events.proofs.Steps.Customers.{answers-customer}
use Rattle.market_events.proofs.Values.Lists.{not_true}
use Rattle.market_events.proofs.Values.Same.{same_id-true}
use Rattle.market_events.proofs.Steps.SellerEntries.{answers-seller}
use Rattle.market_laws.specs.Runs.{bodies_made, tells}
use Rattle.market_laws.proofs.Runs.Counts.{count_all, taken_once, IsHere, told-is-asked}
use Rattle.market_laws.proofs.Runs.Cart.{cart_told-le}
use Rattle.market_laws.proofs.Runs.Orders.{order_told-is}
use Rattle.market_laws.proofs.Runs.Payments.{payment_told-is}
use Rattle.market_laws.proofs.Runs.Products.{product_told-is}
use Rattle.market_laws.proofs.Runs.Shipments.{shipment_told-is}
use Rattle.market_laws.proofs.Runs.Stock.{stock_told-is}

-- a request that fits has a new id
asked_new : (role : Role) (before : List Step) (request : Request) → role_fits role before (body.Asked request) ≡ true → is_new before request.id ≡ true
asked_new Role.Cart before request fit = fit
asked_new Role.Product before request fit = fit
asked_new Role.Stock before request fit = fit
asked_new Role.Order before request fit = fit
asked_new Role.Payment before request fit = fit
asked_new Role.Shipment before request fit = fit
asked_new Role.Customer before request fit = fit
asked_new Role.Seller before request fit = fit

-- a service is asked once at most with an id
pub asked-once : (role : Role) (steps : List Step) → IsRunOf role steps → (id : RequestId) → count_by (asks id) (taken_bodies steps) ≤ 1
asked-once role steps run id = taken_once role (asks id) new steps run
  where
    new : (before : List Step) (b : Body) → role_fits role before b ≡ true → asks id b ≡ true → list_any (asks id) (taken_bodies before) ≡ false
    new before (body.Asked request) fit same = ap (λ id. list_any (asks id) (taken_bodies before)) (sym (same_id-true request.id id same)) ∙ not_true (list_any (asks request.id) (taken_bodies before)) (asked_new role before request fit)
    new before other fit same = cc

-- customers and sellers tell as much as they were asked
customer_told-is : (steps : List Step) → IsRunOf Role.Customer steps → (id : RequestId) → count_by (tells id) (bodies_made steps) ≡ count_by (asks id) (taken_bodies steps)
customer_told-is steps run id = told-is-asked Role.Customer id (λ before s follows here. ap (count_all (tells id)) (follows.made ∙ answers-customer before s.from s.body) ∙ each (customer_sums before) s.body here) steps run
  where
    asked : (s : CustomerSums) (known : RequestId) (a : Ask) → service_by_ask a ≡ customer_node → count_all (tells id) (customer_asked s known a) ≡ cond (same_id known id) 1 0
    asked s known (ask.Customer customer) here = omega arith
    asked s known other here = absurd (omega arith)

    each : (s : CustomerSums) (b : Body) → IsHere Role.Customer b → count_all (tells id) (customer_rows s b) ≡ cond (asks id b) 1 0
    each s (body.Asked request) here = asked s request.id request.ask here
    each s other here = refl

seller_told-is : (steps : List Step) → IsRunOf Role.Seller steps → (id : RequestId) → count_by (tells id) (bodies_made steps) ≡ count_by (asks id) (taken_bodies steps)
seller_told-is steps run id = told-is-asked Role.Seller id (λ before s follows here. ap (count_all (tells id)) (follows.made ∙ answers-seller before s.from s.body) ∙ each (seller_sums before) s.body here) steps run
  where
    asked : (s : SellerSums) (known : RequestId) (a : Ask) → service_by_ask a ≡ seller_node → count_all (tells id) (seller_asked s known a) ≡ cond (same_id known id) 1 0
    asked s known (ask.Dashboard seller) here = omega arith
    asked s known other here = absurd (omega arith)

    each : (s : SellerSums) (b : Body) → IsHere Role.Seller b → count_all (tells id) (seller_rows s b) ≡ cond (asks id b) 1 0
    each s (body.Asked request) here = asked s request.id request.ask here
    each s other here = refl

-- each service but the cart tells as much as it was asked
pub told-is : (role : Role) → (role ≡ Role.Cart → ⊥) → (steps : List Step) → IsRunOf role steps → (id : RequestId) → count_by (tells id) (bodies_made steps) ≡ count_by (asks id) (taken_bodies steps)
told-is Role.Cart other = absurd (other refl)
told-is Role.Product other = product_told-is
told-is Role.Stock other = stock_told-is
told-is Role.Order other = order_told-is
told-is Role.Payment other = payment_told-is
told-is Role.Shipment other = shipment_told-is
told-is Role.Customer other = customer_told-is
told-is Role.Seller other = seller_told-is

-- each service tells no more than it was asked
pub told-le : (role : Role) (steps : List Step) → IsRunOf role steps → (id : RequestId) → count_by (tells id) (bodies_made steps) ≤ count_by (asks id) (taken_bodies steps)
told-le Role.Cart steps run id = cart_told-le steps run id
told-le Role.Product steps run id = omega (arith, product_told-is steps run id)
told-le Role.Stock steps run id = omega (arith, stock_told-is steps run id)
told-le Role.Order steps run id = omega (arith, order_told-is steps run id)
told-le Role.Payment steps run id = omega (arith, payment_told-is steps run id)
told-le Role.Shipment steps run id = omega (arith, shipment_told-is steps run id)
told-le Role.Customer steps run id = omega (arith, customer_told-is steps run id)
told-le Role.Seller steps run id = omega (arith, seller_told-is steps run id)
