use Rattle.std.proofs.Common.{[], ◌∷◌, ◌++◌, ap}
use Rattle.market_events.specs.declared.bodies.Body.TheVariants as body
use Rattle.market_events.specs.Examples.{an_id}
use Rattle.market_events.specs.ExamplesSeller.{base_invoiced}
use Rattle.market_events.specs.declared.roles.Role.{Role}
use Rattle.market_events.specs.Standing.{Stands}
use Rattle.seller_service.specs.Holds.{Holds}
use Rattle.service_driving.proofs.Standing.{can_take, took}
use Rattle.delivery_tests.proofs.SellerTesting as t
use Rattle.delivery_tests.proofs.seller_tests.with_shipment.Goals as goal
use Rattle.std.proofs.Common.{refl}

pub step-requires : goal.step-requires
step-requires c =
    can_take c.in_ok-sellers.sellers (base_invoiced) t.paid (body.Confirmed (an_id 7 5) 7 c.in_ok-lines.lines 1950) c.in_ok-sellers.ensures t.follows_paid (ap (λ lines. body.Confirmed (an_id 7 5) 7 lines 1950) c.in_ok-lines.ensures)

pub step-requires-2 : goal.step-requires-2
step-requires-2 c =
    let after_1 : Stands Role.Seller Holds c.step.new.service ((base_invoiced) ++ t.paid ∷ []) = took c.in_ok-sellers.sellers c.step.new.service (base_invoiced) t.paid (body.Confirmed (an_id 7 5) 7 c.in_ok-lines.lines 1950) c.in_ok-sellers.ensures t.follows_paid (ap (λ lines. body.Confirmed (an_id 7 5) 7 lines 1950) c.in_ok-lines.ensures) c.in_ok-step.ensures.stands in
    can_take c.step.new.service ((base_invoiced) ++ t.paid ∷ []) t.shipped (body.Shipped (an_id 7 5)) after_1 t.follows_shipped refl

pub returns : goal.returns
returns c =
    let after_1 : Stands Role.Seller Holds c.step.new.service ((base_invoiced) ++ t.paid ∷ []) = took c.in_ok-sellers.sellers c.step.new.service (base_invoiced) t.paid (body.Confirmed (an_id 7 5) 7 c.in_ok-lines.lines 1950) c.in_ok-sellers.ensures t.follows_paid (ap (λ lines. body.Confirmed (an_id 7 5) 7 lines 1950) c.in_ok-lines.ensures) c.in_ok-step.ensures.stands in
    let after_2 : Stands Role.Seller Holds c.step-2.new.service (((base_invoiced) ++ t.paid ∷ []) ++ t.shipped ∷ []) = took c.step.new.service c.step-2.new.service ((base_invoiced) ++ t.paid ∷ []) t.shipped (body.Shipped (an_id 7 5)) after_1 t.follows_shipped refl c.in_ok-step-2.ensures.stands in
    after_2
