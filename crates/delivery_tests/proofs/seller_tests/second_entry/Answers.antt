use Rattle.std.proofs.Common.{[], ◌∷◌, ◌++◌, ap}
use Rattle.market_events.specs.declared.bodies.Body.TheVariants as body
use Rattle.market_events.specs.Examples.{an_id}
use Rattle.market_events.specs.ExamplesSeller.{base_shipped}
use Rattle.market_events.specs.declared.roles.Role.{Role}
use Rattle.market_events.specs.Standing.{Stands}
use Rattle.seller_service.specs.Holds.{Holds}
use Rattle.service_driving.proofs.Standing.{can_take, took}
use Rattle.delivery_tests.proofs.SellerTesting as t
use Rattle.delivery_tests.proofs.seller_tests.second_entry.Goals as goal
use Rattle.std.proofs.Common.{refl}

pub step-requires : goal.step-requires
step-requires c =
    can_take c.in_ok-sellers.sellers (base_shipped) t.second_invoiced (body.Invoice (an_id 7 8) 7 c.in_ok-lines.lines 1050) c.in_ok-sellers.ensures t.follows_second_invoiced (ap (λ lines. body.Invoice (an_id 7 8) 7 lines 1050) c.in_ok-lines.ensures)

pub step-requires-2 : goal.step-requires-2
step-requires-2 c =
    let after_1 : Stands Role.Seller Holds c.step.new.service ((base_shipped) ++ t.second_invoiced ∷ []) = took c.in_ok-sellers.sellers c.step.new.service (base_shipped) t.second_invoiced (body.Invoice (an_id 7 8) 7 c.in_ok-lines.lines 1050) c.in_ok-sellers.ensures t.follows_second_invoiced (ap (λ lines. body.Invoice (an_id 7 8) 7 lines 1050) c.in_ok-lines.ensures) c.in_ok-step.ensures.stands in
    can_take c.step.new.service ((base_shipped) ++ t.second_invoiced ∷ []) t.second_paid (body.Confirmed (an_id 7 8) 7 c.in_ok-lines-2.lines 1050) after_1 t.follows_second_paid (ap (λ lines. body.Confirmed (an_id 7 8) 7 lines 1050) c.in_ok-lines-2.ensures)

pub step-requires-3 : goal.step-requires-3
step-requires-3 c =
    let after_1 : Stands Role.Seller Holds c.step.new.service ((base_shipped) ++ t.second_invoiced ∷ []) = took c.in_ok-sellers.sellers c.step.new.service (base_shipped) t.second_invoiced (body.Invoice (an_id 7 8) 7 c.in_ok-lines.lines 1050) c.in_ok-sellers.ensures t.follows_second_invoiced (ap (λ lines. body.Invoice (an_id 7 8) 7 lines 1050) c.in_ok-lines.ensures) c.in_ok-step.ensures.stands in
    let after_2 : Stands Role.Seller Holds c.step-2.new.service (((base_shipped) ++ t.second_invoiced ∷ []) ++ t.second_paid ∷ []) = took c.step.new.service c.step-2.new.service ((base_shipped) ++ t.second_invoiced ∷ []) t.second_paid (body.Confirmed (an_id 7 8) 7 c.in_ok-lines-2.lines 1050) after_1 t.follows_second_paid (ap (λ lines. body.Confirmed (an_id 7 8) 7 lines 1050) c.in_ok-lines-2.ensures) c.in_ok-step-2.ensures.stands in
    can_take c.step-2.new.service (((base_shipped) ++ t.second_invoiced ∷ []) ++ t.second_paid ∷ []) t.second_shipped (body.Shipped (an_id 7 8)) after_2 t.follows_second_shipped refl

pub step-requires-4 : goal.step-requires-4
step-requires-4 c =
    let after_1 : Stands Role.Seller Holds c.step.new.service ((base_shipped) ++ t.second_invoiced ∷ []) = took c.in_ok-sellers.sellers c.step.new.service (base_shipped) t.second_invoiced (body.Invoice (an_id 7 8) 7 c.in_ok-lines.lines 1050) c.in_ok-sellers.ensures t.follows_second_invoiced (ap (λ lines. body.Invoice (an_id 7 8) 7 lines 1050) c.in_ok-lines.ensures) c.in_ok-step.ensures.stands in
    let after_2 : Stands Role.Seller Holds c.step-2.new.service (((base_shipped) ++ t.second_invoiced ∷ []) ++ t.second_paid ∷ []) = took c.step.new.service c.step-2.new.service ((base_shipped) ++ t.second_invoiced ∷ []) t.second_paid (body.Confirmed (an_id 7 8) 7 c.in_ok-lines-2.lines 1050) after_1 t.follows_second_paid (ap (λ lines. body.Confirmed (an_id 7 8) 7 lines 1050) c.in_ok-lines-2.ensures) c.in_ok-step-2.ensures.stands in
    let after_3 : Stands Role.Seller Holds c.step-3.new.service ((((base_shipped) ++ t.second_invoiced ∷ []) ++ t.second_paid ∷ []) ++ t.second_shipped ∷ []) = took c.step-2.new.service c.step-3.new.service (((base_shipped) ++ t.second_invoiced ∷ []) ++ t.second_paid ∷ []) t.second_shipped (body.Shipped (an_id 7 8)) after_2 t.follows_second_shipped refl c.in_ok-step-3.ensures.stands in
    can_take c.step-3.new.service ((((base_shipped) ++ t.second_invoiced ∷ []) ++ t.second_paid ∷ []) ++ t.second_shipped ∷ []) t.shows_second c.asked-asked.result after_3 t.follows_shows_second c.asked-asked.ensures
