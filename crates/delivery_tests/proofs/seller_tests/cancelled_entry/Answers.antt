use Rattle.std.proofs.Common.{[], ◌∷◌, ◌++◌}
use Rattle.market_events.specs.declared.bodies.Body.TheVariants as body
use Rattle.market_events.specs.declared.bodies.PayRule.TheVariants as pay
use Rattle.market_events.specs.Examples.{an_id}
use Rattle.market_events.specs.ExamplesSeller.{base_invoiced}
use Rattle.market_events.specs.declared.roles.Role.{Role}
use Rattle.market_events.specs.Standing.{Stands}
use Rattle.seller_service.specs.Holds.{Holds}
use Rattle.service_driving.proofs.Standing.{can_take, took}
use Rattle.delivery_tests.proofs.SellerTesting as t
use Rattle.delivery_tests.proofs.seller_tests.cancelled_entry.Goals as goal
use Rattle.std.proofs.Common.{refl}

pub step-requires : goal.step-requires
step-requires c =
    can_take c.in_ok-sellers.sellers (base_invoiced) t.failed (body.Failed (an_id 7 5) 7 pay.NoCard) c.in_ok-sellers.ensures t.follows_failed refl

pub step-requires-2 : goal.step-requires-2
step-requires-2 c =
    let after_1 : Stands Role.Seller Holds c.step.new.service ((base_invoiced) ++ t.failed ∷ []) = took c.in_ok-sellers.sellers c.step.new.service (base_invoiced) t.failed (body.Failed (an_id 7 5) 7 pay.NoCard) c.in_ok-sellers.ensures t.follows_failed refl c.in_ok-step.ensures.stands in
    can_take c.step.new.service ((base_invoiced) ++ t.failed ∷ []) t.shows_cancelled c.asked-asked.result after_1 t.follows_shows_cancelled c.asked-asked.ensures
