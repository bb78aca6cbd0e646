use Rattle.std.proofs.Common.{[], ◌∷◌, ◌++◌}
use Rattle.market_events.specs.ExamplesSeller.{base_shipped}
use Rattle.market_events.specs.declared.roles.Role.{Role}
use Rattle.market_events.specs.Standing.{Stands}
use Rattle.seller_service.specs.Holds.{Holds}
use Rattle.service_driving.proofs.Standing.{can_take, took}
use Rattle.delivery_tests.proofs.SellerTesting as t
use Rattle.delivery_tests.proofs.seller_tests.delivered_entry.Goals as goal

pub step-requires : goal.step-requires
step-requires c =
    can_take c.in_ok-sellers.sellers (base_shipped) t.delivered c.in_ok-delivered.delivered c.in_ok-sellers.ensures t.follows_delivered c.in_ok-delivered.ensures

pub step-requires-2 : goal.step-requires-2
step-requires-2 c =
    let after_1 : Stands Role.Seller Holds c.step.new.service ((base_shipped) ++ t.delivered ∷ []) = took c.in_ok-sellers.sellers c.step.new.service (base_shipped) t.delivered c.in_ok-delivered.delivered c.in_ok-sellers.ensures t.follows_delivered c.in_ok-delivered.ensures c.in_ok-step.ensures.stands in
    can_take c.step.new.service ((base_shipped) ++ t.delivered ∷ []) t.shows_delivered c.asked-asked.result after_1 t.follows_shows_delivered c.asked-asked.ensures
