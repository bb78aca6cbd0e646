use Rattle.std.proofs.Common.{[], ◌∷◌, ◌++◌}
use Rattle.market_events.specs.declared.roles.Role.{Role}
use Rattle.market_events.specs.Standing.{Stands}
use Rattle.shipment_service.specs.Holds.{Holds}
use Rattle.service_driving.proofs.Standing.{can_take, took, starts}
use Rattle.delivery_tests.proofs.ShipmentTesting as t
use Rattle.delivery_tests.proofs.shipment_tests.packages_that_change_are_named.Goals as goal

pub step-requires : goal.step-requires
step-requires g c =
    can_take c.new-shipments.result ([]) t.older c.in_ok-first.first (starts c.new-shipments.result c.new-shipments.ensures) t.older_next c.in_ok-first.ensures

pub step-requires-2 : goal.step-requires-2
step-requires-2 g c =
    let after_1 : Stands Role.Shipment Holds c.step.new.service ([] ++ t.older ∷ []) = took c.new-shipments.result c.step.new.service ([]) t.older c.in_ok-first.first (starts c.new-shipments.result c.new-shipments.ensures) t.older_next c.in_ok-first.ensures c.in_ok-left.ensures.stands in
    can_take c.step.new.service ([] ++ t.older ∷ []) t.later c.in_ok-second.second after_1 t.later_next c.in_ok-second.ensures

pub touches-requires : goal.touches-requires
touches-requires g c =
    let after_1 : Stands Role.Shipment Holds c.step.new.service ([] ++ t.older ∷ []) = took c.new-shipments.result c.step.new.service ([]) t.older c.in_ok-first.first (starts c.new-shipments.result c.new-shipments.ensures) t.older_next c.in_ok-first.ensures c.in_ok-left.ensures.stands in
    can_take c.step.new.service ([] ++ t.older ∷ []) t.later c.in_ok-second.second after_1 t.later_next c.in_ok-second.ensures

pub touches-requires-2 : goal.touches-requires-2
touches-requires-2 g c =
    let after_1 : Stands Role.Shipment Holds c.step.new.service ([] ++ t.older ∷ []) = took c.new-shipments.result c.step.new.service ([]) t.older c.in_ok-first.first (starts c.new-shipments.result c.new-shipments.ensures) t.older_next c.in_ok-first.ensures c.in_ok-left.ensures.stands in
    let after_2 : Stands Role.Shipment Holds c.step-2.new.service ([] ++ t.older ∷ [] ++ t.later ∷ []) = took c.step.new.service c.step-2.new.service ([] ++ t.older ∷ []) t.later c.in_ok-second.second after_1 t.later_next c.in_ok-second.ensures c.in_ok-also.ensures.stands in
    can_take c.step-2.new.service ([] ++ t.older ∷ [] ++ t.later ∷ []) t.older_arrive c.deliver-eight.result after_2 t.older_arrive_next c.deliver-eight.ensures
