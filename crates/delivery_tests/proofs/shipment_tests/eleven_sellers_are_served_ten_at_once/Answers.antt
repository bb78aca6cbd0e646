use Rattle.std.proofs.Common.{[], ◌∷◌, ◌++◌}
use Rattle.market_events.specs.declared.roles.Role.{Role}
use Rattle.market_events.specs.Standing.{Stands}
use Rattle.shipment_service.specs.Holds.{Holds}
use Rattle.service_driving.proofs.Standing.{can_take, took, starts}
use Rattle.delivery_tests.proofs.ShipmentTesting as t
use Rattle.delivery_tests.proofs.shipment_tests.eleven_sellers_are_served_ten_at_once.Goals as goal

pub step-requires : goal.step-requires
step-requires g c =
    can_take c.new-shipments.result ([]) t.thirtieth c.in_ok-first.first (starts c.new-shipments.result c.new-shipments.ensures) t.thirtieth_next c.in_ok-first.ensures

pub step-requires-2 : goal.step-requires-2
step-requires-2 g c =
    let after_1 : Stands Role.Shipment Holds c.step.new.service ([] ++ t.thirtieth ∷ []) = took c.new-shipments.result c.step.new.service ([]) t.thirtieth c.in_ok-first.first (starts c.new-shipments.result c.new-shipments.ensures) t.thirtieth_next c.in_ok-first.ensures c.in_ok-left.ensures.stands in
    can_take c.step.new.service ([] ++ t.thirtieth ∷ []) t.first_ten c.in_ok-second.second after_1 t.first_ten_next c.in_ok-second.ensures

pub step-requires-3 : goal.step-requires-3
step-requires-3 g c =
    let after_1 : Stands Role.Shipment Holds c.step.new.service ([] ++ t.thirtieth ∷ []) = took c.new-shipments.result c.step.new.service ([]) t.thirtieth c.in_ok-first.first (starts c.new-shipments.result c.new-shipments.ensures) t.thirtieth_next c.in_ok-first.ensures c.in_ok-left.ensures.stands in
    let after_2 : Stands Role.Shipment Holds c.step-2.new.service ([] ++ t.thirtieth ∷ [] ++ t.first_ten ∷ []) = took c.step.new.service c.step-2.new.service ([] ++ t.thirtieth ∷ []) t.first_ten c.in_ok-second.second after_1 t.first_ten_next c.in_ok-second.ensures c.in_ok-also.ensures.stands in
    can_take c.step-2.new.service ([] ++ t.thirtieth ∷ [] ++ t.first_ten ∷ []) t.ten_arrive c.deliver-eight.result after_2 t.ten_arrive_next c.deliver-eight.ensures

pub step-requires-4 : goal.step-requires-4
step-requires-4 g c =
    let after_1 : Stands Role.Shipment Holds c.step.new.service ([] ++ t.thirtieth ∷ []) = took c.new-shipments.result c.step.new.service ([]) t.thirtieth c.in_ok-first.first (starts c.new-shipments.result c.new-shipments.ensures) t.thirtieth_next c.in_ok-first.ensures c.in_ok-left.ensures.stands in
    let after_2 : Stands Role.Shipment Holds c.step-2.new.service ([] ++ t.thirtieth ∷ [] ++ t.first_ten ∷ []) = took c.step.new.service c.step-2.new.service ([] ++ t.thirtieth ∷ []) t.first_ten c.in_ok-second.second after_1 t.first_ten_next c.in_ok-second.ensures c.in_ok-also.ensures.stands in
    let after_3 : Stands Role.Shipment Holds c.step-3.new.service ([] ++ t.thirtieth ∷ [] ++ t.first_ten ∷ [] ++ t.ten_arrive ∷ []) = took c.step-2.new.service c.step-3.new.service ([] ++ t.thirtieth ∷ [] ++ t.first_ten ∷ []) t.ten_arrive c.deliver-eight.result after_2 t.ten_arrive_next c.deliver-eight.ensures c.in_ok-ten.ensures.stands in
    can_take c.step-3.new.service ([] ++ t.thirtieth ∷ [] ++ t.first_ten ∷ [] ++ t.ten_arrive ∷ []) t.one_arrives c.deliver-nine.result after_3 t.one_arrives_next c.deliver-nine.ensures

pub step-requires-5 : goal.step-requires-5
step-requires-5 g c =
    let after_1 : Stands Role.Shipment Holds c.step.new.service ([] ++ t.thirtieth ∷ []) = took c.new-shipments.result c.step.new.service ([]) t.thirtieth c.in_ok-first.first (starts c.new-shipments.result c.new-shipments.ensures) t.thirtieth_next c.in_ok-first.ensures c.in_ok-left.ensures.stands in
    let after_2 : Stands Role.Shipment Holds c.step-2.new.service ([] ++ t.thirtieth ∷ [] ++ t.first_ten ∷ []) = took c.step.new.service c.step-2.new.service ([] ++ t.thirtieth ∷ []) t.first_ten c.in_ok-second.second after_1 t.first_ten_next c.in_ok-second.ensures c.in_ok-also.ensures.stands in
    let after_3 : Stands Role.Shipment Holds c.step-3.new.service ([] ++ t.thirtieth ∷ [] ++ t.first_ten ∷ [] ++ t.ten_arrive ∷ []) = took c.step-2.new.service c.step-3.new.service ([] ++ t.thirtieth ∷ [] ++ t.first_ten ∷ []) t.ten_arrive c.deliver-eight.result after_2 t.ten_arrive_next c.deliver-eight.ensures c.in_ok-ten.ensures.stands in
    let after_4 : Stands Role.Shipment Holds c.step-4.new.service ([] ++ t.thirtieth ∷ [] ++ t.first_ten ∷ [] ++ t.ten_arrive ∷ [] ++ t.one_arrives ∷ []) = took c.step-3.new.service c.step-4.new.service ([] ++ t.thirtieth ∷ [] ++ t.first_ten ∷ [] ++ t.ten_arrive ∷ []) t.one_arrives c.deliver-nine.result after_3 t.one_arrives_next c.deliver-nine.ensures c.in_ok-one.ensures.stands in
    can_take c.step-4.new.service ([] ++ t.thirtieth ∷ [] ++ t.first_ten ∷ [] ++ t.ten_arrive ∷ [] ++ t.one_arrives ∷ []) t.none_arrives c.deliver-last.result after_4 t.none_arrives_next c.deliver-last.ensures
