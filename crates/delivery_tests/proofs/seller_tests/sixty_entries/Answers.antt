use Rattle.std.proofs.Common.{[], ◌∷◌, ◌++◌, ap}
use Rattle.market_events.specs.declared.bodies.Body.TheVariants as body
use Rattle.market_events.specs.Examples.{an_id}
use Rattle.market_events.specs.declared.roles.Role.{Role}
use Rattle.market_events.specs.Standing.{Stands}
use Rattle.seller_service.specs.Holds.{Holds}
use Rattle.service_driving.proofs.Standing.{can_take, took}
use Rattle.delivery_tests.proofs.SellerTesting as t
use Rattle.delivery_tests.proofs.seller_tests.sixty_entries.Goals as goal

pub step-requires : goal.step-requires
step-requires c =
    can_take c.new-sellers.result ([]) t.thirty (body.Invoice (an_id 7 5) 7 c.in_ok-lines.lines 3000) (record { run = tt; held = c.new-sellers.ensures }) t.follows_thirty (ap (λ lines. body.Invoice (an_id 7 5) 7 lines 3000) c.in_ok-lines.ensures)

pub step-requires-2 : goal.step-requires-2
step-requires-2 c =
    let after_1 : Stands Role.Seller Holds c.step.new.service (([]) ++ t.thirty ∷ []) = took c.new-sellers.result c.step.new.service ([]) t.thirty (body.Invoice (an_id 7 5) 7 c.in_ok-lines.lines 3000) (record { run = tt; held = c.new-sellers.ensures }) t.follows_thirty (ap (λ lines. body.Invoice (an_id 7 5) 7 lines 3000) c.in_ok-lines.ensures) c.in_ok-step.ensures.stands in
    can_take c.step.new.service (([]) ++ t.thirty ∷ []) t.thirty_more (body.Invoice (an_id 7 8) 7 c.in_ok-lines-2.lines 3000) after_1 t.follows_thirty_more (ap (λ lines. body.Invoice (an_id 7 8) 7 lines 3000) c.in_ok-lines-2.ensures)

pub step-requires-3 : goal.step-requires-3
step-requires-3 c =
    let after_1 : Stands Role.Seller Holds c.step.new.service (([]) ++ t.thirty ∷ []) = took c.new-sellers.result c.step.new.service ([]) t.thirty (body.Invoice (an_id 7 5) 7 c.in_ok-lines.lines 3000) (record { run = tt; held = c.new-sellers.ensures }) t.follows_thirty (ap (λ lines. body.Invoice (an_id 7 5) 7 lines 3000) c.in_ok-lines.ensures) c.in_ok-step.ensures.stands in
    let after_2 : Stands Role.Seller Holds c.step-2.new.service ((([]) ++ t.thirty ∷ []) ++ t.thirty_more ∷ []) = took c.step.new.service c.step-2.new.service (([]) ++ t.thirty ∷ []) t.thirty_more (body.Invoice (an_id 7 8) 7 c.in_ok-lines-2.lines 3000) after_1 t.follows_thirty_more (ap (λ lines. body.Invoice (an_id 7 8) 7 lines 3000) c.in_ok-lines-2.ensures) c.in_ok-step-2.ensures.stands in
    can_take c.step-2.new.service ((([]) ++ t.thirty ∷ []) ++ t.thirty_more ∷ []) t.shows_fifty c.asked-asked.result after_2 t.follows_fifty c.asked-asked.ensures
