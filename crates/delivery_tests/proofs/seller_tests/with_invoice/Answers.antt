use Rattle.std.proofs.Common.{[], ◌∷◌, ◌++◌, ap}
use Rattle.market_events.specs.declared.bodies.Body.TheVariants as body
use Rattle.market_events.specs.Examples.{an_id}
use Rattle.market_events.specs.declared.roles.Role.{Role}
use Rattle.market_events.specs.Standing.{Stands}
use Rattle.seller_service.specs.Holds.{Holds}
use Rattle.service_driving.proofs.Standing.{can_take, took}
use Rattle.delivery_tests.proofs.SellerTesting as t
use Rattle.delivery_tests.proofs.seller_tests.with_invoice.Goals as goal

pub step-requires : goal.step-requires
step-requires c =
    can_take c.new-sellers.result ([]) t.invoiced (body.Invoice (an_id 7 5) 7 c.in_ok-lines.lines 1950) (record { run = tt; held = c.new-sellers.ensures }) t.follows_invoiced (ap (λ lines. body.Invoice (an_id 7 5) 7 lines 1950) c.in_ok-lines.ensures)

pub returns : goal.returns
returns c =
    let after_1 : Stands Role.Seller Holds c.step.new.service (([]) ++ t.invoiced ∷ []) = took c.new-sellers.result c.step.new.service ([]) t.invoiced (body.Invoice (an_id 7 5) 7 c.in_ok-lines.lines 1950) (record { run = tt; held = c.new-sellers.ensures }) t.follows_invoiced (ap (λ lines. body.Invoice (an_id 7 5) 7 lines 1950) c.in_ok-lines.ensures) c.in_ok-step.ensures.stands in
    after_1
