use Rattle.std.proofs.Common.{[], ◌∷◌, ap, refl}
use Rattle.market_events.specs.declared.bodies.Body.TheVariants as body
use Rattle.market_events.specs.Examples.{an_id}
use Rattle.service_driving.proofs.Standing.{can_take, took, starts}
use Rattle.checkout_tests.proofs.OrderTesting as t
use Rattle.checkout_tests.proofs.order_tests.shipped.Goals as goal

pub step-requires : goal.step-requires
step-requires c =
    can_take c.new-orders.result [] t.two (body.StockConfirmed (an_id 7 6) 7 c.in_ok-mugs_and_cup.field-0) (starts c.new-orders.result c.new-orders.ensures) t.follows_two (ap (body.StockConfirmed (an_id 7 6) 7) c.in_ok-mugs_and_cup.ensures)

pub step-requires-2 : goal.step-requires-2
step-requires-2 c =
    let reserved = took c.new-orders.result c.step.new.service [] t.two (body.StockConfirmed (an_id 7 6) 7 c.in_ok-mugs_and_cup.field-0) (starts c.new-orders.result c.new-orders.ensures) t.follows_two (ap (body.StockConfirmed (an_id 7 6) 7) c.in_ok-mugs_and_cup.ensures) c.in_ok-step.ensures.stands in
    can_take c.step.new.service (t.two ∷ []) t.two_paid (body.Confirmed (an_id 7 6) 7 c.in_ok-mugs_and_cup-2.field-0 2010) reserved t.follows_two_paid (ap (λ lines. body.Confirmed (an_id 7 6) 7 lines 2010) c.in_ok-mugs_and_cup-2.ensures)

pub step-requires-3 : goal.step-requires-3
step-requires-3 c =
    let reserved = took c.new-orders.result c.step.new.service [] t.two (body.StockConfirmed (an_id 7 6) 7 c.in_ok-mugs_and_cup.field-0) (starts c.new-orders.result c.new-orders.ensures) t.follows_two (ap (body.StockConfirmed (an_id 7 6) 7) c.in_ok-mugs_and_cup.ensures) c.in_ok-step.ensures.stands in
    let paid = took c.step.new.service c.step-2.new.service (t.two ∷ []) t.two_paid (body.Confirmed (an_id 7 6) 7 c.in_ok-mugs_and_cup-2.field-0 2010) reserved t.follows_two_paid (ap (λ lines. body.Confirmed (an_id 7 6) 7 lines 2010) c.in_ok-mugs_and_cup-2.ensures) c.in_ok-step-2.ensures.stands in
    can_take c.step-2.new.service (t.two ∷ t.two_paid ∷ []) t.two_sent t.two_sent.body paid t.follows_two_sent refl

pub returns : goal.returns
returns c =
    let reserved = took c.new-orders.result c.step.new.service [] t.two (body.StockConfirmed (an_id 7 6) 7 c.in_ok-mugs_and_cup.field-0) (starts c.new-orders.result c.new-orders.ensures) t.follows_two (ap (body.StockConfirmed (an_id 7 6) 7) c.in_ok-mugs_and_cup.ensures) c.in_ok-step.ensures.stands in
    let paid = took c.step.new.service c.step-2.new.service (t.two ∷ []) t.two_paid (body.Confirmed (an_id 7 6) 7 c.in_ok-mugs_and_cup-2.field-0 2010) reserved t.follows_two_paid (ap (λ lines. body.Confirmed (an_id 7 6) 7 lines 2010) c.in_ok-mugs_and_cup-2.ensures) c.in_ok-step-2.ensures.stands in
    took c.step-2.new.service c.step-3.new.service (t.two ∷ t.two_paid ∷ []) t.two_sent t.two_sent.body paid t.follows_two_sent refl c.in_ok-made.ensures.stands
