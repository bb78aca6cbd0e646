use Rattle.std.proofs.Common.{[], ◌∷◌, ◌++◌}
use Rattle.market_events.specs.declared.replies.OrderStatus.TheVariants as status
use Rattle.market_events.specs.Examples.{cup}
use Rattle.service_driving.proofs.Standing.{can_take, took}
use Rattle.checkout_tests.specs.OrderExamples.{strange_cup}
use Rattle.checkout_tests.proofs.OrderTesting as t
use Rattle.checkout_tests.proofs.order_tests.a_line_is_delivered_to_its_own_customer.Goals as goal

pub step-requires : goal.step-requires
step-requires g c = can_take _ strange_cup (t.two_are 9 status.Shipped) c.asked-ask.result c.in_ok-orders.ensures t.strange_told c.asked-ask.ensures

pub step-requires-2 : goal.step-requires-2
step-requires-2 g c =
    let told = took _ c.step.new.service strange_cup (t.two_are 9 status.Shipped) c.asked-ask.result c.in_ok-orders.ensures t.strange_told c.asked-ask.ensures c.in_ok-told.ensures.stands in
    can_take c.step.new.service (strange_cup ++ t.two_are 9 status.Shipped ∷ []) (t.brings cup) c.in_ok-cup.cup told t.follows_own c.in_ok-cup.ensures

pub step-requires-3 : goal.step-requires-3
step-requires-3 g c =
    let told = took _ c.step.new.service strange_cup (t.two_are 9 status.Shipped) c.asked-ask.result c.in_ok-orders.ensures t.strange_told c.asked-ask.ensures c.in_ok-told.ensures.stands in
    let own = took c.step.new.service c.step-2.new.service (strange_cup ++ t.two_are 9 status.Shipped ∷ []) (t.brings cup) c.in_ok-cup.cup told t.follows_own c.in_ok-cup.ensures c.in_ok-step.ensures.stands in
    can_take c.step-2.new.service (strange_cup ++ t.two_are 9 status.Shipped ∷ t.brings cup ∷ []) (t.two_are 10 status.Delivered) c.asked-again.result own t.own_told c.asked-again.ensures
