use Rattle.std.proofs.Common.{[], ◌∷◌, ◌++◌}
use Rattle.market_events.specs.declared.replies.OrderStatus.TheVariants as status
use Rattle.market_events.specs.Examples.{mug, cup}
use Rattle.service_driving.proofs.Standing.{can_take, took}
use Rattle.checkout_tests.specs.OrderExamples.{two_shipped}
use Rattle.checkout_tests.proofs.OrderTesting as t
use Rattle.checkout_tests.proofs.order_tests.an_order_is_delivered_with_its_last_line.Goals as goal

pub step-requires : goal.step-requires
step-requires g c = can_take _ two_shipped (t.brings mug) c.in_ok-mug.mug c.in_ok-orders.ensures t.follows_mug c.in_ok-mug.ensures

pub step-requires-2 : goal.step-requires-2
step-requires-2 g c =
    let one = took _ c.step.new.service two_shipped (t.brings mug) c.in_ok-mug.mug c.in_ok-orders.ensures t.follows_mug c.in_ok-mug.ensures c.in_ok-step.ensures.stands in
    can_take c.step.new.service (two_shipped ++ t.brings mug ∷ []) (t.two_are 9 status.Shipped) c.asked-ask.result one t.mug_told c.asked-ask.ensures

pub step-requires-3 : goal.step-requires-3
step-requires-3 g c =
    let one = took _ c.step.new.service two_shipped (t.brings mug) c.in_ok-mug.mug c.in_ok-orders.ensures t.follows_mug c.in_ok-mug.ensures c.in_ok-step.ensures.stands in
    let told = took c.step.new.service c.step-2.new.service (two_shipped ++ t.brings mug ∷ []) (t.two_are 9 status.Shipped) c.asked-ask.result one t.mug_told c.asked-ask.ensures c.in_ok-told.ensures.stands in
    can_take c.step-2.new.service (two_shipped ++ t.brings mug ∷ t.two_are 9 status.Shipped ∷ []) (t.brings cup) c.in_ok-cup.cup told t.follows_cup c.in_ok-cup.ensures

pub step-requires-4 : goal.step-requires-4
step-requires-4 g c =
    let one = took _ c.step.new.service two_shipped (t.brings mug) c.in_ok-mug.mug c.in_ok-orders.ensures t.follows_mug c.in_ok-mug.ensures c.in_ok-step.ensures.stands in
    let told = took c.step.new.service c.step-2.new.service (two_shipped ++ t.brings mug ∷ []) (t.two_are 9 status.Shipped) c.asked-ask.result one t.mug_told c.asked-ask.ensures c.in_ok-told.ensures.stands in
    let both = took c.step-2.new.service c.step-3.new.service (two_shipped ++ t.brings mug ∷ t.two_are 9 status.Shipped ∷ []) (t.brings cup) c.in_ok-cup.cup told t.follows_cup c.in_ok-cup.ensures c.in_ok-step-2.ensures.stands in
    can_take c.step-3.new.service (two_shipped ++ t.brings mug ∷ t.two_are 9 status.Shipped ∷ t.brings cup ∷ []) (t.two_are 10 status.Delivered) c.asked-again.result both t.cup_told c.asked-again.ensures
