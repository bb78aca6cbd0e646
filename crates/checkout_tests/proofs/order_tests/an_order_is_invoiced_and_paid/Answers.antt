use Rattle.std.proofs.Common.{[], ◌∷◌, ◌++◌}
use Rattle.market_events.specs.declared.replies.OrderStatus.TheVariants as status
use Rattle.market_events.specs.ExamplesOrder.{mug_invoiced}
use Rattle.service_driving.proofs.Standing.{can_take, took}
use Rattle.checkout_tests.proofs.OrderTesting as t
use Rattle.checkout_tests.proofs.order_tests.an_order_is_invoiced_and_paid.Goals as goal

pub step-requires : goal.step-requires
step-requires g c = can_take _ mug_invoiced (t.mugs_are 9 status.Invoiced) c.asked-ask.result c.in_ok-orders.ensures t.invoiced_told c.asked-ask.ensures

pub step-requires-2 : goal.step-requires-2
step-requires-2 g c =
    let told = took _ c.step.new.service mug_invoiced (t.mugs_are 9 status.Invoiced) c.asked-ask.result c.in_ok-orders.ensures t.invoiced_told c.asked-ask.ensures c.in_ok-told.ensures.stands in
    can_take c.step.new.service (mug_invoiced ++ t.mugs_are 9 status.Invoiced ∷ []) t.mugs_paid c.in_ok-paid.paid told t.follows_paid c.in_ok-paid.ensures

pub step-requires-3 : goal.step-requires-3
step-requires-3 g c =
    let told = took _ c.step.new.service mug_invoiced (t.mugs_are 9 status.Invoiced) c.asked-ask.result c.in_ok-orders.ensures t.invoiced_told c.asked-ask.ensures c.in_ok-told.ensures.stands in
    let paid = took c.step.new.service c.step-2.new.service (mug_invoiced ++ t.mugs_are 9 status.Invoiced ∷ []) t.mugs_paid c.in_ok-paid.paid told t.follows_paid c.in_ok-paid.ensures c.in_ok-nothing.ensures.stands in
    can_take c.step-2.new.service (mug_invoiced ++ t.mugs_are 9 status.Invoiced ∷ t.mugs_paid ∷ []) (t.mugs_are 10 status.Paid) c.asked-again.result paid t.paid_told c.asked-again.ensures
