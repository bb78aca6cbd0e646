use Rattle.std.proofs.Common.{[], ◌∷◌, ◌++◌, refl}
use Rattle.market_events.specs.declared.replies.OrderStatus.TheVariants as status
use Rattle.market_events.specs.ExamplesOrder.{mug_invoiced}
use Rattle.service_driving.proofs.Standing.{can_take, took}
use Rattle.checkout_tests.proofs.OrderTesting as t
use Rattle.checkout_tests.proofs.order_tests.an_order_without_payment_is_cancelled.Goals as goal

pub step-requires : goal.step-requires
step-requires g c = can_take _ mug_invoiced t.mugs_failed t.mugs_failed.body c.in_ok-orders.ensures t.follows_failed refl

pub step-requires-2 : goal.step-requires-2
step-requires-2 g c =
    let failed = took _ c.step.new.service mug_invoiced t.mugs_failed t.mugs_failed.body c.in_ok-orders.ensures t.follows_failed refl c.in_ok-ended.ensures.stands in
    can_take c.step.new.service (mug_invoiced ++ t.mugs_failed ∷ []) (t.mugs_are 9 status.Cancelled) c.asked-ask.result failed t.failed_told c.asked-ask.ensures
