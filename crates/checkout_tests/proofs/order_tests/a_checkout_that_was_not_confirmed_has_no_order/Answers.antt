use Rattle.std.proofs.Common.{[]}
use Rattle.service_driving.proofs.Standing.{can_take, starts}
use Rattle.checkout_tests.proofs.OrderTesting as t
use Rattle.checkout_tests.proofs.order_tests.a_checkout_that_was_not_confirmed_has_no_order.Goals as goal

pub step-requires : goal.step-requires
step-requires g c = can_take c.new-orders.result [] t.asks_none c.asked-ask.result (starts c.new-orders.result c.new-orders.ensures) t.follows_asks_none c.asked-ask.ensures
