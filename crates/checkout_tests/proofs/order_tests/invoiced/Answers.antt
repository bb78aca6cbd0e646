use Rattle.std.proofs.Common.{[]}
use Rattle.service_driving.proofs.Standing.{can_take, took, starts}
use Rattle.checkout_tests.proofs.OrderTesting as t
use Rattle.checkout_tests.proofs.order_tests.invoiced.Goals as goal

pub step-requires : goal.step-requires
step-requires c = can_take c.new-orders.result [] t.mugs c.in_ok-reserved.reserved (starts c.new-orders.result c.new-orders.ensures) t.follows_mugs c.in_ok-reserved.ensures

pub returns : goal.returns
returns c =
    took c.new-orders.result c.step.new.service [] t.mugs c.in_ok-reserved.reserved (starts c.new-orders.result c.new-orders.ensures) t.follows_mugs c.in_ok-reserved.ensures c.in_ok-made.ensures.stands
