use Rattle.std.proofs.Common.{[]}
use Rattle.market_events.specs.ExamplesOrder.{mug_invoiced}
use Rattle.service_driving.proofs.Standing.{can_take, took, starts}
use Rattle.checkout_tests.proofs.OrderTesting as t
use Rattle.checkout_tests.proofs.order_tests.an_order_is_told_in_a_cell.Goals as goal

pub touches-requires : goal.touches-requires
touches-requires g c = can_take c.new-orders.result [] t.mugs c.in_ok-reserved.reserved (starts c.new-orders.result c.new-orders.ensures) t.follows_mugs c.in_ok-reserved.ensures

pub step-requires : goal.step-requires
step-requires g c = can_take c.new-orders.result [] t.mugs c.in_ok-reserved.reserved (starts c.new-orders.result c.new-orders.ensures) t.follows_mugs c.in_ok-reserved.ensures

pub cells-requires : goal.cells-requires
cells-requires g c = ∣ (mug_invoiced, took c.new-orders.result c.step.new.service [] t.mugs c.in_ok-reserved.reserved (starts c.new-orders.result c.new-orders.ensures) t.follows_mugs c.in_ok-reserved.ensures c.in_ok-step.ensures.stands) ∣₁

pub value-requires : goal.value-requires
value-requires g c = ∣ (mug_invoiced, took c.new-orders.result c.step.new.service [] t.mugs c.in_ok-reserved.reserved (starts c.new-orders.result c.new-orders.ensures) t.follows_mugs c.in_ok-reserved.ensures c.in_ok-step.ensures.stands) ∣₁
