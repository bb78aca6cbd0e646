use Rattle.std.proofs.Common.{[], ap}
use Rattle.market_events.specs.declared.bodies.Body.TheVariants as body
use Rattle.market_events.specs.Examples.{basket}
use Rattle.service_driving.proofs.Standing.{can_take, starts}
use Rattle.checkout_tests.proofs.OrderTesting as t
use Rattle.checkout_tests.proofs.order_tests.the_greatest_checkout_does_not_wrap.Goals as goal

pub step-requires : goal.step-requires
step-requires g c =
    can_take c.new-orders.result [] t.greatest (body.StockConfirmed basket 7 c.in_ok-greatest.field-0) (starts c.new-orders.result c.new-orders.ensures) t.follows_greatest (ap (body.StockConfirmed basket 7) c.in_ok-greatest.ensures)
