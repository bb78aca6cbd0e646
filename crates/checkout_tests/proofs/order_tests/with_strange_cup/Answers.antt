use Rattle.std.proofs.Common.{[], ◌∷◌, ◌++◌}
use Rattle.market_events.specs.Examples.{mug, cup}
use Rattle.service_driving.proofs.Standing.{can_take, took}
use Rattle.checkout_tests.specs.OrderExamples.{two_shipped}
use Rattle.checkout_tests.proofs.OrderTesting as t
use Rattle.checkout_tests.proofs.order_tests.with_strange_cup.Goals as goal

pub step-requires : goal.step-requires
step-requires c = can_take _ two_shipped (t.brings mug) c.in_ok-mug.mug c.in_ok-orders.ensures t.follows_mug c.in_ok-mug.ensures

pub step-requires-2 : goal.step-requires-2
step-requires-2 c =
    let one = took _ c.step.new.service two_shipped (t.brings mug) c.in_ok-mug.mug c.in_ok-orders.ensures t.follows_mug c.in_ok-mug.ensures c.in_ok-step.ensures.stands in
    can_take c.step.new.service (two_shipped ++ t.brings mug ∷ []) (t.brings_to 8 cup) c.in_ok-cup.cup one t.follows_strange c.in_ok-cup.ensures

pub returns : goal.returns
returns c =
    let one = took _ c.step.new.service two_shipped (t.brings mug) c.in_ok-mug.mug c.in_ok-orders.ensures t.follows_mug c.in_ok-mug.ensures c.in_ok-step.ensures.stands in
    took c.step.new.service c.step-2.new.service (two_shipped ++ t.brings mug ∷ []) (t.brings_to 8 cup) c.in_ok-cup.cup one t.follows_strange c.in_ok-cup.ensures c.in_ok-step-2.ensures.stands
