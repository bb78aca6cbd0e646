use Rattle.std.proofs.Common.{ap}
use Rattle.market_events.specs.Examples.{an_id}
use Rattle.service_driving.proofs.Standing.{can_take_body}
use Rattle.delivery_tests.specs.CustomerExamples.{two_paid_one_failed}
use Rattle.delivery_tests.proofs.CustomerTesting as t
use Rattle.delivery_tests.proofs.customer_tests.two_payments_and_a_failure.Goals as goal

pub assert_cell-requires : goal.assert_cell-requires
assert_cell-requires g c = ∣ (two_paid_one_failed, c.in_ok-customers.ensures) ∣₁

pub step-requires : goal.step-requires
step-requires g c =
    can_take_body c.in_ok-customers.customers two_paid_one_failed t.lane (t.asked c.request.result) (t.asked (an_id 5 4)) c.in_ok-customers.ensures (ap t.asked c.request.ensures) t.question_fits
