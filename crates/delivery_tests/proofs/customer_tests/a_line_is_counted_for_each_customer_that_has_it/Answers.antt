use Rattle.std.proofs.Common.{[]}
use Rattle.service_driving.proofs.Standing.{can_take_body, took_body, starts}
use Rattle.delivery_tests.specs.CustomerExamples.{deliveries, arrival, both_arrived}
use Rattle.delivery_tests.proofs.CustomerTesting as t
use Rattle.delivery_tests.proofs.customer_tests.a_line_is_counted_for_each_customer_that_has_it.Goals as goal

pub step-requires : goal.step-requires
step-requires g c =
    can_take_body c.new-customers.result [] deliveries c.in_ok-both.both arrival (starts c.new-customers.result c.new-customers.ensures) c.in_ok-both.ensures t.arrival_fits

pub assert_both-requires : goal.assert_both-requires
assert_both-requires g c =
    ∣ (both_arrived, took_body c.new-customers.result c.step.new.service [] deliveries c.in_ok-both.both arrival (starts c.new-customers.result c.new-customers.ensures) c.in_ok-both.ensures t.arrival_fits c.in_ok-step.ensures.stands) ∣₁
