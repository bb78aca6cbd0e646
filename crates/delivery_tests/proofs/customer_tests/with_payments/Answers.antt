use Rattle.std.proofs.Common.{[], ap}
use Rattle.service_driving.proofs.Standing.{can_take_body, took_body, starts}
use Rattle.delivery_tests.specs.CustomerExamples.{payments, payment, failure, one_paid, two_paid}
use Rattle.delivery_tests.proofs.CustomerTesting as t
use Rattle.delivery_tests.proofs.customer_tests.with_payments.Goals as goal

pub step-requires : goal.step-requires
step-requires c =
    can_take_body c.new-customers.result [] payments c.in_ok-first.first (payment 1) (starts c.new-customers.result c.new-customers.ensures) c.in_ok-first.ensures t.first_fits

pub step-requires-2 : goal.step-requires-2
step-requires-2 c =
    let first = took_body c.new-customers.result c.step.new.service [] payments c.in_ok-first.first (payment 1) (starts c.new-customers.result c.new-customers.ensures) c.in_ok-first.ensures t.first_fits c.in_ok-step.ensures.stands in
    can_take_body c.step.new.service one_paid payments c.in_ok-second.second (payment 2) first c.in_ok-second.ensures t.second_fits

pub step-requires-3 : goal.step-requires-3
step-requires-3 c =
    let first = took_body c.new-customers.result c.step.new.service [] payments c.in_ok-first.first (payment 1) (starts c.new-customers.result c.new-customers.ensures) c.in_ok-first.ensures t.first_fits c.in_ok-step.ensures.stands in
    let second = took_body c.step.new.service c.step-2.new.service one_paid payments c.in_ok-second.second (payment 2) first c.in_ok-second.ensures t.second_fits c.in_ok-step-2.ensures.stands in
    can_take_body c.step-2.new.service two_paid payments (t.failed c.request.result) failure second (ap t.failed c.request.ensures) t.failure_fits

pub returns : goal.returns
returns c =
    let first = took_body c.new-customers.result c.step.new.service [] payments c.in_ok-first.first (payment 1) (starts c.new-customers.result c.new-customers.ensures) c.in_ok-first.ensures t.first_fits c.in_ok-step.ensures.stands in
    let second = took_body c.step.new.service c.step-2.new.service one_paid payments c.in_ok-second.second (payment 2) first c.in_ok-second.ensures t.second_fits c.in_ok-step-2.ensures.stands in
    took_body c.step-2.new.service c.step-3.new.service two_paid payments (t.failed c.request.result) failure second (ap t.failed c.request.ensures) t.failure_fits c.in_ok-step-3.ensures.stands
