use Rattle.market_events.specs.Examples.{mug_invoice}
use Rattle.service_driving.proofs.Standing.{can_take_body, took_body}
use Rattle.checkout_tests.specs.PaymentExamples.{with_limit}
use Rattle.checkout_tests.proofs.PaymentTesting as t
use Rattle.checkout_tests.proofs.payment_tests.a_total_above_the_limit_is_not.Goals as goal

pub step-requires : goal.step-requires
step-requires g c = can_take_body c.in_ok-payments.payments (with_limit 1949) t.orders c.in_ok-bill.bill mug_invoice c.in_ok-payments.ensures c.in_ok-bill.ensures (t.bill_fits 1949)

pub assert_account-requires : goal.assert_account-requires
assert_account-requires g c =
    ∣ (t.billed 1949, took_body c.in_ok-payments.payments c.step.new.service (with_limit 1949) t.orders c.in_ok-bill.bill mug_invoice c.in_ok-payments.ensures c.in_ok-bill.ensures (t.bill_fits 1949) c.in_ok-outs.ensures.stands) ∣₁
