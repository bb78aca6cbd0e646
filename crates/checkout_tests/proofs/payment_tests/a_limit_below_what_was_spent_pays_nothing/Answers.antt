use Rattle.market_events.specs.Examples.{mug_invoice}
use Rattle.market_events.specs.declared.roles.Role.{Role}
use Rattle.market_events.specs.Standing.{with_step}
use Rattle.service_driving.proofs.Standing.{can_take_body, took_body}
use Rattle.checkout_tests.specs.PaymentExamples.{card_asked, from_lane, with_limit}
use Rattle.checkout_tests.proofs.PaymentTesting as t
use Rattle.checkout_tests.proofs.payment_tests.a_limit_below_what_was_spent_pays_nothing.Goals as goal

pub step-requires : goal.step-requires
step-requires g c = can_take_body c.in_ok-payments.payments (with_limit 1950) t.orders c.in_ok-bill.bill mug_invoice c.in_ok-payments.ensures c.in_ok-bill.ensures (t.bill_fits 1950)

pub step-requires-2 : goal.step-requires-2
step-requires-2 g c =
    let first = took_body c.in_ok-payments.payments c.step.new.service (with_limit 1950) t.orders c.in_ok-bill.bill mug_invoice c.in_ok-payments.ensures c.in_ok-bill.ensures (t.bill_fits 1950) c.in_ok-step.ensures.stands in
    can_take_body c.step.new.service (t.billed 1950) from_lane c.card-lower.result (card_asked 4 1949) first c.card-lower.ensures t.lower_fits

pub step-requires-3 : goal.step-requires-3
step-requires-3 g c =
    let first = took_body c.in_ok-payments.payments c.step.new.service (with_limit 1950) t.orders c.in_ok-bill.bill mug_invoice c.in_ok-payments.ensures c.in_ok-bill.ensures (t.bill_fits 1950) c.in_ok-step.ensures.stands in
    let second = took_body c.step.new.service c.step-2.new.service (t.billed 1950) from_lane c.card-lower.result (card_asked 4 1949) first c.card-lower.ensures t.lower_fits c.in_ok-told.ensures.stands in
    can_take_body c.step-2.new.service t.lowered t.orders c.in_ok-free.free t.free_bill second c.in_ok-free.ensures t.free_fits

pub assert_account-requires : goal.assert_account-requires
assert_account-requires g c =
    let first = took_body c.in_ok-payments.payments c.step.new.service (with_limit 1950) t.orders c.in_ok-bill.bill mug_invoice c.in_ok-payments.ensures c.in_ok-bill.ensures (t.bill_fits 1950) c.in_ok-step.ensures.stands in
    let second = took_body c.step.new.service c.step-2.new.service (t.billed 1950) from_lane c.card-lower.result (card_asked 4 1949) first c.card-lower.ensures t.lower_fits c.in_ok-told.ensures.stands in
    ∣ (with_step Role.Payment t.lowered t.orders t.free_bill, took_body c.step-2.new.service c.step-3.new.service t.lowered t.orders c.in_ok-free.free t.free_bill second c.in_ok-free.ensures t.free_fits c.in_ok-outs.ensures.stands) ∣₁
