use Rattle.std.proofs.Common.{[]}
use Rattle.market_events.specs.Examples.{mug_invoice}
use Rattle.market_events.specs.declared.roles.Role.{Role}
use Rattle.market_events.specs.Standing.{with_step}
use Rattle.service_driving.proofs.Standing.{can_take_body, took_body, starts}
use Rattle.checkout_tests.proofs.PaymentTesting as t
use Rattle.checkout_tests.proofs.payment_tests.nothing_is_paid_without_a_card.Goals as goal

pub step-requires : goal.step-requires
step-requires g c = can_take_body c.new-payments.result [] t.orders c.in_ok-bill.bill mug_invoice (starts c.new-payments.result c.new-payments.ensures) c.in_ok-bill.ensures t.first_fits

pub cells-requires : goal.cells-requires
cells-requires g c =
    ∣ (with_step Role.Payment [] t.orders mug_invoice, took_body c.new-payments.result c.step.new.service [] t.orders c.in_ok-bill.bill mug_invoice (starts c.new-payments.result c.new-payments.ensures) c.in_ok-bill.ensures t.first_fits c.in_ok-outs.ensures.stands) ∣₁
