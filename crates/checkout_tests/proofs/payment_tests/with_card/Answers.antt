use Rattle.std.proofs.Common.{[]}
use Rattle.service_driving.proofs.Standing.{can_take_body, took_body, starts}
use Rattle.checkout_tests.specs.PaymentExamples.{card_asked, from_lane}
use Rattle.checkout_tests.proofs.PaymentTesting as t
use Rattle.checkout_tests.proofs.payment_tests.with_card.Goals as goal

pub step-requires : goal.step-requires
step-requires c =
    can_take_body c.new-payments.result [] from_lane c.card-asked.result (card_asked 3 c.args.limit) (starts c.new-payments.result c.new-payments.ensures) c.card-asked.ensures
    (t.card_fits c.args.limit c.requires)

pub returns : goal.returns
returns c =
    took_body c.new-payments.result c.step.new.service [] from_lane c.card-asked.result (card_asked 3 c.args.limit) (starts c.new-payments.result c.new-payments.ensures) c.card-asked.ensures
    (t.card_fits c.args.limit c.requires) c.in_ok-step.ensures.stands
