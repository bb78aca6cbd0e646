-- The examples of customers hold by computation.
use Rattle.std.proofs.Common.{refl}
use Rattle.market_events.specs.ExamplesCustomer.{CustomerExamples}
use Rattle.market_events.specs.Services.{answers}

pub customer_examples : CustomerExamples
unfolding answers
customer_examples = record {
  customer_without_payments = refl;
  customer_after_payment = refl;
  customer_after_delivery = refl;
  other_customer_has_his_own = refl;
  customer_with_a_line_of_another = refl;
  customer_with_a_line_of_no_checkout = refl;
  customer_after_failure = refl;
  customer_after_two_deliveries = refl;
  customer_9_after_his_delivery = refl;
  two_packages_of_one_checkout = refl;
  payment_is_nothing = refl;
  failure_is_nothing = refl;
  delivery_is_nothing = refl;
}
