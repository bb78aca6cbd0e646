-- The examples of payments hold by computation.
use Rattle.std.proofs.Common.{refl}
use Rattle.market_events.specs.ExamplesPayment.{PaymentExamples}
use Rattle.market_events.specs.Services.{answers}

pub payment_examples : PaymentExamples
unfolding answers
payment_examples = record {
  card_is_told = refl;
  card_again_is_told = refl;
  invoice_of_base = refl;
  invoice_at_the_limit = refl;
  invoice_one_over_the_limit = refl;
  invoice_without_card = refl;
  card_of_other_customer_is_none = refl;
  last_card_counts = refl;
  last_card_counts_upwards = refl;
  second_invoice_at_the_limit = refl;
  second_invoice_one_over_the_limit = refl;
  card_sets_nothing_back = refl;
  failed_payment_spends_nothing = refl;
  other_customer_spends_his_own = refl;
  free_with_card_of_0 = refl;
  free_without_card = refl;
}
