-- The examples of orders hold by computation.
use Rattle.std.proofs.Common.{refl}
use Rattle.market_events.specs.ExamplesOrder.{OrderExamples}
use Rattle.market_events.specs.Services.{answers}

pub order_examples : OrderExamples
unfolding answers
order_examples = record {
  invoice_of_base = refl;
  voucher_takes_off_at_most_the_price = refl;
  payment_is_nothing = refl;
  failed_without_card = refl;
  failed_over_limit = refl;
  shipped_ends_whole = refl;
  delivery_is_nothing = refl;
  order_of_no_checkout = refl;
  order_of_other_checkout = refl;
  order_invoiced = refl;
  order_paid = refl;
  order_shipped = refl;
  order_delivered = refl;
  order_cancelled = refl;
  order_of_a_later_checkout = refl;
  order_half_delivered_is_shipped = refl;
  order_is_not_delivered_to_another_customer = refl;
  order_is_delivered_to_its_own_customer = refl;
  order_with_both_items_at_once_is_delivered = refl;
  order_of_two_lines_with_one_of_another_customer = refl;
}
