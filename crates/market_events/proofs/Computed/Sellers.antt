-- The examples of sellers hold by computation.
use Rattle.std.proofs.Common.{refl}
use Rattle.market_events.specs.ExamplesSeller.{SellerExamples}
use Rattle.market_events.specs.Services.{answers}

pub seller_examples : SellerExamples
unfolding answers
seller_examples = record {
  dashboard_of_none = refl;
  dashboard_of_other_seller = refl;
  dashboard_invoiced = refl;
  dashboard_paid = refl;
  dashboard_shipped = refl;
  dashboard_delivered = refl;
  dashboard_with_a_line_delivered_twice = refl;
  dashboard_cancelled = refl;
  dashboard_of_two_checkouts = refl;
  dashboard_of_seller_6 = refl;
  dashboard_with_one_delivered = refl;
  dashboard_of_seller_6_shipped = refl;
  dashboard_has_50_rows = refl;
  invoice_is_nothing = refl;
  payment_is_nothing = refl;
  failure_is_nothing = refl;
  shipping_is_nothing = refl;
  delivery_is_nothing = refl;
}
