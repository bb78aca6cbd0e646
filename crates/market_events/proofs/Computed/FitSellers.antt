-- What fits sellers, by computation.
use Rattle.std.proofs.Common.{refl}
use Rattle.market_events.specs.ExamplesFitSeller.{SellerFits}
use Rattle.market_events.specs.Services.{fits, reactions, answers}

pub seller_fits : SellerFits
unfolding fits reactions answers
seller_fits = record {
  new_request = refl;
  request_again = refl;
  id_again_with_other_request = refl;
  customer_is_for_customers = refl;
  invoice_once = refl;
  invoice_again = refl;
  invoice_with_other_total = refl;
  invoice_for_payments = refl;
  payment = refl;
  payment_before_invoice = refl;
  payment_of_other_customer = refl;
  payment_of_other_lines = refl;
  payment_twice = refl;
  payment_after_failure = refl;
  payment_for_customers = refl;
  failure = refl;
  failure_before_invoice = refl;
  failure_of_other_customer = refl;
  failure_after_payment = refl;
  failure_twice = refl;
  shipment = refl;
  shipment_before_payment = refl;
  shipment_twice = refl;
  shipment_for_orders = refl;
  delivery = refl;
  delivery_before_shipment = refl;
  delivery_twice = refl;
  item_twice = refl;
  item_of_no_line = refl;
  items_of_two_checkouts = refl;
  one_item_delivered_twice = refl;
  delivery_of_the_rest = refl;
  item_of_other_customer = refl;
  two_customers_of_one_line = refl;
  item_of_other_customer_after_the_own = refl;
  item_of_other_customer_twice = refl;
  item_of_other_customer_of_no_line = refl;
  new_request_is_answered = refl;
  request_again_is_not = refl;
}
