-- What fits payments, shipments and customers, by computation.
use Rattle.std.proofs.Common.{refl}
use Rattle.market_events.specs.ExamplesFitPayment.{PaymentFits, ShipmentFits, CustomerFits}
use Rattle.market_events.specs.Services.{fits, reactions, answers}

pub payment_fits : PaymentFits
unfolding fits reactions answers
payment_fits = record {
  new_request = refl;
  request_again = refl;
  order_is_for_orders = refl;
  card_of_the_greatest_limit = refl;
  card_above_it = refl;
  invoice_once = refl;
  invoice_again = refl;
  invoice_again_after_failure = refl;
  second_invoice = refl;
  invoice_with_other_total = refl;
  invoice_for_sellers = refl;
  payment_is_for_stock = refl;
  invoice_once_is_answered = refl;
  invoice_again_is_not = refl;
}

pub shipment_fits : ShipmentFits
unfolding fits reactions answers
shipment_fits = record {
  new_request = refl;
  request_again = refl;
  card_is_for_payments = refl;
  payment_once = refl;
  payment_twice = refl;
  second_payment = refl;
  payment_with_other_total = refl;
  payment_for_orders = refl;
  failure_is_not_for_shipments = refl;
  shipment_is_for_orders = refl;
  payment_once_is_answered = refl;
  payment_twice_is_not = refl;
}

pub customer_fits : CustomerFits
unfolding fits reactions answers
customer_fits = record {
  new_request = refl;
  request_again = refl;
  id_again_with_other_request = refl;
  dashboard_is_for_sellers = refl;
  payment_once = refl;
  payment_twice = refl;
  payment_after_failure = refl;
  payment_for_sellers = refl;
  failure_once = refl;
  failure_twice = refl;
  failure_after_payment = refl;
  failure_of_other_checkout = refl;
  delivery_once = refl;
  delivery_of_two = refl;
  delivery_of_nothing = refl;
  delivery_twice = refl;
  one_item_delivered_twice = refl;
  item_twice = refl;
  item_of_other_customer = refl;
  two_customers_of_one_line = refl;
  item_of_other_customer_twice = refl;
  delivery_for_sellers = refl;
  shipment_is_not_for_customers = refl;
}
