-- What fits orders, by computation.
use Rattle.std.proofs.Common.{refl}
use Rattle.market_events.specs.ExamplesFitOrder.{OrderPaymentFits, OrderShipmentFits, OrderFits}
use Rattle.market_events.specs.Services.{fits, reactions, answers}

order_payment_fits : OrderPaymentFits
unfolding fits reactions answers
order_payment_fits = record {
  new_request = refl;
  request_again = refl;
  card_is_for_payments = refl;
  checkout_once = refl;
  checkout_again = refl;
  checkout_again_after_the_end = refl;
  second_checkout = refl;
  lines_by_falling_key = refl;
  checkout_on_the_link_from_payments = refl;
  invoice_is_for_payments = refl;
  payment = refl;
  payment_of_other_customer = refl;
  payment_of_other_lines = refl;
  payment_with_other_total = refl;
  payment_without_checkout = refl;
  payment_twice = refl;
  payment_after_failure = refl;
  payment_for_stock = refl;
  failure = refl;
  failure_of_other_customer = refl;
  failure_without_checkout = refl;
  failure_twice = refl;
  failure_after_payment = refl;
  checkout_again_is_not_answered = refl;
  checkout_once_is_answered = refl;
}

order_shipment_fits : OrderShipmentFits
unfolding fits reactions answers
order_shipment_fits = record {
  shipment = refl;
  shipment_before_payment = refl;
  shipment_of_cancelled = refl;
  shipment_of_other_checkout = refl;
  shipment_twice = refl;
  shipment_for_sellers = refl;
  delivery = refl;
  delivery_of_nothing = refl;
  delivery_before_shipment = refl;
  delivery_twice = refl;
  item_twice = refl;
  item_of_no_line = refl;
  item_of_other_checkout = refl;
  one_item_of_no_line = refl;
  delivery_of_the_rest = refl;
  delivery_of_more_than_the_rest = refl;
  item_of_other_customer = refl;
  two_customers_of_one_line = refl;
  own_item_after_that_of_other_customer = refl;
  item_of_other_customer_after_the_own = refl;
  item_of_other_customer_twice = refl;
  item_of_other_customer_of_no_line = refl;
  delivery_for_customers = refl;
}

pub order_fits : OrderFits
order_fits = record {
  payments = order_payment_fits;
  shipments = order_shipment_fits;
}
