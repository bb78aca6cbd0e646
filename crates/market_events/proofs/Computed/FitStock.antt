-- What fits stock, by computation.
use Rattle.std.proofs.Common.{refl}
use Rattle.market_events.specs.ExamplesFitStock.{StockRequestFits, StockChangeFits, StockReserveFits, StockPaymentFits, StockFits}
use Rattle.market_events.specs.Services.{fits, reactions, answers}

stock_request_fits : StockRequestFits
unfolding fits reactions answers
stock_request_fits = record {
  new_request = refl;
  request_again = refl;
  id_again_with_other_request = refl;
  view_is_for_the_cart = refl;
  stock_0_pieces = refl;
  stock_the_most_pieces = refl;
  stock_more_than_the_most = refl;
}

stock_change_fits : StockChangeFits
unfolding fits reactions answers
stock_change_fits = record {
  first_creation = refl;
  deletion_of_unknown = refl;
  next_version = refl;
  version_two_above = refl;
  creation_of_live = refl;
  creation_of_gone = refl;
  price_of_gone = refl;
  change_for_the_cart = refl;
}

stock_reserve_fits : StockReserveFits
unfolding fits reactions answers
stock_reserve_fits = record {
  reserve_once = refl;
  reserve_of_more_than_there_is = refl;
  reserve_again = refl;
  reserve_again_after_payment = refl;
  reserve_again_after_refusal = refl;
  checkout_again_with_other_lines = refl;
  second_checkout = refl;
  reserve_of_unknown = refl;
  reserve_with_an_unknown_line = refl;
  reserve_of_gone = refl;
  lines_by_rising_key = refl;
  lines_by_falling_product = refl;
  lines_by_falling_seller = refl;
  two_lines_of_one_product = refl;
  reserve_of_no_lines = refl;
  line_of_0_pieces = refl;
  line_of_1001_pieces = refl;
  reserve_of_32_lines = refl;
  reserve_of_33_lines = refl;
  reserve_on_the_link_from_payments = refl;
  confirmation_is_for_orders = refl;
  reserve_is_answered = refl;
  reserve_again_is_not = refl;
  reserve_of_unknown_is_not = refl;
}

stock_payment_fits : StockPaymentFits
unfolding fits reactions answers
stock_payment_fits = record {
  payment = refl;
  payment_of_other_customer = refl;
  payment_of_fewer_pieces = refl;
  payment_with_other_voucher = refl;
  payment_with_one_more_line = refl;
  payment_with_other_total = refl;
  payment_without_reserve = refl;
  payment_after_refusal = refl;
  payment_twice = refl;
  payment_after_failure = refl;
  payment_for_orders = refl;
  failure = refl;
  failure_of_other_customer = refl;
  failure_of_other_checkout = refl;
  failure_without_reserve = refl;
  failure_twice = refl;
  failure_after_payment = refl;
  shipment_is_for_orders = refl;
}

pub stock_fits : StockFits
stock_fits = record {
  requests = stock_request_fits;
  changes = stock_change_fits;
  reserves = stock_reserve_fits;
  payments = stock_payment_fits;
}
