-- What fits the cart and the product service, by computation.
use Rattle.std.proofs.Common.{refl}
use Rattle.market_events.specs.ExamplesFitCart.{CartRequestFits, CartChangeFits, CartEndFits, CartFits, ProductFits}
use Rattle.market_events.specs.Services.{fits, reactions, answers}

cart_request_fits : CartRequestFits
unfolding fits reactions answers
cart_request_fits = record {
  new_request = refl;
  new_id_of_other_caller = refl;
  request_again = refl;
  id_again_with_other_request = refl;
  request_for_product = refl;
  request_for_product_on_the_carts_link = refl;
  request_on_the_link_to_product = refl;
  line_of_0_pieces = refl;
  line_of_1000_pieces = refl;
  line_of_1001_pieces = refl;
  voucher_above_the_range = refl;
  new_request_is_answered = refl;
  request_again_is_not = refl;
}

cart_change_fits : CartChangeFits
unfolding fits reactions answers
cart_change_fits = record {
  first_creation = refl;
  first_version_is_2 = refl;
  price_of_unknown = refl;
  deletion_of_unknown = refl;
  next_version = refl;
  same_version = refl;
  version_two_above = refl;
  creation_of_live = refl;
  deletion_of_live = refl;
  price_of_gone = refl;
  deletion_of_gone = refl;
  creation_of_gone = refl;
  creation_of_gone_starts_anew = refl;
  price_above_the_range = refl;
  change_for_stock = refl;
  change_on_the_link_from_stock = refl;
}

cart_end_fits : CartEndFits
unfolding fits reactions answers
cart_end_fits = record {
  stock_fails_the_checkout = refl;
  stock_fails_without_reserve = refl;
  stock_fails_other_checkout = refl;
  stock_fails_twice = refl;
  stock_fails_after_the_end = refl;
  stock_fails_on_the_link_from_orders = refl;
  order_ends_the_checkout = refl;
  order_ends_it_undone = refl;
  order_ends_without_reserve = refl;
  order_ends_other_checkout = refl;
  order_ends_twice = refl;
  order_ends_after_stock_failed = refl;
  order_ends_on_the_link_from_stock = refl;
  reserve_is_for_stock = refl;
  reply_is_for_a_lane = refl;
}

pub cart_fits : CartFits
cart_fits = record {
  requests = cart_request_fits;
  changes = cart_change_fits;
  ends = cart_end_fits;
}

pub product_fits : ProductFits
unfolding fits reactions answers
product_fits = record {
  new_request = refl;
  request_again = refl;
  id_again_with_other_request = refl;
  view_is_for_the_cart = refl;
  price_in_the_range = refl;
  freight_above_the_range = refl;
  change_is_for_the_cart = refl;
  new_request_is_answered = refl;
  request_again_is_not = refl;
}
