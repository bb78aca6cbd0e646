-- The cart's examples hold by computation.
use Rattle.std.proofs.Common.{refl}
use Rattle.market_events.specs.ExamplesCart.{ViewExamples, LineExamples, RemoveExamples, CheckoutExamples, EndExamples, FullExamples, CartExamples}
use Rattle.market_events.specs.Services.{answers}

view_examples : ViewExamples
unfolding answers
view_examples = record {
  view_of_unknown = refl;
  view_of_other = refl;
  view_of_live = refl;
  view_after_price_keeps_freight = refl;
  view_of_gone = refl;
  view_after_second_create = refl;
}

line_examples : LineExamples
unfolding answers
line_examples = record {
  line_of_unknown = refl;
  line_of_gone = refl;
  line_of_live = refl;
  line_again = refl;
}

remove_examples : RemoveExamples
unfolding answers
remove_examples = record {
  remove_of_no_line = refl;
  remove_of_line = refl;
  remove_of_other_line = refl;
  remove_of_other_customer = refl;
  remove_after_remove = refl;
  remove_after_checkout = refl;
  remove_of_gone = refl;
  remove_after_refused_line = refl;
}

checkout_examples : CheckoutExamples
unfolding answers
checkout_examples = record {
  checkout_of_empty_basket = refl;
  checkout_of_other_customer = refl;
  checkout_of_line = refl;
  checkout_after_checkout = refl;
  checkout_after_remove = refl;
  remove_takes_one_line_out = refl;
  checkout_takes_only_its_customers_lines = refl;
  lines_rise_by_key = refl;
  lines_have_the_price_of_the_copy = refl;
  last_line_counts = refl;
  line_after_remove_counts = refl;
  least_gone_is_named = refl;
  basket_stays_that_was_not_sent_on = refl;
}

end_examples : EndExamples
unfolding answers
end_examples = record {
  reserve_failed_gone = refl;
  reserve_failed_short = refl;
  ended_without_card = refl;
  ended_over_limit = refl;
  ended_whole = refl;
  caller_20_is_told_on_its_lane = refl;
  change_is_nothing = refl;
}

full_examples : FullExamples
unfolding answers
full_examples = record {
  line_32 = refl;
  line_33 = refl;
  line_of_a_key_that_is_there = refl;
  line_33_of_unknown = refl;
  line_of_other_customer = refl;
  line_after_remove_of_another = refl;
}

pub cart_examples : CartExamples
cart_examples = record {
  view = view_examples;
  line = line_examples;
  remove = remove_examples;
  checkout = checkout_examples;
  ends = end_examples;
  full = full_examples;
}
