-- Stock's examples hold by computation.
use Rattle.std.proofs.Common.{refl}
use Rattle.market_events.specs.ExamplesStock.{StockedExamples, LevelExamples, ReserveExamples, QuietExamples, StockExamples}
use Rattle.market_events.specs.Services.{answers}

stocked_examples : StockedExamples
unfolding answers
stocked_examples = record {
  stock_of_unknown = refl;
  stock_of_gone = refl;
  stock_of_live = refl;
  stock_again = refl;
  stock_beside_reserved = refl;
  stock_after_payment = refl;
  stock_up_to_the_most = refl;
  stock_over_the_most = refl;
}

level_examples : LevelExamples
unfolding answers
level_examples = record {
  level_of_unknown = refl;
  level_of_none = refl;
  level_of_three = refl;
  level_of_gone = refl;
  level_of_reserved = refl;
  level_after_payment = refl;
  level_after_failure = refl;
  level_after_refusal = refl;
}

reserve_examples : ReserveExamples
unfolding answers
reserve_examples = record {
  reserve_of_base = refl;
  reserve_of_all = refl;
  reserve_of_too_many = refl;
  reserve_of_gone = refl;
  reserve_of_too_many_of_gone = refl;
  reserve_of_two_lines = refl;
  reserve_with_one_refused = refl;
  least_of_two_refused_is_named = refl;
  least_of_three_refused_is_named = refl;
  least_refused_is_gone = refl;
  reserve_of_the_rest = refl;
  reserve_of_more_than_the_rest = refl;
  reserve_after_payment = refl;
  reserve_of_what_is_paid = refl;
  reserve_after_failure = refl;
}

quiet_examples : QuietExamples
unfolding answers
quiet_examples = record {
  change_is_nothing = refl;
  payment_is_nothing = refl;
  failure_is_nothing = refl;
}

pub stock_examples : StockExamples
stock_examples = record {
  stocking = stocked_examples;
  level = level_examples;
  reserving = reserve_examples;
  other = quiet_examples;
}
