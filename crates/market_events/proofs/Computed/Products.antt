-- The product service's examples hold by computation.
use Rattle.std.proofs.Common.{refl}
use Rattle.market_events.specs.ExamplesProduct.{ProductExamples}
use Rattle.market_events.specs.Services.{answers}

pub product_examples : ProductExamples
unfolding answers
product_examples = record {
  create_of_unknown = refl;
  create_of_live = refl;
  create_after_delete_is_version_3 = refl;
  create_of_other_is_version_1 = refl;
  price_of_unknown = refl;
  price_of_gone = refl;
  price_of_live = refl;
  price_after_price_is_version_3 = refl;
  price_after_refusal_is_version_2 = refl;
  delete_of_unknown = refl;
  delete_of_other = refl;
  delete_of_gone = refl;
  delete_of_live = refl;
  delete_after_price_is_version_3 = refl;
  caller_20_is_told_on_its_lane = refl;
  change_is_nothing = refl;
}
