-- The journal of two changes, by computation.
use Rattle.std.proofs.Common.{[], ◌∷◌, refl, lit<}
use Rattle.market_history.specs.Causality.{past_of, at_sender}
use Rattle.market_history.specs.Examples.{made}
use Rattle.market_history.specs.ExamplesLinks.{LinkExamples, first, second}

pub link_examples : LinkExamples
unfolding past_of
link_examples = record {
  known_for_the_cart = refl;
  known_for_stock = refl;
  stamped = ((refl, refl), ((refl, refl), tt));
  pasts = (refl, (refl, tt));
  sent_to_the_cart = refl;
  numbered = refl;
  matched = (second ∷ [], refl);
  before = at_sender second (made first ∷ []) (made second, [], refl, refl) (0, lit< tt, refl);
}
