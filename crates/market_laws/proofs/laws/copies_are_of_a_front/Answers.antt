-- By what is matched on the links from products, all of which fits where it is taken.
use Rattle.market_laws.proofs.Moments.CopyFronts.{cart-front, stock-front, cart-shows, stock-shows}
use Rattle.market_laws.proofs.laws.copies_are_of_a_front.Goals as goal

pub returns : goal.returns
returns c = record {
  cart_took = λ h lawful. cart-front h lawful;
  stock_took = λ h lawful. stock-front h lawful;
  cart_shows = λ h lawful. cart-shows h lawful;
  stock_shows = λ h lawful. stock-shows h lawful;
}
