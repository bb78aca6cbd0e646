-- Each clause is a law of RunsProduct.
use Rattle.market_laws.proofs.Runs.Products.{changes-to-cart, change-fits}
use Rattle.market_laws.proofs.laws.product_runs.Goals as goal

pub returns : goal.returns
returns c = record { carts_told = changes-to-cart; changes_fit = change-fits }
