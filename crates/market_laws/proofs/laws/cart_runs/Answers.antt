-- Each clause is a law of RunsCart.
use Rattle.market_laws.proofs.Runs.Cart.{told-sent-is, ended-le-sent, sent-le-asked, sent-asked}
use Rattle.market_laws.proofs.laws.cart_runs.Goals as goal

pub returns : goal.returns
returns c = record { told = told-sent-is; ended = ended-le-sent; sent = sent-le-asked; sent_for = sent-asked }
