-- By what payments told stock, and by the balance of what was made, taken and is outstanding on the links from stock to orders, from
-- orders to payments and from payments to stock.
use Rattle.market_events.proofs.Runs.Stock.{reserved-le-on_hand, sold-reserved-le-stocked}
use Rattle.market_laws.proofs.Moments.Reservations.{reserved-listed, listed-wait, way-listed}
use Rattle.market_laws.proofs.laws.reserved_is_listed.Goals as goal

pub returns : goal.returns
returns f = record {
  sum = λ h key lawful. reserved-listed h lawful key;
  waits = λ h lawful. listed-wait h lawful;
  listed = λ h c lawful. way-listed h lawful c;
  covered = reserved-le-on_hand;
  within = sold-reserved-le-stocked;
}
