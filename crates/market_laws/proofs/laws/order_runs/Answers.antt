-- Each clause is a law of RunsOrder.
use Rattle.market_laws.proofs.Runs.Orders.{invoices-to-seller, held-once, invoices-is-held, invoices-once, total-held, ends-is, invoice-held, ends-once, undone-failed, whole-shipped}
use Rattle.market_laws.proofs.laws.order_runs.Goals as goal

pub returns : goal.returns
returns c = record {
  sellers_told = invoices-to-seller;
  held_once = held-once;
  invoiced_each = invoices-is-held;
  invoiced_once = invoices-once;
  invoiced = invoice-held;
  total = total-held;
  ended_each = ends-is;
  ended_once = ends-once;
  undone = undone-failed;
  whole = whole-shipped;
}
