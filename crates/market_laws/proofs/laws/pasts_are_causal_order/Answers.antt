-- By what the entries before an event told of the link, and by readiness.
use Rattle.market_laws.proofs.Pasts.Order.{before-counts, taken-first}
use Rattle.market_laws.proofs.laws.pasts_are_causal_order.Goals as goal

pub returns : goal.returns
returns c = record {
  counted = λ h k f e lawful f_made e_made. before-counts h lawful k f e f_made e_made;
  taken_first = λ h n k f e taken lawful on into earlier took. taken-first h lawful n k f e taken into on earlier took;
}
