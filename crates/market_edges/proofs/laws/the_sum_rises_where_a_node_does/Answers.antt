use Rattle.market_edges.proofs.Totals.{sum_rises}
use Rattle.market_edges.proofs.laws.the_sum_rises_where_a_node_does.Goals as goal

pub returns : goal.returns
returns c = sum_rises
