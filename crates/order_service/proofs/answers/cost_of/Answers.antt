use Rattle.std.proofs.Common.{arith}
use Rattle.market_events.proofs.Values.Totals.{total_of-step}
use Rattle.order_service.proofs.Sums.{total_of-fits}
use Rattle.order_service.proofs.answers.cost_of.Goals as goal

pub overflow_add-total : goal.overflow_add-total
overflow_add-total c =
    omega (arith, total_of-fits c.args.lines.now c.loop-line.line-index c.line-item.result c.loop-line-test.true c.line-item.is c.requires, c.loop-line.invariant, c.line_amount-total.ensures)

pub loop-line-preserved : goal.loop-line-preserved
loop-line-preserved c =
    omega (arith, total_of-step c.args.lines.now c.loop-line.line-index c.line-item.result c.loop-line-test.true c.line-item.is, c.loop-line.invariant, c.line_amount-total.ensures)
