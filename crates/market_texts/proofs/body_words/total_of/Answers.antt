use Rattle.std.proofs.Common.{arith}
use Rattle.market_events.proofs.Values.Totals.{total_of-step}
use Rattle.market_texts.proofs.body_words.total_of.Goals as goal

pub loop-line-preserved : goal.loop-line-preserved
loop-line-preserved c =
    let step = total_of-step c.args.lines.now c.loop-line.line-index c.line-item.result c.loop-line-test.true c.line-item.is in record {
      exact = omega (arith, step, c.loop-line.invariant.exact, c.line_amount-amount.ensures, c.from-total.ensures);
      room = omega (arith, c.loop-line.invariant.room, c.line_amount-amount.type_inv, c.from-total.ensures);
    }
