use Rattle.std.proofs.Common.{arith}
use Rattle.std.proofs.lemmas.Grind.{common_steps}
use Rattle.market_events.specs.Cells.{held_line}
use Rattle.market_words.proofs.Joining.{joined_more}
use Rattle.stock_service.proofs.cells.lines_text.Goals as goal

pub loop-index-preserved : goal.loop-index-preserved
loop-index-preserved c = grind (arith, common_steps, joined_more 59 held_line c.args.lines.now c.loop-index.index c.index-lines-index.result c.loop-index-test.true)
