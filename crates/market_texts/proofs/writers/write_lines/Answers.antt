use Rattle.std.proofs.Common.{arith}
use Rattle.std.proofs.lemmas.Grind.{common_steps}
use Rattle.market_events.specs.Texts.{line_text}
use Rattle.market_words.proofs.Joining.{joined_more}
use Rattle.market_texts.proofs.writers.write_lines.Goals as goal

pub loop-index-preserved : goal.loop-index-preserved
loop-index-preserved c = grind (arith, common_steps, joined_more 59 line_text c.args.lines.now c.loop-index.index c.index-lines-index.result c.loop-index-test.true)
