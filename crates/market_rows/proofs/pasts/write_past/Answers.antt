use Rattle.std.proofs.Common.{arith}
use Rattle.std.specs.Fmt.{decimal}
use Rattle.std.proofs.lemmas.Grind.{common_steps}
use Rattle.market_words.proofs.Joining.{joined_more}
use Rattle.market_rows.proofs.pasts.write_past.Goals as goal

pub loop-link-preserved : goal.loop-link-preserved
loop-link-preserved c = grind (arith, common_steps, joined_more 32 decimal c.args.past.now c.loop-link.link 0 (omega arith))
