use Rattle.std.proofs.Common.{◌∙◌, true, arith}
use Rattle.std.proofs.lemmas.Bool.Decides.{nat_tests}
use Rattle.market_texts.proofs.Ruled.{may_follow}
use Rattle.market_texts.proofs.lists.may_follow.Goals as goal

pub returns-then-lines-lt-MOST_LINES : goal.returns-then-lines-lt-MOST_LINES
returns-then-lines-lt-MOST_LINES c =
    c.is_above.ensures ∙ may_follow c.args.lines.now c.args.line.now true c.requires (grind (arith, nat_tests))
