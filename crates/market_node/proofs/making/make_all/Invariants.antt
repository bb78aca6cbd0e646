use Rattle.std.proofs.Common.{length}
use Rattle.market_node.proofs.MakingLaws.{IsMaking}
use Rattle.market_node.proofs.making.make_all.Given as goal

-- what is made so far, and what is left
abbrev pub invariant-loop-link : goal.invariant-loop-link
invariant-loop-link l = IsMaking l.fn.recorder l.fn.outs l.recorder l.outs

abbrev pub decreases-loop-link : goal.decreases-loop-link
decreases-loop-link l = length l.outs
