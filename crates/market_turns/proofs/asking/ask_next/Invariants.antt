use Rattle.std.proofs.Common.{length}
use Rattle.market_turns.proofs.Passed.{ArePassed}
use Rattle.market_turns.proofs.asking.ask_next.Given as goal

-- the requests so far were passed over
abbrev pub invariant-loop-request : goal.invariant-loop-request
invariant-loop-request l = ArePassed l.fn.core l.fn.queue.items l.core l.queue.items

abbrev pub decreases-loop-request : goal.decreases-loop-request
decreases-loop-request l = length l.queue.items
