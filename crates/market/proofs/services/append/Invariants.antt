use Rattle.std.proofs.Common.{◌≡◌, ◌++◌, length}
use Rattle.market.proofs.services.append.Given as goal

-- what is left stands behind what waits
abbrev pub invariant-loop-link : goal.invariant-loop-link
invariant-loop-link l = l.waiting.items ++ l.made ≡ l.fn.waiting.items ++ l.fn.made

abbrev pub decreases-loop-link : goal.decreases-loop-link
decreases-loop-link l = length l.made
