use Rattle.std.proofs.Common.{◌≡◌, [], replicate}
use Rattle.market_rounds.proofs.fated.empty_lists.Given as goal

-- no fates at the slots so far
abbrev pub invariant-loop-slot : goal.invariant-loop-slot
invariant-loop-slot l = l.lists.items ≡ replicate l._slot []
