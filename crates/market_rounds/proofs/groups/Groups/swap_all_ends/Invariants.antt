use Rattle.market_rounds.proofs.Swapped.{AreSwappedBelow}
use Rattle.market_rounds.proofs.groups.Groups.swap_all_ends.Given as goal

-- the ends of the nodes so far are exchanged
abbrev pub invariant-loop-number : goal.invariant-loop-number
invariant-loop-number l = AreSwappedBelow l.fn.self l.fn.all l.self l.all l.number
