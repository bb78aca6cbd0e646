use Rattle.std.proofs.Common.{◌≡◌, replicate}
use Rattle.market_rings.specs.NodeEnds.{no_ends}
use Rattle.market_rings.proofs.wiring.without_ends.Given as goal

-- no ends at the nodes so far
abbrev pub invariant-loop-node : goal.invariant-loop-node
invariant-loop-node l = l.all.items ≡ replicate l._node no_ends
