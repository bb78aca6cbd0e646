use Rattle.std.proofs.Common.{◌≡◌, replicate}
use Rattle.market_node.specs.Notes.{no_places}
use Rattle.market_node.proofs.lists.Lists.new.Given as goal

-- no place at the slots so far
abbrev pub invariant-loop-slot : goal.invariant-loop-slot
invariant-loop-slot l = l.lists.items ≡ replicate l._slot no_places
