use Rattle.std.proofs.Common.{◌≡◌, None}
use Rattle.market_rings.specs.NodeEnds.{counts_taken}
use Rattle.market_turns.proofs.Noting.{AreNotedBelow}
use Rattle.market_turns.proofs.Slots.{changed_below}
use Rattle.market_turns.proofs.counting.note_counts.Given as goal

-- what waited at the slots so far was popped and noted
abbrev pub invariant-loop-slot : goal.invariant-loop-slot
invariant-loop-slot g l =
    (l.ends ≡ record l.fn.ends { outs = changed_below counts_taken None l.fn.ends.outs l.slot })
    × AreNotedBelow (g.C.Core.state l.fn.core) l.fn.ends (g.C.Core.state l.core) l.slot
