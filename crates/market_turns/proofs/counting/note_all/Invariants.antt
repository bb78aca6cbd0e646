use Rattle.std.proofs.Common.{◌≡◌, drop}
use Rattle.market_turns.specs.Turns.{with_counts_back}
use Rattle.market_turns.proofs.counting.note_all.Given as goal

-- with the counts that are left it is what is wanted
abbrev pub invariant-loop-count : goal.invariant-loop-count
invariant-loop-count g l =
    ((g.C.Core.state l.core).node ≡ (g.C.Core.state l.fn.core).node)
    × (with_counts_back (g.C.Core.state l.core) l.link (drop l.count-index l.counts) ≡ with_counts_back (g.C.Core.state l.fn.core) l.link l.counts)
