-- The entries so far.
use Rattle.std.proofs.Common.{◌≡◌, take}
use Rattle.market_world.proofs.copies.copy_of.Given as goal

abbrev pub invariant-loop-entry : goal.invariant-loop-entry
invariant-loop-entry l = (l.copy.node ≡ l.journal.node) × (l.copy.entries ≡ take l.entry-index l.journal.entries)
