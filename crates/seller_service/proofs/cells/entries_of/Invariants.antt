use Rattle.std.proofs.Common.{◌≡◌, take}
use Rattle.market_events.specs.Sellers.{entries_at}
use Rattle.seller_service.proofs.cells.entries_of.Given as goal

abbrev pub invariant-loop-change : goal.invariant-loop-change
invariant-loop-change l = l.entries.items ≡ entries_at (take l.change-index l.changes)
