use Rattle.std.proofs.Common.{◌≡◌, ◌≤◌, take, length}
use Rattle.market_events.specs.Sellers.{entries_at}
use Rattle.seller_service.proofs.cells.entry_count.Given as goal

abbrev pub invariant-loop-change : goal.invariant-loop-change
invariant-loop-change l = record {
  value : l.count ≡ length (entries_at (take l.change-index l.changes));
  within : l.count ≤ l.change-index;
}
