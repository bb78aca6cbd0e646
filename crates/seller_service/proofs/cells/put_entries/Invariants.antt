use Rattle.std.proofs.Common.{◌≡◌, take}
use Rattle.market_events.specs.CellLists.{put_all}
use Rattle.seller_service.specs.Cells.{cells_of_entries}
use Rattle.seller_service.proofs.cells.put_entries.Given as goal

abbrev pub invariant-loop-index : goal.invariant-loop-index
invariant-loop-index l = l.cells ≡ put_all l.fn.cells (cells_of_entries l.seller (take l.index l.entries))
