use Rattle.std.proofs.Common.{◌≡◌, take}
use Rattle.market_events.specs.CellLists.{put_all}
use Rattle.seller_service.specs.Cells.{cells_of_changes}
use Rattle.seller_service.proofs.cells.put_changes.Given as goal

abbrev pub invariant-loop-index : goal.invariant-loop-index
invariant-loop-index l = l.cells ≡ put_all l.fn.cells (cells_of_changes l.seller l.entries (take l.index l.changes))
