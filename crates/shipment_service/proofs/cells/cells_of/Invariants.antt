use Rattle.std.proofs.Common.{◌≡◌, [], take}
use Rattle.market_events.specs.CellLists.{put_all}
use Rattle.shipment_service.specs.Cells.{table_cells}
use Rattle.shipment_service.proofs.cells.cells_of.Given as goal

abbrev pub invariant-loop-index : goal.invariant-loop-index
invariant-loop-index l = l.cells ≡ put_all [] (table_cells (take l.index l.packages))
