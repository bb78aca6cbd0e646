use Rattle.std.proofs.Common.{◌≡◌}
use Rattle.market_events.specs.CellLists.{entry_cells_of}
use Rattle.market_events.proofs.cell_lists.CellList.into_cells.Given as goal

abbrev pub invariant-loop-name : goal.invariant-loop-name
invariant-loop-name l = l.cells.items ≡ entry_cells_of l.yielded
