use Rattle.std.proofs.Common.{◌≡◌, map}
use Rattle.std.specs.Map.Iter.{deref}
use Rattle.market_events.specs.CellLists.{put_each, key_cell}
use Rattle.stock_service.specs.Cells.{level_name, levels_in}
use Rattle.stock_service.proofs.levels.Levels.put_cells.Given as goal

abbrev pub invariant-loop-key : goal.invariant-loop-key
invariant-loop-key l = l.cells ≡ put_each (key_cell level_name (levels_in l.self)) l.fn.cells (map deref l.yielded)
