use Rattle.std.proofs.Common.{◌≡◌, map}
use Rattle.std.specs.Map.Iter.{deref}
use Rattle.market_events.specs.CellLists.{put_each, key_cell}
use Rattle.stock_service.specs.Cells.{held_name, held_in}
use Rattle.stock_service.proofs.held_lines.HeldLines.put_cells.Given as goal

abbrev pub invariant-loop-checkout : goal.invariant-loop-checkout
invariant-loop-checkout l = l.cells ≡ put_each (key_cell held_name (held_in l.self)) l.fn.cells (map deref l.yielded)
