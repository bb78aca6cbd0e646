use Rattle.std.proofs.Common.{◌≡◌, map}
use Rattle.std.specs.Map.Iter.{deref}
use Rattle.market_events.specs.CellLists.{put_each, key_cell}
use Rattle.market_events.specs.CellNames.{key_name}
use Rattle.cart_replica.specs.CopyCells.{text_in}
use Rattle.cart_replica.proofs.cells.put_looks.Given as goal

abbrev pub invariant-loop-key : goal.invariant-loop-key
invariant-loop-key l = l.cells ≡ put_each (key_cell (key_name l.table) (text_in l.looks.entries)) l.fn.cells (map deref l.yielded)
