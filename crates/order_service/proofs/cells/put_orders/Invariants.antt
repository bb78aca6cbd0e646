use Rattle.std.proofs.Common.{◌≡◌, map}
use Rattle.std.specs.Map.Iter.{deref}
use Rattle.market_events.specs.CellLists.{put_each, key_cell}
use Rattle.order_service.specs.Cells.{name_by, texts_in}
use Rattle.order_service.proofs.cells.put_orders.Given as goal

abbrev pub invariant-loop-checkout : goal.invariant-loop-checkout
invariant-loop-checkout l = l.cells ≡ put_each (key_cell name_by (texts_in l.orders)) l.fn.cells (map deref l.yielded)
