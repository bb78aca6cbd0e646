use Rattle.std.proofs.Common.{◌≡◌, map}
use Rattle.std.specs.List.{flat_map}
use Rattle.std.specs.Map.Iter.{deref}
use Rattle.market_events.specs.CellLists.{put_all}
use Rattle.cart_service.specs.Cells.{lines_cells}
use Rattle.cart_service.specs.Tables.{lines_at}
use Rattle.cart_service.proofs.baskets.Baskets.put_cells.Given as goal

abbrev pub invariant-loop-customer : goal.invariant-loop-customer
invariant-loop-customer l = l.cells ≡ put_all l.fn.cells (flat_map (λ c. lines_cells c (lines_at l.self c)) (map deref l.yielded))
