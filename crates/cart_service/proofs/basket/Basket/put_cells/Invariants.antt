use Rattle.std.proofs.Common.{◌≡◌, map}
use Rattle.std.specs.Map.Iter.{deref}
use Rattle.market_events.specs.CellLists.{put_each, key_cell}
use Rattle.market_events.specs.CellNames.{basket_name}
use Rattle.cart_service.specs.Cells.{basket_table, held_line_text}
use Rattle.cart_service.proofs.basket.Basket.put_cells.Given as goal

abbrev pub invariant-loop-key : goal.invariant-loop-key
invariant-loop-key l =
    l.cells ≡ put_each (key_cell (basket_name basket_table) (held_line_text l.self)) l.fn.cells (map (λ key. (l.customer, key)) (map deref l.yielded))
