use Rattle.std.proofs.Common.{◌≡◌, map}
use Rattle.std.specs.Map.Iter.{deref}
use Rattle.market_events.specs.CellNames.{basket_name}
use Rattle.cart_service.specs.Cells.{basket_table}
use Rattle.cart_service.proofs.basket.Basket.names.Given as goal

abbrev pub invariant-loop-key : goal.invariant-loop-key
invariant-loop-key l = l.names.items ≡ map (basket_name basket_table) (map (λ key. (l.customer, key)) (map deref l.yielded))
