use Rattle.std.proofs.Common.{◌≡◌, map, filter_map}
use Rattle.std.specs.Map.Iter.{deref_pair}
use Rattle.market_events.specs.Carts.{priced}
use Rattle.cart_replica.specs.Copy.{look_at}
use Rattle.cart_service.proofs.basket.Basket.priced.Given as goal

abbrev pub invariant-loop-key : goal.invariant-loop-key
invariant-loop-key l = l.lines.items ≡ filter_map (priced (look_at l.copy)) (map deref_pair l.yielded)
