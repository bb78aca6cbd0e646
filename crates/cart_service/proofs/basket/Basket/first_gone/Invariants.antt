use Rattle.std.proofs.Common.{◌≡◌, not, find, map, None}
use Rattle.std.specs.Map.Iter.{deref}
use Rattle.market_events.specs.Looks.{is_live}
use Rattle.cart_replica.specs.Copy.{look_at}
use Rattle.cart_service.proofs.basket.Basket.first_gone.Given as goal

abbrev pub invariant-loop-key : goal.invariant-loop-key
invariant-loop-key l = find (λ key. not (is_live (look_at l.copy key))) (map deref l.yielded) ≡ None
