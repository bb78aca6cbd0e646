use Rattle.std.proofs.Common.{rules, ◌≡◌, map, ap, ◌∙◌}
use Rattle.std.specs.Map.{keys_of}
use Rattle.std.specs.Map.Iter.{deref}
use Rattle.std.proofs.lemmas.Map.Iter.{iter_end}
use Rattle.market_events.specs.CellNames.{basket_name}
use Rattle.cart_service.specs.Cells.{basket_table, names_in}
use Rattle.cart_service.proofs.basket.Basket.names.Goals as goal

pub returns : goal.returns
returns c =
    let all : map deref c.loop-key.yielded ≡ keys_of c.self.inside.lines.entries = search (rules, iter_end) in
    c.loop-key.invariant ∙ ap (λ keys. map (basket_name basket_table) (map (λ key. (c.args.customer, key)) keys)) all ∙ ap (names_in c.args.customer) c.self.view_is
