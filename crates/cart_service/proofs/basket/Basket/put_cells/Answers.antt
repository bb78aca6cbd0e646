use Rattle.std.proofs.Common.{rules, ◌≡◌, map, ap, ◌∙◌}
use Rattle.std.specs.Map.{keys_of}
use Rattle.std.specs.Map.Iter.{deref}
use Rattle.std.proofs.lemmas.Map.Iter.{iter_end}
use Rattle.market_events.specs.CellLists.{put_each, key_cell}
use Rattle.market_events.specs.CellNames.{basket_name}
use Rattle.market_events.proofs.NamedCells.Keyed.{put_each-all}
use Rattle.cart_service.specs.Cells.{basket_table, keys_in, held_line_text}
use Rattle.cart_service.proofs.basket.Basket.put_cells.Goals as goal

pub returns : goal.returns
returns c =
    let all : map deref c.loop-key.yielded ≡ keys_of c.self.inside.lines.entries = search (rules, iter_end) in
    c.loop-key.invariant
    ∙ ap (λ keys. put_each (key_cell (basket_name basket_table) (held_line_text c.args.self.now)) c.args.cells.now (map (λ key. (c.args.customer, key)) keys)) all
    ∙ ap (λ lines. put_each (key_cell (basket_name basket_table) (held_line_text c.args.self.now)) c.args.cells.now (keys_in c.args.customer lines)) c.self.view_is
    ∙ put_each-all (key_cell (basket_name basket_table) (held_line_text c.args.self.now)) c.args.cells.now (keys_in c.args.customer c.args.self.now)
