use Rattle.std.proofs.Common.{rules, ◌≡◌, map, ap, ◌∙◌}
use Rattle.std.specs.Map.{keys_of}
use Rattle.std.specs.Map.Iter.{deref}
use Rattle.std.proofs.lemmas.Map.Iter.{iter_end}
use Rattle.market_events.specs.CellLists.{put_each, key_cell}
use Rattle.market_events.proofs.NamedCells.Keyed.{put_each-all}
use Rattle.order_service.specs.Cells.{name_by, texts_in}
use Rattle.order_service.proofs.cells.put_orders.Goals as goal

pub returns : goal.returns
returns c =
    let table = c.args.orders.now in
    let start : c.into_iter-checkout-iterator.result ≡ keys_of table = search rules in
    let all : map deref c.loop-checkout.yielded ≡ keys_of table
    = (iter_end deref (keys_of table) c.loop-checkout.yielded _ _ _ _ start c.loop-checkout.yielded_by c.in-None.is c.next.ensures.steps).0 in
    c.loop-checkout.invariant ∙ ap (put_each (key_cell name_by (texts_in table)) c.args.cells.now) all
    ∙ put_each-all (key_cell name_by (texts_in table)) c.args.cells.now (keys_of table)
