use Rattle.market_events.proofs.NamedCells.Keyed.{if_ok, none_some}
use Rattle.order_service.proofs.Values.{found_at, found_none}
use Rattle.order_service.proofs.cells.value_named.Goals as goal

pub returns-in_default : goal.returns-in_default
returns-in_default c =
    found_none c.args.orders.now c.args.name.now (λ id formed is. none_some id (c.in_default.ensures.found id formed is))

pub returns : goal.returns
returns c =
    if_ok (λ value e. found_at c.args.orders.now c.args.name.now c.in-Some.checkout c.in-Some.ensures.formed c.in-Some.ensures.named value e)
    c.text_at.result c.text_at.ensures
