use Rattle.market_events.proofs.NamedCells.Keyed.{if_ok, none_some}
use Rattle.seller_service.proofs.Values.{found_at, found_none}
use Rattle.seller_service.proofs.cells.value_named.Goals as goal

pub returns-in_default : goal.returns-in_default
returns-in_default c = found_none c.args.ledgers.now c.args.name.now (λ p small is. none_some p (c.in_default.ensures.found p small is))

pub returns : goal.returns
returns c =
    if_ok (λ value e. found_at c.args.ledgers.now c.args.name.now c.in-Some.place c.in-Some.ensures.formed c.in-Some.ensures.named value e)
    c.text_of.result c.text_of.ensures
