use Rattle.std.proofs.Common.{Some, ap}
use Rattle.market_events.proofs.NamedCells.Keyed.{none_some}
use Rattle.seller_service.proofs.Places.{unplaced, placed_entry, placed_change}
use Rattle.seller_service.proofs.cells.place_named.Goals as goal

pub returns-in-Some-clause-found : goal.returns-in-Some-clause-found
returns-in-Some-clause-found c = λ p small is. ap Some (placed_entry c.args.name.now c.in-Some.key c.in-Some.ensures.formed c.in-Some.ensures.named p small is)

pub returns-in_err-key-clause-found : goal.returns-in_err-key-clause-found
returns-in_err-key-clause-found c = λ p small is.
    absurd (unplaced c.args.name.now (λ key formed e. none_some key (c.in_default.ensures.found key formed e)) (λ key formed e. none_some key (c.in_err-key.ensures.found key formed e)) p small is)

pub returns-clause-found : goal.returns-clause-found
returns-clause-found c = λ p small is. ap Some (placed_change c.args.name.now c.in_ok-key.key c.in_ok-key.ensures.formed c.in_ok-key.ensures.named p small is)
