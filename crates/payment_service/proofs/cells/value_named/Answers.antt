use Rattle.std.proofs.Common.{ap, ◌∙◌, arith}
use Rattle.market_events.specs.WellFormed.{IsId}
use Rattle.market_events.proofs.NamedCells.Keyed.{if_ok, none_some}
use Rattle.payment_service.specs.Cells.{text_by}
use Rattle.payment_service.proofs.Values.{found_at, found_none}
use Rattle.payment_service.proofs.cells.value_named.Goals as goal

pub returns-in_default : goal.returns-in_default
returns-in_default c =
    found_none c.args.accounts.now c.args.name.now (λ customer small is. none_some customer (c.in_default.ensures.found customer (omega arith) is))

pub returns : goal.returns
returns c =
    let small : IsId c.in-Some.customer = omega arith in
    if_ok (λ value e. found_at c.args.accounts.now c.args.name.now c.in-Some.customer small c.in-Some.ensures.named value (e ∙ ap text_by c.get.ensures))
    c.text_of.result c.text_of.ensures
