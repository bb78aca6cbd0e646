use Rattle.std.proofs.Common.{sym, ap, ◌∙◌}
use Rattle.market_events.specs.Cells.{look_text}
use Rattle.market_events.proofs.NamedCells.Keyed.{if_ok, none_some}
use Rattle.cart_replica.proofs.CopyCells.{look_cells-none, found_is, found_copied}
use Rattle.cart_replica.proofs.replica.ProductCopy.cell_value.Goals as goal

pub returns-in_default-clause-shown : goal.returns-in_default-clause-shown
returns-in_default-clause-shown c = λ key formed is. absurd (none_some key (c.in_default.ensures.found key formed is))

pub returns-in_default-clause-copied : goal.returns-in_default-clause-copied
returns-in_default-clause-copied c = λ changes copied formed.
    sym (look_cells-none c.args.table.now changes formed c.args.name.now (λ key known is. none_some key (c.in_default.ensures.found key known is)))

pub returns-clause-shown : goal.returns-clause-shown
returns-clause-shown c =
    if_ok (λ value e. found_is c.args.self.now c.args.table.now c.args.name.now c.in-Some.key c.in-Some.ensures.formed c.in-Some.ensures.named value
    (e ∙ ap look_text c.look.ensures.value)) c.look_text.result c.look_text.ensures

pub returns-clause-none : goal.returns-clause-none
returns-clause-none c =
    if_ok (λ value e other. absurd (other c.in-Some.key c.in-Some.ensures.formed c.in-Some.ensures.named)) c.look_text.result c.look_text.ensures

pub returns-clause-copied : goal.returns-clause-copied
returns-clause-copied c =
    if_ok (λ value e. found_copied c.args.self.now c.args.table.now c.args.name.now c.in-Some.key c.in-Some.ensures.formed c.in-Some.ensures.named value
    (e ∙ ap look_text c.look.ensures.value)) c.look_text.result c.look_text.ensures
