use Rattle.std.proofs.Common.{ap, arith, ◌∙◌}
use Rattle.cart_service.specs.Tables.{CartTables}
use Rattle.market_events.proofs.NamedCells.Keyed.{if_ok}
use Rattle.cart_service.specs.Cells.{names_touched}
use Rattle.cart_service.proofs.Touches.{covers, tables, differ, few}
use Rattle.cart_service.proofs.service.CartsTabled.touches.Goals as goal

pub returns-clause-covers : goal.returns-clause-covers
returns-clause-covers c =
    if_ok (λ names are.
    covers c.args.self.now c.args._from c.args.body.now names.items (are ∙ ap (λ (kept : CartTables). names_touched kept.baskets c.args.body.now) c.self.view_is))
    c.touched_names.result c.touched_names.ensures

pub returns-clause-tables : goal.returns-clause-tables
returns-clause-tables c =
    if_ok (λ names are.
    tables c.args.self.now c.args._from c.args.body.now names.items (are ∙ ap (λ (kept : CartTables). names_touched kept.baskets c.args.body.now) c.self.view_is))
    c.touched_names.result c.touched_names.ensures

pub returns-clause-differ : goal.returns-clause-differ
returns-clause-differ c =
    if_ok (λ names are.
    differ c.args.self.now c.args._from c.args.body.now names.items (are ∙ ap (λ (kept : CartTables). names_touched kept.baskets c.args.body.now) c.self.view_is) c.requires)
    c.touched_names.result c.touched_names.ensures

pub returns-clause-few : goal.returns-clause-few
returns-clause-few c =
    if_ok (λ names are.
    omega (
      arith,
      names.ok.0,
      few c.args.self.now c.args._from c.args.body.now names.items (are ∙ ap (λ (kept : CartTables). names_touched kept.baskets c.args.body.now) c.self.view_is) c.requires,
    ))
    c.touched_names.result c.touched_names.ensures
