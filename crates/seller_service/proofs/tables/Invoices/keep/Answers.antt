use Rattle.std.proofs.Common.{cond, Some, ◌∙◌}
use Rattle.std.specs.BTreeMap.{is_at}
use Rattle.std.specs.Map.{lookup}
use Rattle.std.specs.Ordering.{is_eq}
use Rattle.market_events.specs.Steps.{id_cmp}
use Rattle.seller_service.proofs.Steps.{lines_put}
use Rattle.seller_service.proofs.tables.Invoices.keep.Goals as goal

pub returns-clause-ok : goal.returns-clause-ok
returns-clause-ok c = λ id.
    lines_put c.args.self.now c.insert.new.self.entries c.args.body.now c.in-Invoice.checkout c.in-Invoice.field-1 c.in-Invoice.lines c.in-Invoice.field-3 c.in-Invoice.is id
    (c.in_ok-insert.ensures.updates.0 id
    ∙ (λ i. cond (is_eq (id_cmp c.in-Invoice.checkout id)) (Some (c.in_ok-lines.ensures i)) (lookup (is_at (id_cmp id)) (c.self.view_is i))))
