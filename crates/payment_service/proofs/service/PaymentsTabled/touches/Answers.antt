use Rattle.std.proofs.Common.{[], ◌∷◌, map, ap, sym, ◌∙◌}
use Rattle.std.specs.List.{cons_option}
use Rattle.market_events.specs.declared.roles.Role.{Role}
use Rattle.market_events.proofs.NamedCells.Touched.{none_touched, one_touched}
use Rattle.payment_service.specs.Cells.{name_by}
use Rattle.payment_service.proofs.Touches.{covers, one_distinct, none_distinct, touched}
use Rattle.payment_service.proofs.service.PaymentsTabled.touches.Goals as goal

pub returns-in_default-clause-covers : goal.returns-in_default-clause-covers
returns-in_default-clause-covers c =
    covers c.args.self.now c.args._from c.args.body.now c.new.result.items (c.new.ensures.items ∙ ap (λ o. map name_by (cons_option o [])) c.in_default.ensures)

pub returns-in_default-clause-differ : goal.returns-in_default-clause-differ
returns-in_default-clause-differ c = rw c.new.ensures.items none_distinct

pub returns-clause-covers : goal.returns-clause-covers
returns-clause-covers c =
    covers c.args.self.now c.args._from c.args.body.now c.in_ok-vec.field-0.items
    (c.in_ok-vec.ensures.items ∙ ap (λ name. name ∷ []) c.in_ok-name.ensures ∙ ap (λ o. map name_by (cons_option o [])) c.in-Some.ensures)

pub returns-clause-differ : goal.returns-clause-differ
returns-clause-differ c = rw c.in_ok-vec.ensures.items (one_distinct c.in_ok-name.name)

pub returns-in_default-clause-tables : goal.returns-in_default-clause-tables
returns-in_default-clause-tables c = none_touched Role.Payment c.args.body.now c.new.result.items c.new.ensures.items

pub returns-clause-tables : goal.returns-clause-tables
returns-clause-tables c =
    one_touched Role.Payment c.args.body.now c.in_ok-vec.field-0.items (name_by c.in-Some.customer)
    (c.in_ok-vec.ensures.items ∙ ap (λ name. name ∷ []) c.in_ok-name.ensures) (touched c.args.body.now c.in-Some.customer (sym c.in-Some.ensures))
