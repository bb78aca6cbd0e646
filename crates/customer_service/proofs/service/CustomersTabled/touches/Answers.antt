use Rattle.std.proofs.Common.{◌∙◌, [], ◌∷◌, ap, sym, vec_len, arith}
use Rattle.market_events.specs.declared.bodies.Body.TheVariants.{Delivered}
use Rattle.market_events.specs.declared.bodies.Item.{Item}
use Rattle.market_events.specs.declared.roles.Role.{Role}
use Rattle.market_events.specs.Standing.{may_change}
use Rattle.market_events.proofs.NamedCells.Keyed.{if_ok}
use Rattle.market_events.proofs.NamedCells.Touched.{none_touched, one_touched, any_may_change}
use Rattle.customer_service.specs.Cells.{name_by}
use Rattle.customer_service.proofs.Touches.{paying, paying_touched, no_customers, one_covers, none_covers, one_differs, none_differ, delivered_covers, delivered_few}
use Rattle.customer_service.proofs.service.CustomersTabled.touches.Goals as goal

pub returns-in_default : goal.returns-in_default
returns-in_default c = record {
  covers = none_covers c.args.self.now c.args._from c.args.body.now c.new.result.items
      (no_customers c.args.body.now c.in_default.not-Confirmed c.in_default.not-Failed c.in_default.not-Delivered);
  differ = rw c.new.ensures.items none_differ;
  tables = none_touched Role.Customer c.args.body.now c.new.result.items c.new.ensures.items;
  few = omega arith;
}

pub returns-in_ok-vec-in-Confirmed-clause-covers : goal.returns-in_ok-vec-in-Confirmed-clause-covers
returns-in_ok-vec-in-Confirmed-clause-covers c =
    one_covers c.args.self.now c.args._from c.args.body.now c.in-Confirmed.customer _ (paying c.args.body.now c.in-Confirmed.customer c.in-Confirmed.is)
    (c.in_ok-vec-in-Confirmed.ensures.items ∙ ap (λ name. name ∷ []) c.in_ok-name-in-Confirmed.ensures)

pub returns-in_ok-vec-in-Confirmed-clause-differ : goal.returns-in_ok-vec-in-Confirmed-clause-differ
returns-in_ok-vec-in-Confirmed-clause-differ c = rw c.in_ok-vec-in-Confirmed.ensures.items (one_differs _)

pub returns-in-Delivered-clause-covers : goal.returns-in-Delivered-clause-covers
returns-in-Delivered-clause-covers c =
    delivered_covers c.args.self.now c.args._from c.args.body.now c.as_slice.result.now (c.in-Delivered.is ∙ ap Delivered (sym c.as_slice.ensures)) (λ v. v.items) c.names_of.result c.names_of.ensures.named

pub returns-in-Delivered-clause-few : goal.returns-in-Delivered-clause-few
returns-in-Delivered-clause-few c =
    delivered_few c.args.self.now c.args._from c.args.body.now c.as_slice.result.now (c.in-Delivered.is ∙ ap Delivered (sym c.as_slice.ensures)) (λ v. v.items) c.names_of.result
    vec_len (λ v. v.ok.0) c.requires c.names_of.ensures.few

pub returns-in_ok-vec-in-Confirmed-clause-tables : goal.returns-in_ok-vec-in-Confirmed-clause-tables
returns-in_ok-vec-in-Confirmed-clause-tables c =
    one_touched Role.Customer c.args.body.now _ (name_by c.in-Confirmed.customer)
    (c.in_ok-vec-in-Confirmed.ensures.items ∙ ap (λ name. name ∷ []) c.in_ok-name-in-Confirmed.ensures)
    (paying_touched c.args.body.now c.in-Confirmed.customer c.in-Confirmed.is)

pub returns-in-Delivered-clause-tables : goal.returns-in-Delivered-clause-tables
returns-in-Delivered-clause-tables c =
    if_ok (λ names named name here.
    any_may_change Role.Customer c.args.body.now (λ (i : Item). name_by i.customer)
    (λ (i : Item). ap (λ x. may_change Role.Customer x (name_by i.customer)) c.in-Delivered.is) name c.as_slice.result.now (sym (named name) ∙ here))
    c.names_of.result c.names_of.ensures.named
