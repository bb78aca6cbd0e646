use Rattle.std.proofs.Common.{◌∙◌, [], ◌∷◌, ap, sym, length, vec_len, arith}
use Rattle.market_events.specs.declared.bodies.Body.TheVariants.{Delivered}
use Rattle.market_events.specs.declared.bodies.Item.{Item}
use Rattle.market_events.specs.declared.roles.Role.{Role}
use Rattle.market_events.proofs.NamedCells.Keyed.{if_ok}
use Rattle.market_events.proofs.NamedCells.Touched.{none_touched, one_touched, any_may_change}
use Rattle.order_service.specs.Cells.{name_by}
use Rattle.order_service.proofs.Touches.{touched, delivered_touched, one_covers, none_covers, one_differs, none_differ, one_few, delivered_covers, delivered_few}
use Rattle.order_service.proofs.service.OrdersTabled.touches.Goals as goal

pub returns-in-Delivered-clause-covers : goal.returns-in-Delivered-clause-covers
returns-in-Delivered-clause-covers c =
    delivered_covers c.args.self.now c.args._from c.args.body.now c.as_slice.result.now (c.in-Delivered.is ∙ ap Delivered (sym c.as_slice.ensures)) (λ v. v.items) c.names_of.result c.names_of.ensures.named

pub returns-in-Delivered-clause-few : goal.returns-in-Delivered-clause-few
returns-in-Delivered-clause-few c =
    delivered_few c.args.self.now c.args._from c.args.body.now c.as_slice.result.now (c.in-Delivered.is ∙ ap Delivered (sym c.as_slice.ensures)) (λ v. v.items) c.names_of.result
    vec_len (λ v. v.ok.0) c.requires c.names_of.ensures.few

pub returns-in_default-checkout_in : goal.returns-in_default-checkout_in
returns-in_default-checkout_in c = record {
  covers = none_covers c.args.self.now c.args._from c.args.body.now c.new.result.items (sym c.in_default-checkout_in.ensures) c.in_default.not-Delivered;
  differ = rw c.new.ensures.items none_differ;
  tables = none_touched Role.Order c.args.body.now c.new.result.items c.new.ensures.items;
  few = omega arith;
}

pub returns : goal.returns
returns c = record {
  covers = one_covers c.args.self.now c.args._from c.args.body.now c.in-Some.checkout c.in_ok-vec.field-0.items (sym c.in-Some.ensures)
      (c.in_ok-vec.ensures.items ∙ ap (λ name. name ∷ []) c.in_ok-name.ensures);
  differ = rw c.in_ok-vec.ensures.items (one_differs c.in_ok-name.name);
  tables = one_touched Role.Order c.args.body.now c.in_ok-vec.field-0.items (name_by c.in-Some.checkout)
      (c.in_ok-vec.ensures.items ∙ ap (λ name. name ∷ []) c.in_ok-name.ensures) (touched c.args.body.now c.in-Some.checkout (sym c.in-Some.ensures));
  few = omega (arith, c.in_ok-vec.field-0.ok.0, ap length c.in_ok-vec.ensures.items, one_few c.args.body.now);
}

pub returns-in-Delivered-clause-tables : goal.returns-in-Delivered-clause-tables
returns-in-Delivered-clause-tables c =
    if_ok (λ names named name here.
    any_may_change Role.Order c.args.body.now (λ (i : Item). name_by i.checkout)
    (λ (i : Item). delivered_touched c.args.body.now _ c.in-Delivered.is i.checkout) name c.as_slice.result.now (sym (named name) ∙ here))
    c.names_of.result c.names_of.ensures.named
