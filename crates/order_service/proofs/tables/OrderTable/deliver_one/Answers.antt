use Rattle.std.proofs.Common.{rules, ◌≡◌, ◌≤◌, Some, cond, refl, ap, sym, subst, ◌∙◌}
use Rattle.market_events.specs.Requests.{same_id}
use Rattle.order_service.specs.declared.tables.Order.{Order}
use Rattle.order_service.specs.declared.tables.OrderTable.TheInside.{Inside}
use Rattle.order_service.specs.Tables.{order_at, open_in, customer_in, with_item}
use Rattle.order_service.proofs.Written.{written, unwritten}
use Rattle.order_service.proofs.tables.OrderTable.deliver_one.Goals as goal
use Rattle.order_service.proofs.tables.OrderTable.deliver_one.Goals.{in-Some, in_default}

pub after_item-requires : goal.after_item-requires
after_item-requires c = λ same.
    let found : order_at c.args.self.now c.args.item.now.checkout ≡ Some c.in-Some.order.now
    = ap (λ es. order_at es c.args.item.now.checkout) (sym c.self.view_is) ∙ sym c.in-Some.ensures.value in
    subst (λ o. 1 ≤ open_in o) found (c.requires (ap customer_in found ∙ ap Some same))

pub returns : goal.returns
returns c = λ id.
    let was = c.self.inside.orders.entries in
    let checkout = c.args.item.now.checkout in
    let whole = ap (λ es. cond (same_id checkout id) (with_item c.args.item.now.customer (order_at es id)) (order_at es id)) c.self.view_is in
    elim c.match-get_mut.branch [
      | in-Some w ↦
          let now : Order = w.after_item.result in
          let writes = (c.get_mut.follows.holds now).3 (search rules) in
          ap (λ (inside : Inside). order_at inside.orders.entries id) w.self-inside-is
          ∙ written was (c.get_mut.follows.lender now).entries (with_item c.args.item.now.customer) checkout w.in-Some.order.now now w.in-Some.ensures.value w.after_item.ensures writes.0 id ∙ whole
      | in_default w ↦
          let same : c.get_mut.follows.lender-at-none.entries ≡ was = search rules in
          ap (λ (inside : Inside). order_at inside.orders.entries id) w.self-inside-is
          ∙ unwritten was c.get_mut.follows.lender-at-none.entries (with_item c.args.item.now.customer) checkout w.in_default.ensures.value refl (λ id. ap (λ es. order_at es id) same) id ∙ whole
    ]
