use Rattle.std.proofs.Common.{rules, ◌≡◌, cond, refl, ap, ◌∙◌}
use Rattle.market_events.specs.Requests.{same_id}
use Rattle.order_service.specs.declared.tables.Order.{Order}
use Rattle.order_service.specs.declared.tables.OrderTable.TheInside.{Inside}
use Rattle.order_service.specs.Tables.{order_at, with_status}
use Rattle.order_service.proofs.Written.{written, unwritten}
use Rattle.order_service.proofs.tables.OrderTable.mark.Goals as goal
use Rattle.order_service.proofs.tables.OrderTable.mark.Goals.{in-Some, in_default}

pub returns : goal.returns
returns c = λ id.
    let was = c.self.inside.orders.entries in
    let checkout = c.args.checkout in
    let whole = ap (λ es. cond (same_id checkout id) (with_status c.args.status (order_at es id)) (order_at es id)) c.self.view_is in
    elim c.match-get_mut.branch [
      | in-Some w ↦
          let now : Order = record w.in-Some.order.now { status = c.args.status } in
          let writes = (c.get_mut.follows.holds now).3 (search rules) in
          ap (λ (inside : Inside). order_at inside.orders.entries id) w.self-inside-is
          ∙ written was (c.get_mut.follows.lender now).entries (with_status c.args.status) checkout w.in-Some.order.now now w.in-Some.ensures.value refl writes.0 id ∙ whole
      | in_default w ↦
          let same : c.get_mut.follows.lender-at-none.entries ≡ was = search rules in
          ap (λ (inside : Inside). order_at inside.orders.entries id) w.self-inside-is
          ∙ unwritten was c.get_mut.follows.lender-at-none.entries (with_status c.args.status) checkout w.in_default.ensures.value refl (λ id. ap (λ es. order_at es id) same) id ∙ whole
    ]
