use Rattle.std.proofs.Common.{Some, cond, ap, ◌∙◌}
use Rattle.market_events.specs.Requests.{same_id}
use Rattle.market_events.proofs.Values.Keys.{eq_by_id_cmp}
use Rattle.order_service.specs.Tables.{order_at}
use Rattle.order_service.proofs.tables.OrderTable.set.Goals as goal

pub returns-clause-ok : goal.returns-clause-ok
returns-clause-ok c = λ id.
    c.in_ok-insert.ensures.updates.0 id
    ∙ ap (λ b. cond b (Some c.args.order) (order_at c.self.inside.orders.entries id)) (eq_by_id_cmp c.args.checkout id)
    ∙ ap (λ es. cond (same_id c.args.checkout id) (Some c.args.order) (order_at es id)) c.self.view_is
