use Rattle.std.proofs.Common.{Some, cond, ap, ap₂, ◌∙◌}
use Rattle.std.specs.Ordering.{is_eq}
use Rattle.market_events.specs.Sellers.{SellerChange}
use Rattle.seller_service.specs.Dashboards.{id_at, entry_cmp, status_in_table}
use Rattle.seller_service.proofs.Dashboards.{status_at-next}
use Rattle.seller_service.proofs.statuses.Statuses.of.Goals as goal

pub loop-change-preserved : goal.loop-change-preserved
loop-change-preserved c = λ entry.
    status_at-next c.args.changes.now c.loop-change.change-index c.change-item.result c.loop-change-test.true c.change-item.is entry
    (status_in_table c.loop-change.by_entry.entries (id_at entry)) (status_in_table c.insert.new.self.entries (id_at entry)) (c.loop-change.invariant entry)
    (c.in_ok-insert.ensures.updates.0 (id_at entry)
    ∙ ap₂ (λ id status. cond (is_eq (entry_cmp id (id_at entry))) (Some status) (status_in_table c.loop-change.by_entry.entries (id_at entry))) c.id_of.ensures (ap (λ (x : SellerChange). x.status) c.change.view_is))
