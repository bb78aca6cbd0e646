use Rattle.std.proofs.Common.{◌≡◌, take}
use Rattle.market_events.specs.Sellers.{SellerChange, status_at}
use Rattle.seller_service.specs.Dashboards.{id_at, status_in_table}
use Rattle.seller_service.proofs.statuses.Statuses.of.Given as goal

abbrev pub invariant-loop-change : goal.invariant-loop-change
invariant-loop-change l = (entry : SellerChange) → status_in_table l.by_entry.entries (id_at entry) ≡ status_at (take l.change-index l.changes) entry
