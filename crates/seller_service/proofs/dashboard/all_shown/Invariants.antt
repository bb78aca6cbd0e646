use Rattle.std.proofs.Common.{◌≡◌, take, filter_map}
use Rattle.seller_service.specs.Dashboards.{shown_at, status_in_table}
use Rattle.seller_service.proofs.dashboard.all_shown.Given as goal

abbrev pub invariant-loop-change : goal.invariant-loop-change
invariant-loop-change l = l.rows.items ≡ filter_map (shown_at (status_in_table l.statuses)) (take l.change-index l.changes)
