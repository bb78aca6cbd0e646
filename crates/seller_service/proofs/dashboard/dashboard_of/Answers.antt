use Rattle.std.proofs.Common.{length, ap, arith}
use Rattle.market_events.proofs.Runs.Dashboards.{in_progress_at-few}
use Rattle.seller_service.proofs.dashboard.dashboard_of.Goals as goal

pub overflow_cast-entries : goal.overflow_cast-entries
overflow_cast-entries c =
    omega (arith, c.len-entries.ensures, c.in_ok-rows.rows.ok.0, ap length c.in_ok-rows.ensures, in_progress_at-few c.args.changes.now, c.requires)
