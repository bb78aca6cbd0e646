use Rattle.std.proofs.Common.{◌∙◌}
use Rattle.market_events.proofs.NamedCells.Keyed.{if_ok}
use Rattle.seller_service.proofs.Dashboards.{shown_all}
use Rattle.seller_service.proofs.dashboard.in_progress.Goals as goal
use Rattle.seller_service.specs.Dashboards.{status_in_table}

pub returns : goal.returns
returns c =
    if_ok (λ rows e. e ∙ shown_all (status_in_table c.in_ok-statuses.statuses) c.args.changes.now c.in_ok-statuses.ensures)
    c.all_shown.result c.all_shown.ensures
