use Rattle.std.proofs.Common.{◌++◌, ap, sym, ◌∙◌, append-nil}
use Rattle.std.specs.Option.{option_to_list}
use Rattle.seller_service.specs.Dashboards.{shown_at, status_in_table}
use Rattle.seller_service.proofs.Lists.{filter_map-push}
use Rattle.seller_service.proofs.dashboard.all_shown.Goals as goal
use Rattle.seller_service.proofs.dashboard.all_shown.Goals.{in-Some+in_ok-push, in_default}

pub loop-change-preserved : goal.loop-change-preserved
loop-change-preserved c =
    elim c.match-shown.branch [
      | in-Some+in_ok-push w ↦
          filter_map-push (shown_at (status_in_table c.args.statuses.now)) c.args.changes.now c.loop-change.change-index c.change-item.result c.loop-change.rows.items c.match-shown.rows.items c.shown.result
          c.loop-change-test.true c.loop-change.invariant (c.shown.ensures ∙ ap (shown_at (status_in_table c.args.statuses.now)) c.change-item.is)
          (ap (λ v. v.items) w.rows-is ∙ w.in_ok-push.ensures.items ∙ ap (λ o. c.loop-change.rows.items ++ option_to_list o) (sym w.in-Some.is))
      | in_default w ↦
          filter_map-push (shown_at (status_in_table c.args.statuses.now)) c.args.changes.now c.loop-change.change-index c.change-item.result c.loop-change.rows.items c.match-shown.rows.items c.shown.result
          c.loop-change-test.true c.loop-change.invariant (c.shown.ensures ∙ ap (shown_at (status_in_table c.args.statuses.now)) c.change-item.is)
          (ap (λ v. v.items) w.rows-is ∙ sym (append-nil c.loop-change.rows.items) ∙ ap (λ o. c.loop-change.rows.items ++ option_to_list o) (sym w.in_default.is))
    ]
