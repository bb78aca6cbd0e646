use Rattle.std.proofs.Common.{Some, if◌then◌else◌, ap, ◌∙◌}
use Rattle.market_events.specs.Requests.{same_id}
use Rattle.stock_service.specs.Tables.{lines_at}
use Rattle.stock_service.proofs.Tables.{lines_set}
use Rattle.stock_service.proofs.held_lines.HeldLines.keep.Goals as goal

pub returns-clause-kept : goal.returns-clause-kept
returns-clause-kept c = λ id.
    lines_set c.self.inside.lines.entries c.insert.new.self.entries c.args.checkout (Some c.args.lines) c.in_ok-insert.ensures.updates.0 id
    ∙ ap (λ held. if same_id c.args.checkout id then Some c.args.lines else lines_at held id) c.self.view_is
