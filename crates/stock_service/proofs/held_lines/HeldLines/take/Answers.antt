use Rattle.std.proofs.Common.{None, if◌then◌else◌, ap, ◌∙◌}
use Rattle.market_events.specs.Requests.{same_id}
use Rattle.stock_service.specs.Tables.{lines_at}
use Rattle.stock_service.proofs.Tables.{lines_set}
use Rattle.stock_service.proofs.held_lines.HeldLines.take.Goals as goal

pub returns-clause-left : goal.returns-clause-left
returns-clause-left c = λ id.
    lines_set c.self.inside.lines.entries c.remove.new.self.entries c.args.checkout None c.remove.ensures.updates.0 id
    ∙ ap (λ held. if same_id c.args.checkout id then None else lines_at held id) c.self.view_is
