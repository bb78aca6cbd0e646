use Rattle.std.proofs.Common.{◌||◌, if◌then◌else◌, ap, ◌∙◌}
use Rattle.market_events.specs.Requests.{same_key}
use Rattle.stock_service.specs.Tables.{amounts_at, has_at}
use Rattle.stock_service.proofs.Tables.{amounts_set, has_set}
use Rattle.stock_service.proofs.levels.Levels.set.Goals as goal

pub returns-clause-each : goal.returns-clause-each
returns-clause-each c = λ k.
    amounts_set c.self.inside.levels.entries c.insert.new.self.entries c.args.key c.args.level c.in_ok-insert.ensures.updates.0 k
    ∙ ap (λ levels. if same_key c.args.key k then c.args.level else amounts_at levels k) c.self.view_is

pub returns-clause-there : goal.returns-clause-there
returns-clause-there c = λ k.
    has_set c.self.inside.levels.entries c.insert.new.self.entries c.args.key c.args.level c.in_ok-insert.ensures.updates.0 k
    ∙ ap (λ levels. has_at levels k || same_key c.args.key k) c.self.view_is
