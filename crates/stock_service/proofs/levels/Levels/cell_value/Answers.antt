use Rattle.std.proofs.Common.{◌∙◌}
use Rattle.market_events.proofs.NamedCells.Keyed.{if_ok, none_some}
use Rattle.stock_service.proofs.Values.{level_at, level_nowhere}
use Rattle.stock_service.proofs.levels.Levels.cell_value.Goals as goal

pub returns-in_default : goal.returns-in_default
returns-in_default c = λ within.
    level_nowhere c.args.self.now within c.args.name.now (λ key formed is. none_some key (c.in_default.ensures.found key formed is))

pub returns : goal.returns
returns c =
    if_ok (λ value told within. told ∙ level_at c.args.self.now within c.args.name.now c.in-Some.key c.in-Some.ensures.formed c.in-Some.ensures.named)
    c.text.result c.text.ensures
