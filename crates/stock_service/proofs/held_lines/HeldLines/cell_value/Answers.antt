use Rattle.std.proofs.Common.{◌∙◌}
use Rattle.market_events.proofs.NamedCells.Keyed.{if_ok, none_some}
use Rattle.stock_service.proofs.Values.{held_at, held_nowhere}
use Rattle.stock_service.proofs.held_lines.HeldLines.cell_value.Goals as goal

pub returns-in_default : goal.returns-in_default
returns-in_default c = λ within.
    held_nowhere c.args.self.now within c.args.name.now (λ id formed is. none_some id (c.in_default.ensures.found id formed is))

pub returns : goal.returns
returns c =
    if_ok (λ value told within. told ∙ held_at c.args.self.now within c.args.name.now c.in-Some.checkout c.in-Some.ensures.formed c.in-Some.ensures.named)
    c.text.result c.text.ensures
