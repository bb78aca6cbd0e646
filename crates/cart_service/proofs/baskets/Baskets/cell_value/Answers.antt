use Rattle.std.proofs.Common.{rules, ◌<◌, ◌^◌, ap, ◌∙◌}
use Rattle.market_events.specs.Cells.{held_text}
use Rattle.market_events.proofs.NamedCells.Keyed.{if_ok, none_some}
use Rattle.cart_service.proofs.Values.{line_at, line_nowhere}
use Rattle.cart_service.proofs.baskets.Baskets.cell_value.Goals as goal

pub returns-in_default : goal.returns-in_default
returns-in_default c = λ small.
    line_nowhere c.args.self.now small c.args.name.now (λ line few formed is. none_some line (c.in_default.ensures.found line few formed is))

pub returns : goal.returns
returns c =
    let few : c.in-Some.customer < 2 ^ 32 = search rules in
    if_ok (λ value told small.
    told ∙ ap held_text c.held.ensures ∙ line_at c.args.self.now small c.args.name.now (c.in-Some.customer, c.in-Some.key) few c.in-Some.ensures.formed c.in-Some.ensures.named)
    c.line_text.result c.line_text.ensures
