use Rattle.std.proofs.Common.{ap, ◌∙◌}
use Rattle.market_events.specs.Carts.{has_key}
use Rattle.cart_service.proofs.Lines.{found-has_key}
use Rattle.cart_service.proofs.basket.Basket.has.Goals as goal

pub returns : goal.returns
returns c = c.contains_key.ensures ∙ found-has_key c.self.inside.lines.entries c.args.key ∙ ap (λ lines. has_key lines c.args.key) c.self.view_is
