use Rattle.std.proofs.Common.{ap, ◌∙◌}
use Rattle.cart_service.specs.Tables.{without}
use Rattle.cart_service.proofs.Lines.{removed}
use Rattle.cart_service.proofs.basket.Basket.remove.Goals as goal

pub returns : goal.returns
returns c =
    removed c.self.inside.lines.entries c.remove.new.self.entries c.args.key c.self.invariant.1 c.remove.ensures.ordered c.remove.ensures.updates.0
    ∙ ap (without c.args.key) c.self.view_is
