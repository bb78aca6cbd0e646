use Rattle.std.proofs.Common.{sym, ◌∙◌}
use Rattle.cart_service.proofs.Touches.{names_none}
use Rattle.cart_service.proofs.cells.touched_names.Goals as goal

pub returns-in_default : goal.returns-in_default
returns-in_default c = c.new.ensures.items ∙ sym (names_none c.args.baskets.now c.args.body.now c.in_default.not-Changed c.in_default.not-Asked)
