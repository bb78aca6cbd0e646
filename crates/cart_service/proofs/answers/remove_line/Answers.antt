use Rattle.std.proofs.Common.{sym, ◌∙◌}
use Rattle.cart_service.proofs.Left.{left_alone}
use Rattle.cart_service.proofs.Steps.{ok_always}
use Rattle.cart_service.proofs.answers.remove_line.Goals as goal

pub returns-then-not-has_line-clause-left : goal.returns-then-not-has_line-clause-left
returns-then-not-has_line-clause-left c =
    ok_always c.tell.result (left_alone c.args.baskets.now c.args.customer c.args.key (sym c.has_line.ensures ∙ c.if-not-has_line.true))
