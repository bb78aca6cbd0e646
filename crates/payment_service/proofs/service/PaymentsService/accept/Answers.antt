use Rattle.std.proofs.Common.{◌∙◌}
use Rattle.payment_service.proofs.Steps.{makes, holds_on}
use Rattle.payment_service.proofs.service.PaymentsService.accept.Goals as goal

pub returns-clause-made : goal.returns-clause-made
returns-clause-made c = λ steps stands fit. c.in_default.ensures.made ∙ makes c.args.self.now steps c.args._from c.args.body.now stands.held fit

pub returns-clause-kept : goal.returns-clause-kept
returns-clause-kept c = λ steps stands fit.
    holds_on c.args.self.now c.take.new.self steps c.args._from c.args.body.now stands.held c.in_default.ensures.each
