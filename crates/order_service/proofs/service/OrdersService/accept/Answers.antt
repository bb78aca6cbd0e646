use Rattle.std.proofs.Common.{◌∙◌}
use Rattle.order_service.proofs.Steps.{makes, keeps, taken_formed, taken_open}
use Rattle.order_service.proofs.service.OrdersService.accept.Goals as goal

pub take-requires-clause-formed : goal.take-requires-clause-formed
take-requires-clause-formed c = taken_formed c.args.self.now c.args._from c.args.body.now c.requires.can

pub take-requires-clause-undelivered : goal.take-requires-clause-undelivered
take-requires-clause-undelivered c = taken_open c.args.self.now c.args._from c.args.body.now c.requires.can

pub returns-clause-made : goal.returns-clause-made
returns-clause-made c = λ steps stands fit. c.in_default.ensures.made ∙ makes c.args.self.now steps c.args._from c.args.body.now stands fit

pub returns-clause-kept : goal.returns-clause-kept
returns-clause-kept c = λ steps stands fit. keeps c.args.self.now steps c.args._from c.args.body.now stands fit c.take.new.self c.in_default.ensures.each
