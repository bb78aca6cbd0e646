use Rattle.market_events.proofs.Runs.Standing.{stands_on}
use Rattle.service_driving.proofs.driving.step.Goals as goal

pub returns-clause-stands : goal.returns-clause-stands
returns-clause-stands g c = λ steps stands fit.
    stands_on g.S.Service.role g.S.Service.holds c.args.service.now c.accept.new.self steps c.args.from c.args.body.now stands fit
    (c.in_ok-accept.ensures.kept steps stands fit)
