use Rattle.market_events.specs.Standing.{with_step}
use Rattle.market_events.proofs.Runs.Standing.{some_can_take}
use Rattle.service_driving.proofs.Standing.{some_stood, some_stands}
use Rattle.service_driving.proofs.driving.drive.Goals as goal

pub returns-in_err-names-clause-whole : goal.returns-in_err-names-clause-whole
returns-in_err-names-clause-whole g c =
    some_can_take g.S.Service.role g.S.Service.holds c.args.service.now c.args.service.now c.args.from c.args.body.now c.requires

pub returns-in_err-outs-clause-whole : goal.returns-in_err-outs-clause-whole
returns-in_err-outs-clause-whole g c =
    some_stood g.S.Service.role g.S.Service.holds c.args.service.now c.step.new.service c.args.from c.args.body.now c.requires c.in_err-outs.ensures.unchanged

pub cells_named-requires : goal.cells_named-requires
cells_named-requires g c =
    some_stands g.S.Service.role g.S.Service.holds c.args.service.now c.step.new.service c.args.from c.args.body.now c.requires c.in_ok-outs.ensures.stands

pub returns-in_err-cells-clause-whole : goal.returns-in_err-cells-clause-whole
returns-in_err-cells-clause-whole g c =
    some_stands g.S.Service.role g.S.Service.holds c.args.service.now c.step.new.service c.args.from c.args.body.now c.requires c.in_ok-outs.ensures.stands

pub returns-clause-whole : goal.returns-clause-whole
returns-clause-whole g c =
    some_stands g.S.Service.role g.S.Service.holds c.args.service.now c.step.new.service c.args.from c.args.body.now c.requires c.in_ok-outs.ensures.stands

pub returns-clause-told : goal.returns-clause-told
returns-clause-told g c = λ steps stands fit.
    c.in_ok-cells.ensures (with_step g.S.Service.role steps c.args.from c.args.body.now) (c.in_ok-outs.ensures.stands steps stands fit)
