use Rattle.service_driving.proofs.Standing.{some_after_step}
use Rattle.service_driving.proofs.keeper.Keeper.take.Goals as goal

pub invariant_of-self : goal.invariant_of-self
invariant_of-self g c = record {
  stands = some_after_step g.S.Service.role g.S.Service.holds c.args.self.now.service c.step.new.service c.args.from c.args.body.now c.requires
      c.step.result c.step.ensures.stands c.step.ensures.unchanged;
}
