use Rattle.shipment_service.proofs.Lining.{take_away}
use Rattle.shipment_service.proofs.waiting.Waiting.take_back.Goals as goal

pub returns : goal.returns
returns c = λ waiting waits below.
    take_away c.args.self.now.queues c.args.self.now.oldest waiting c.args.number c.args.item below c.step_back.new.self c.take_all.new.self waits
    c.step_back.ensures c.take_all.ensures
