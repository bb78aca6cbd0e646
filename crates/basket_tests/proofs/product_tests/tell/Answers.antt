use Rattle.service_driving.proofs.Standing.{some_stands}
use Rattle.basket_tests.proofs.ProductTesting.{from_lane}
use Rattle.basket_tests.proofs.product_tests.tell.Goals as goal

pub cells-requires : goal.cells-requires
cells-requires g c =
    some_stands g.S.Service.role g.S.Service.holds c.args.service.now c.step.new.service from_lane c.args.body.now c.requires c.in_ok-step.ensures.stands
