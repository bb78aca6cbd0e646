use Rattle.std.proofs.Common.{[], ◌∷◌, ◌++◌, ap}
use Rattle.market_events.specs.declared.bodies.Body.TheVariants as body
use Rattle.market_events.specs.Examples.{an_id}
use Rattle.basket_tests.specs.StockExamples.{four_pieces}
use Rattle.service_driving.proofs.Standing.{can_take, took}
use Rattle.basket_tests.proofs.StockTesting as t
use Rattle.basket_tests.proofs.stock_tests.held_cells.Goals as goal

pub step-requires : goal.step-requires
step-requires c =
    can_take c.in_ok-stocks.stocks four_pieces t.whole (body.Reserve (an_id 7 8) 7 c.in_ok-pieces.pieces) c.in_ok-stocks.ensures t.follows_whole (ap (body.Reserve (an_id 7 8) 7) c.in_ok-pieces.ensures)

pub cells-requires : goal.cells-requires
cells-requires c =
    ∣ (
      four_pieces ++ t.whole ∷ [],
      took c.in_ok-stocks.stocks c.step.new.service four_pieces t.whole (body.Reserve (an_id 7 8) 7 c.in_ok-pieces.pieces) c.in_ok-stocks.ensures t.follows_whole (ap (body.Reserve (an_id 7 8) 7) c.in_ok-pieces.ensures) c.in_ok-step.ensures.stands,
    ) ∣₁
