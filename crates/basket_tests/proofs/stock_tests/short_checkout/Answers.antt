use Rattle.std.proofs.Common.{[], ◌∷◌, ◌++◌, ap}
use Rattle.market_events.specs.declared.bodies.Body.TheVariants as body
use Rattle.market_events.specs.Examples.{mug, cup, an_id}
use Rattle.market_events.specs.ExamplesStock.{stocks}
use Rattle.market_events.specs.declared.roles.Role.{Role}
use Rattle.market_events.specs.Standing.{Stands}
use Rattle.basket_tests.specs.StockExamples.{four_pieces}
use Rattle.stock_service.specs.Holds.{Holds}
use Rattle.service_driving.proofs.Standing.{can_take, took}
use Rattle.basket_tests.proofs.StockTesting as t
use Rattle.basket_tests.proofs.stock_tests.short_checkout.Goals as goal

pub step-requires : goal.step-requires
step-requires c =
    can_take c.in_ok-stocks.stocks (four_pieces) (t.short) (body.Reserve (an_id 7 8) 7 c.in_ok-pieces.pieces) c.in_ok-stocks.ensures t.follows_short (ap (body.Reserve (an_id 7 8) 7) c.in_ok-pieces.ensures)

pub step-requires-2 : goal.step-requires-2
step-requires-2 c =
    let after_1 : Stands Role.Stock Holds c.step.new.service (four_pieces ++ (t.short) ∷ []) = took c.in_ok-stocks.stocks c.step.new.service (four_pieces) (t.short) (body.Reserve (an_id 7 8) 7 c.in_ok-pieces.pieces) c.in_ok-stocks.ensures t.follows_short (ap (body.Reserve (an_id 7 8) 7) c.in_ok-pieces.ensures) c.in_ok-made.ensures.stands in
    can_take c.step.new.service (four_pieces ++ (t.short) ∷ []) (t.mugs_are 3 0) c.asked-mug.result after_1 t.short_mugs c.asked-mug.ensures

pub step-requires-3 : goal.step-requires-3
step-requires-3 c =
    let after_1 : Stands Role.Stock Holds c.step.new.service (four_pieces ++ (t.short) ∷ []) = took c.in_ok-stocks.stocks c.step.new.service (four_pieces) (t.short) (body.Reserve (an_id 7 8) 7 c.in_ok-pieces.pieces) c.in_ok-stocks.ensures t.follows_short (ap (body.Reserve (an_id 7 8) 7) c.in_ok-pieces.ensures) c.in_ok-made.ensures.stands in
    let after_2 : Stands Role.Stock Holds c.step-2.new.service (four_pieces ++ (t.short) ∷ [] ++ (t.mugs_are 3 0) ∷ []) = took c.step.new.service c.step-2.new.service (four_pieces ++ (t.short) ∷ []) (t.mugs_are 3 0) c.asked-mug.result after_1 t.short_mugs c.asked-mug.ensures c.in_ok-mugs.ensures.stands in
    can_take c.step-2.new.service (four_pieces ++ (t.short) ∷ [] ++ (t.mugs_are 3 0) ∷ []) (t.cups_are 1 0) c.asked-cup.result after_2 t.short_cups c.asked-cup.ensures
