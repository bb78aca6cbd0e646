use Rattle.std.proofs.Common.{[], ◌∷◌, ◌++◌, ap}
use Rattle.market_events.specs.declared.bodies.Body.TheVariants as body
use Rattle.market_events.specs.Examples.{mug, cup, an_id}
use Rattle.market_events.specs.ExamplesStock.{stocks}
use Rattle.market_events.specs.declared.roles.Role.{Role}
use Rattle.market_events.specs.Standing.{Stands}
use Rattle.basket_tests.specs.StockExamples.{four_pieces}
use Rattle.stock_service.specs.Holds.{Holds}
use Rattle.service_driving.proofs.Standing.{can_take, took}
use Rattle.basket_tests.proofs.StockTesting as t
use Rattle.basket_tests.proofs.stock_tests.full_stock.Goals as goal

pub step-requires : goal.step-requires
step-requires c =
    can_take c.new-stocks.result ([]) (t.mug_created) c.in_ok-mug.mug (record { run = tt; held = c.new-stocks.ensures }) t.follows_mug c.in_ok-mug.ensures

pub step-requires-2 : goal.step-requires-2
step-requires-2 c =
    let after_1 : Stands Role.Stock Holds c.step.new.service ([] ++ (t.mug_created) ∷ []) = took c.new-stocks.result c.step.new.service ([]) (t.mug_created) c.in_ok-mug.mug (record { run = tt; held = c.new-stocks.ensures }) t.follows_mug c.in_ok-mug.ensures c.in_ok-step.ensures.stands in
    can_take c.step.new.service ([] ++ (t.mug_created) ∷ []) (stocks 1 mug 1000000000) c.asked-most.result after_1 t.follows_most c.asked-most.ensures

pub step-requires-3 : goal.step-requires-3
step-requires-3 c =
    let after_1 : Stands Role.Stock Holds c.step.new.service ([] ++ (t.mug_created) ∷ []) = took c.new-stocks.result c.step.new.service ([]) (t.mug_created) c.in_ok-mug.mug (record { run = tt; held = c.new-stocks.ensures }) t.follows_mug c.in_ok-mug.ensures c.in_ok-step.ensures.stands in
    let after_2 : Stands Role.Stock Holds c.step-2.new.service ([] ++ (t.mug_created) ∷ [] ++ (stocks 1 mug 1000000000) ∷ []) = took c.step.new.service c.step-2.new.service ([] ++ (t.mug_created) ∷ []) (stocks 1 mug 1000000000) c.asked-most.result after_1 t.follows_most c.asked-most.ensures c.in_ok-all.ensures.stands in
    can_take c.step-2.new.service ([] ++ (t.mug_created) ∷ [] ++ (stocks 1 mug 1000000000) ∷ []) (t.over) c.asked-more.result after_2 t.follows_over c.asked-more.ensures
