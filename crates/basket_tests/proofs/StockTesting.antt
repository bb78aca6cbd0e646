-- Steps of the tests: each follows those before it.
use Rattle.std.proofs.Common.{◌≡◌, ℕ, true, List, [], ◌∷◌, ◌++◌, refl, ap, subst, sym, ◌∙◌}
use Rattle.market_events.specs.declared.bodies.Body.{Body}
use Rattle.market_events.specs.declared.bodies.Body.TheVariants as body
use Rattle.market_events.specs.declared.bodies.PayRule.TheVariants as pay
use Rattle.market_events.specs.declared.bodies.StockRule.TheVariants as stock
use Rattle.market_events.specs.declared.changes.Change.TheVariants as change
use Rattle.market_events.specs.declared.links.TheConstants.{CART_TO_STOCK, STOCK_TO_CART, STOCK_TO_ORDER}
use Rattle.market_events.specs.declared.links.TheConstants.{PAYMENT_TO_STOCK}
use Rattle.market_events.specs.declared.replies.Reply.TheVariants as reply
use Rattle.market_events.specs.declared.replies.Rule.TheVariants as rule
use Rattle.market_events.specs.declared.requests.Ask.TheVariants as ask
use Rattle.market_events.specs.Examples.{mug, cup, an_id, makes, quiet, request, answer}
use Rattle.market_events.specs.ExamplesStock.{hears, stocks}
use Rattle.market_events.specs.Links.{stock_node}
use Rattle.market_events.specs.declared.roles.Role.{Role}
use Rattle.market_events.specs.Services.{Follows, fits, answers}
use Rattle.market_events.specs.Standing.{Stands, CanTake, with_step}
use Rattle.market_events.specs.Steps.{Step}
use Rattle.stock_service.specs.declared.service.Stocks.{Stocks}
use Rattle.basket_tests.specs.StockExamples.{four_pieces, mug_and_cup}
use Rattle.stock_service.specs.Holds.{Holds}

-- the steps of the tests
abbrev pub mug_created : Step
mug_created = hears mug 1 (change.Created 1000 50)

abbrev pub cup_created : Step
cup_created = hears cup 1 (change.Created 1000 50)

pub follows_mug : Follows Role.Stock [] mug_created
unfolding fits answers
follows_mug = record { fit = refl; made = refl }

pub follows_cup : Follows Role.Stock (mug_created ∷ []) cup_created
unfolding fits answers
follows_cup = record { fit = refl; made = refl }

pub follows_mugs : Follows Role.Stock (mug_created ∷ cup_created ∷ []) (stocks 1 mug 3)
unfolding fits answers
follows_mugs = record { fit = refl; made = refl }

pub follows_cups : Follows Role.Stock (mug_created ∷ cup_created ∷ stocks 1 mug 3 ∷ []) (stocks 2 cup 1)
unfolding fits answers
follows_cups = record { fit = refl; made = refl }

abbrev pub short : Step
short = makes (CART_TO_STOCK, body.Reserve (an_id 7 8) 7 (mug_and_cup 2 2)) ((STOCK_TO_CART, body.ReserveFailed (an_id 7 8) cup stock.Short) ∷ [])

abbrev pub whole : Step
whole = makes (CART_TO_STOCK, body.Reserve (an_id 7 8) 7 (mug_and_cup 2 1)) ((STOCK_TO_ORDER, body.StockConfirmed (an_id 7 8) 7 (mug_and_cup 2 1)) ∷ [])

abbrev pub failed : Step
failed = quiet (PAYMENT_TO_STOCK, body.Failed (an_id 7 8) 7 pay.NoCard)

abbrev pub paid : Step
paid = quiet (PAYMENT_TO_STOCK, body.Confirmed (an_id 7 8) 7 (mug_and_cup 2 1) 3100)

abbrev pub mugs_are : ℕ → ℕ → Step
mugs_are here held = makes (request stock_node 3 (ask.Level mug)) (answer stock_node 3 (reply.Level here held) ∷ [])

abbrev pub cups_are : ℕ → ℕ → Step
cups_are here held = makes (request stock_node 4 (ask.Level cup)) (answer stock_node 4 (reply.Level here held) ∷ [])

pub follows_short : Follows Role.Stock four_pieces short
unfolding fits answers
follows_short = record { fit = refl; made = refl }

pub short_mugs : Follows Role.Stock (four_pieces ++ short ∷ []) (mugs_are 3 0)
unfolding fits answers
short_mugs = record { fit = refl; made = refl }

pub short_cups : Follows Role.Stock (four_pieces ++ short ∷ mugs_are 3 0 ∷ []) (cups_are 1 0)
unfolding fits answers
short_cups = record { fit = refl; made = refl }

pub follows_whole : Follows Role.Stock four_pieces whole
unfolding fits answers
follows_whole = record { fit = refl; made = refl }

pub whole_mugs : Follows Role.Stock (four_pieces ++ whole ∷ []) (mugs_are 3 2)
unfolding fits answers
whole_mugs = record { fit = refl; made = refl }

pub whole_cups : Follows Role.Stock (four_pieces ++ whole ∷ mugs_are 3 2 ∷ []) (cups_are 1 1)
unfolding fits answers
whole_cups = record { fit = refl; made = refl }

pub follows_failed : Follows Role.Stock (four_pieces ++ whole ∷ []) failed
unfolding fits answers
follows_failed = record { fit = refl; made = refl }

pub failed_mugs : Follows Role.Stock (four_pieces ++ whole ∷ failed ∷ []) (mugs_are 3 0)
unfolding fits answers
failed_mugs = record { fit = refl; made = refl }

pub failed_cups : Follows Role.Stock (four_pieces ++ whole ∷ failed ∷ mugs_are 3 0 ∷ []) (cups_are 1 0)
unfolding fits answers
failed_cups = record { fit = refl; made = refl }

pub follows_paid : Follows Role.Stock (four_pieces ++ whole ∷ []) paid
unfolding fits answers
follows_paid = record { fit = refl; made = refl }

pub paid_mugs : Follows Role.Stock (four_pieces ++ whole ∷ paid ∷ []) (mugs_are 1 0)
unfolding fits answers
paid_mugs = record { fit = refl; made = refl }

pub paid_cups : Follows Role.Stock (four_pieces ++ whole ∷ paid ∷ mugs_are 1 0 ∷ []) (cups_are 0 0)
unfolding fits answers
paid_cups = record { fit = refl; made = refl }

pub follows_most : Follows Role.Stock (mug_created ∷ []) (stocks 1 mug 1000000000)
unfolding fits answers
follows_most = record { fit = refl; made = refl }

abbrev pub over : Step
over = makes (request stock_node 2 (ask.Stock mug 1)) (answer stock_node 2 (reply.Refused rule.StockOver) ∷ [])

pub follows_over : Follows Role.Stock (mug_created ∷ stocks 1 mug 1000000000 ∷ []) over
unfolding fits answers
follows_over = record { fit = refl; made = refl }
