-- Steps of the tests: each follows those before it.
use Rattle.std.proofs.Common.{◌≡◌, true, List, [], ◌∷◌, ◌++◌, refl, ap, subst, sym, ◌∙◌}
use Rattle.market_events.specs.declared.bodies.Body.{Body}
use Rattle.market_events.specs.declared.bodies.Body.TheVariants as body
use Rattle.market_events.specs.declared.bodies.PayRule.TheVariants as pay
use Rattle.market_events.specs.declared.links.TheConstants.{ORDER_TO_SELLER, PAYMENT_TO_SELLER}
use Rattle.market_events.specs.declared.links.TheConstants.{SHIPMENT_TO_SELLER}
use Rattle.market_events.specs.declared.replies.OrderStatus.TheVariants as status
use Rattle.market_events.specs.Examples.{an_id, an_item, strange_item, quiet, mug, basket, mug_invoice, mug_paid, mug_shipped}
use Rattle.market_events.specs.ExamplesSeller.{a_row, mug_row, base_invoiced, base_paid, base_shipped, base_delivered, two_delivered, base_cancelled, lines_of_8, rows_of_8}
use Rattle.market_events.specs.declared.roles.Role.{Role}
use Rattle.market_events.specs.Services.{Follows, fits, answers}
use Rattle.market_events.specs.Standing.{Stands, CanTake, with_step}
use Rattle.market_events.specs.Steps.{Step}
use Rattle.delivery_tests.specs.SellerExamples.{shown, one_mug}
use Rattle.seller_service.specs.Holds.{Holds}
use Rattle.seller_service.specs.Tables.{SellerTables}

-- the first checkout
abbrev pub invoiced : Step
invoiced = quiet (ORDER_TO_SELLER, mug_invoice)

abbrev pub paid : Step
paid = quiet (PAYMENT_TO_SELLER, mug_paid)

abbrev pub shipped : Step
shipped = quiet (SHIPMENT_TO_SELLER, mug_shipped)

abbrev pub delivered : Step
delivered = quiet (SHIPMENT_TO_SELLER, body.Delivered (an_item basket mug ∷ []))

abbrev pub delivered_again : Step
delivered_again = quiet (SHIPMENT_TO_SELLER, body.Delivered (strange_item basket mug ∷ []))

abbrev pub failed : Step
failed = quiet (PAYMENT_TO_SELLER, body.Failed basket 7 pay.NoCard)

pub follows_invoiced : Follows Role.Seller [] invoiced
unfolding fits answers
follows_invoiced = record { fit = refl; made = refl }

pub follows_paid : Follows Role.Seller base_invoiced paid
unfolding fits answers
follows_paid = record { fit = refl; made = refl }

pub follows_shipped : Follows Role.Seller base_paid shipped
unfolding fits answers
follows_shipped = record { fit = refl; made = refl }

pub follows_delivered : Follows Role.Seller base_shipped delivered
unfolding fits answers
follows_delivered = record { fit = refl; made = refl }

pub follows_delivered_again : Follows Role.Seller base_delivered delivered_again
unfolding fits answers
follows_delivered_again = record { fit = refl; made = refl }

pub follows_failed : Follows Role.Seller base_invoiced failed
unfolding fits answers
follows_failed = record { fit = refl; made = refl }

-- what is shown after them
abbrev pub shows_shipped : Step
shows_shipped = shown 6 5 3 1 1950 (mug_row status.Shipped ∷ [])

abbrev pub shows_delivered : Step
shows_delivered = shown 6 5 4 0 0 []

abbrev pub shows_twice : Step
shows_twice = shown 6 5 5 0 0 []

abbrev pub shows_cancelled : Step
shows_cancelled = shown 6 5 2 0 0 []

pub follows_shows_shipped : Follows Role.Seller base_shipped shows_shipped
unfolding fits answers
follows_shows_shipped = record { fit = refl; made = refl }

pub follows_shows_delivered : Follows Role.Seller base_delivered shows_delivered
unfolding fits answers
follows_shows_delivered = record { fit = refl; made = refl }

pub follows_shows_twice : Follows Role.Seller two_delivered shows_twice
unfolding fits answers
follows_shows_twice = record { fit = refl; made = refl }

pub follows_shows_cancelled : Follows Role.Seller base_cancelled shows_cancelled
unfolding fits answers
follows_shows_cancelled = record { fit = refl; made = refl }

-- the second checkout
abbrev pub second_invoiced : Step
second_invoiced = quiet (ORDER_TO_SELLER, body.Invoice (an_id 7 8) 7 one_mug 1050)

abbrev pub second_paid : Step
second_paid = quiet (PAYMENT_TO_SELLER, body.Confirmed (an_id 7 8) 7 one_mug 1050)

abbrev pub second_shipped : Step
second_shipped = quiet (SHIPMENT_TO_SELLER, body.Shipped (an_id 7 8))

abbrev pub shows_second : Step
shows_second = shown 11 5 6 2 3000 (mug_row status.Shipped ∷ a_row (an_id 7 8) 10 1 1050 status.Shipped ∷ [])

pub follows_second_invoiced : Follows Role.Seller base_shipped second_invoiced
unfolding fits answers
follows_second_invoiced = record { fit = refl; made = refl }

pub follows_second_paid : Follows Role.Seller (base_shipped ++ second_invoiced ∷ []) second_paid
unfolding fits answers
follows_second_paid = record { fit = refl; made = refl }

pub follows_second_shipped : Follows Role.Seller (base_shipped ++ second_invoiced ∷ second_paid ∷ []) second_shipped
unfolding fits answers
follows_second_shipped = record { fit = refl; made = refl }

pub follows_shows_second : Follows Role.Seller (base_shipped ++ second_invoiced ∷ second_paid ∷ second_shipped ∷ []) shows_second
unfolding fits answers
follows_shows_second = record { fit = refl; made = refl }

-- two checkouts of thirty pieces
abbrev pub thirty : Step
thirty = quiet (ORDER_TO_SELLER, body.Invoice basket 7 (lines_of_8 30) 3000)

abbrev pub thirty_more : Step
thirty_more = quiet (ORDER_TO_SELLER, body.Invoice (an_id 7 8) 7 (lines_of_8 30) 3000)

abbrev pub shows_fifty : Step
shows_fifty = shown 9 8 60 60 6000 (rows_of_8 5 30 ++ rows_of_8 8 20)

pub follows_thirty : Follows Role.Seller [] thirty
unfolding fits answers
follows_thirty = record { fit = refl; made = refl }

pub follows_thirty_more : Follows Role.Seller (thirty ∷ []) thirty_more
unfolding fits answers
follows_thirty_more = record { fit = refl; made = refl }

pub follows_fifty : Follows Role.Seller (thirty ∷ thirty_more ∷ []) shows_fifty
unfolding fits answers
follows_fifty = record { fit = refl; made = refl }
