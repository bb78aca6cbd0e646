-- Steps of the tests: each follows those before it.
use Rattle.std.proofs.Common.{◌≡◌, ℕ, ◌+◌, List, [], ◌∷◌, ◌++◌, refl, sym, ◌∙◌, arith}
use Rattle.std.proofs.lemmas.List.FromFn.{map-range_with_len_more}
use Rattle.market_amounts.specs.declared.keys.ProductKey.{ProductKey}
use Rattle.market_amounts.specs.declared.keys.RequestId.{RequestId}
use Rattle.market_events.specs.declared.bodies.Body.{Body}
use Rattle.market_events.specs.declared.bodies.Body.TheVariants as body
use Rattle.market_events.specs.declared.bodies.Ending.TheVariants as ending
use Rattle.market_events.specs.declared.bodies.PayRule.TheVariants as pay
use Rattle.market_events.specs.declared.bodies.PricedLine.{PricedLine}
use Rattle.market_events.specs.declared.links.TheConstants.{ORDER_TO_CART, ORDER_TO_PAYMENT, ORDER_TO_SELLER, PAYMENT_TO_ORDER, SHIPMENT_TO_ORDER, STOCK_TO_ORDER}
use Rattle.market_events.specs.declared.replies.OrderStatus.{OrderStatus}
use Rattle.market_events.specs.declared.replies.OrderStatus.TheVariants as status
use Rattle.market_events.specs.declared.replies.Reply.TheVariants as reply
use Rattle.market_events.specs.declared.replies.Rule.TheVariants as rule
use Rattle.market_events.specs.declared.requests.Ask.TheVariants as ask
use Rattle.market_events.specs.Examples.{mug, cup, basket, an_id, makes, quiet, request, answer, refusal, mug_reserved, mug_invoice, mug_paid}
use Rattle.market_events.specs.ExamplesOrder.{mug_invoiced, two_lines, two_invoices, no_payment, undone}
use Rattle.market_events.specs.Links.{order_node}
use Rattle.market_events.specs.Services.{Follows, fits, answers}
use Rattle.market_events.specs.Steps.{Step}
use Rattle.checkout_tests.specs.OrderExamples.{greatest_line, greatest_lines, item_for, two_shipped, strange_cup}
use Rattle.market_events.specs.declared.roles.Role.{Role}

-- a request for an order that there is
abbrev pub asks : ℕ → RequestId → OrderStatus → ℕ → Step
asks number id status total = makes (request order_node number (ask.Order id)) (answer order_node number (reply.OrderState status total) ∷ [])

-- and for one that there is not
abbrev pub asks_none : Step
asks_none = makes (request order_node 9 (ask.Order basket)) (refusal order_node 9 rule.NoOrder ∷ [])

pub follows_asks_none : Follows Role.Order [] asks_none
unfolding fits answers
follows_asks_none = record { fit = refl; made = refl }

-- the mugs' checkout
abbrev pub mugs : Step
mugs = makes (STOCK_TO_ORDER, mug_reserved) ((ORDER_TO_SELLER, mug_invoice) ∷ (ORDER_TO_PAYMENT, mug_invoice) ∷ [])

abbrev pub mugs_paid : Step
mugs_paid = quiet (PAYMENT_TO_ORDER, mug_paid)

abbrev pub mugs_failed : Step
mugs_failed = makes (no_payment pay.OverLimit) (undone pay.OverLimit)

abbrev pub mugs_are : ℕ → OrderStatus → Step
mugs_are number status = asks number basket status 1950

pub follows_mugs : Follows Role.Order [] mugs
unfolding fits answers
follows_mugs = record { fit = refl; made = refl }

pub invoiced_told : Follows Role.Order mug_invoiced (mugs_are 9 status.Invoiced)
unfolding fits answers
invoiced_told = record { fit = refl; made = refl }

pub follows_paid : Follows Role.Order (mug_invoiced ++ mugs_are 9 status.Invoiced ∷ []) mugs_paid
unfolding fits answers
follows_paid = record { fit = refl; made = refl }

pub paid_told : Follows Role.Order (mug_invoiced ++ mugs_are 9 status.Invoiced ∷ mugs_paid ∷ []) (mugs_are 10 status.Paid)
unfolding fits answers
paid_told = record { fit = refl; made = refl }

pub follows_failed : Follows Role.Order mug_invoiced mugs_failed
unfolding fits answers
follows_failed = record { fit = refl; made = refl }

pub failed_told : Follows Role.Order (mug_invoiced ++ mugs_failed ∷ []) (mugs_are 9 status.Cancelled)
unfolding fits answers
failed_told = record { fit = refl; made = refl }

-- the checkout of two
abbrev pub two : Step
two = makes (STOCK_TO_ORDER, body.StockConfirmed (an_id 7 6) 7 two_lines) two_invoices

abbrev pub two_paid : Step
two_paid = quiet (PAYMENT_TO_ORDER, body.Confirmed (an_id 7 6) 7 two_lines 2010)

abbrev pub two_sent : Step
two_sent = makes (SHIPMENT_TO_ORDER, body.Shipped (an_id 7 6)) ((ORDER_TO_CART, body.Ended (an_id 7 6) (ending.Whole 2010)) ∷ [])

abbrev pub brings_to : ℕ → ProductKey → Step
brings_to customer key = quiet (SHIPMENT_TO_ORDER, body.Delivered (item_for customer key))

abbrev pub brings : ProductKey → Step
brings key = brings_to 7 key

abbrev pub two_are : ℕ → OrderStatus → Step
two_are number status = asks number (an_id 7 6) status 2010

pub follows_two : Follows Role.Order [] two
unfolding fits answers
follows_two = record { fit = refl; made = refl }

pub follows_two_paid : Follows Role.Order (two ∷ []) two_paid
unfolding fits answers
follows_two_paid = record { fit = refl; made = refl }

pub follows_two_sent : Follows Role.Order (two ∷ two_paid ∷ []) two_sent
unfolding fits answers
follows_two_sent = record { fit = refl; made = refl }

pub follows_mug : Follows Role.Order two_shipped (brings mug)
unfolding fits answers
follows_mug = record { fit = refl; made = refl }

pub mug_told : Follows Role.Order (two_shipped ++ brings mug ∷ []) (two_are 9 status.Shipped)
unfolding fits answers
mug_told = record { fit = refl; made = refl }

pub follows_cup : Follows Role.Order (two_shipped ++ brings mug ∷ two_are 9 status.Shipped ∷ []) (brings cup)
unfolding fits answers
follows_cup = record { fit = refl; made = refl }

pub cup_told : Follows Role.Order (two_shipped ++ brings mug ∷ two_are 9 status.Shipped ∷ brings cup ∷ []) (two_are 10 status.Delivered)
unfolding fits answers
cup_told = record { fit = refl; made = refl }

-- the mug came, and the cup came for another customer
pub follows_strange : Follows Role.Order (two_shipped ++ brings mug ∷ []) (brings_to 8 cup)
unfolding fits answers
follows_strange = record { fit = refl; made = refl }

pub strange_told : Follows Role.Order strange_cup (two_are 9 status.Shipped)
unfolding fits answers
strange_told = record { fit = refl; made = refl }

pub follows_own : Follows Role.Order (strange_cup ++ two_are 9 status.Shipped ∷ []) (brings cup)
unfolding fits answers
follows_own = record { fit = refl; made = refl }

pub own_told : Follows Role.Order (strange_cup ++ two_are 9 status.Shipped ∷ brings cup ∷ []) (two_are 10 status.Delivered)
unfolding fits answers
own_told = record { fit = refl; made = refl }

-- lines at the greatest amounts, one after the other
pub greatest_lines-zero : greatest_lines 0 ≡ []
unfolding greatest_lines
greatest_lines-zero = refl

greatest_lines-more : (n : ℕ) → greatest_lines (n + 1) ≡ greatest_lines n ++ greatest_line n ∷ []
unfolding greatest_lines
greatest_lines-more n = map-range_with_len_more greatest_line 0 n n (omega arith)

pub greatest_lines-push : (lines now : List PricedLine) (line : PricedLine) (n : ℕ) → lines ≡ greatest_lines n → line ≡ greatest_line n → now ≡ lines ++ line ∷ [] → now ≡ greatest_lines (n + 1)
greatest_lines-push lines now line n so_far is pushed = pushed ∙ (λ i. so_far i ++ is i ∷ []) ∙ sym (greatest_lines-more n)

-- the greatest checkout
abbrev pub greatest_invoice : Body
greatest_invoice = body.Invoice basket 7 (greatest_lines 32) 32032000000000

abbrev pub greatest : Step
greatest = makes (STOCK_TO_ORDER, body.StockConfirmed basket 7 (greatest_lines 32)) ((ORDER_TO_SELLER, greatest_invoice) ∷ (ORDER_TO_PAYMENT, greatest_invoice) ∷ [])

pub follows_greatest : Follows Role.Order [] greatest
unfolding fits answers greatest_lines
follows_greatest = record { fit = refl; made = refl }
