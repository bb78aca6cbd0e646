-- What orders answer, case by case.
use Rattle.std.specs.Prelude.{◌≡◌, ℕ, List, [], ◌∷◌, ◌++◌}
use Rattle.market_events.specs.declared.bodies.Body.TheVariants as body
use Rattle.market_events.specs.declared.bodies.Ending.TheVariants as ending
use Rattle.market_events.specs.declared.bodies.PayRule.{PayRule}
use Rattle.market_events.specs.declared.bodies.PayRule.TheVariants as pay
use Rattle.market_events.specs.declared.bodies.PricedLine.{PricedLine}
use Rattle.market_events.specs.declared.links.TheConstants.{STOCK_TO_ORDER, ORDER_TO_PAYMENT, ORDER_TO_SELLER}
use Rattle.market_events.specs.declared.links.TheConstants.{ORDER_TO_CART, PAYMENT_TO_ORDER}
use Rattle.market_events.specs.declared.links.TheConstants.{SHIPMENT_TO_ORDER}
use Rattle.market_events.specs.declared.replies.OrderStatus.{OrderStatus}
use Rattle.market_events.specs.declared.replies.OrderStatus.TheVariants as status
use Rattle.market_events.specs.declared.replies.Reply.TheVariants as reply
use Rattle.market_events.specs.declared.replies.Rule.TheVariants as rule
use Rattle.market_events.specs.declared.requests.Ask.TheVariants as ask
use Rattle.market_events.specs.Examples.{an_id, a_line, an_item, strange_item, request, answer, refusal}
use Rattle.market_events.specs.Examples.{makes, quiet, mug, cup, basket, mug_reserved, mug_invoice, mug_paid}
use Rattle.market_events.specs.Examples.{mug_shipped, mug_ended}
use Rattle.market_events.specs.Links.{order_node}
use Rattle.market_events.specs.Services.{Role, answers}
use Rattle.market_events.specs.Steps.{Step, Sending}

abbrev pub order_makes : List Step → Sending → List Sending
order_makes steps taken = answers Role.Order steps taken.0 taken.1

-- the mug's order in each of its states
abbrev pub mug_invoiced : List Step
mug_invoiced =
    makes (STOCK_TO_ORDER, mug_reserved) ((ORDER_TO_SELLER, mug_invoice) ∷ (ORDER_TO_PAYMENT, mug_invoice)
    ∷ []) ∷ []

abbrev pub mug_is_paid : List Step
mug_is_paid = mug_invoiced ++ quiet (PAYMENT_TO_ORDER, mug_paid) ∷ []

abbrev pub mug_is_shipped : List Step
mug_is_shipped = mug_is_paid ++ makes (SHIPMENT_TO_ORDER, mug_shipped) ((ORDER_TO_CART, mug_ended) ∷ []) ∷ []

abbrev pub mug_is_delivered : List Step
mug_is_delivered = mug_is_shipped ++ quiet (SHIPMENT_TO_ORDER, body.Delivered (an_item basket mug ∷ [])) ∷ []

-- the mug of customer 7 came with the name of customer 8, and then with the right one
abbrev pub mug_to_8 : List Step
mug_to_8 = mug_is_shipped ++ quiet (SHIPMENT_TO_ORDER, body.Delivered (strange_item basket mug ∷ [])) ∷ []

abbrev pub mug_to_8_and_7 : List Step
mug_to_8_and_7 = mug_to_8 ++ quiet (SHIPMENT_TO_ORDER, body.Delivered (an_item basket mug ∷ [])) ∷ []

-- no payment by this rule, and how the checkout ends then
abbrev pub no_payment : PayRule → Sending
no_payment rule = (PAYMENT_TO_ORDER, body.Failed basket 7 rule)

abbrev pub undone : PayRule → List Sending
undone rule = (ORDER_TO_CART, body.Ended basket (ending.Undone rule)) ∷ []

abbrev pub mug_is_cancelled : List Step
mug_is_cancelled = mug_invoiced ++ makes (no_payment pay.OverLimit) (undone pay.OverLimit) ∷ []

-- checkout 6 has two lines: the mug's of 1950 as above, and one cup of 30 with freight 60, whose voucher
-- takes off 30
abbrev pub two_lines : List PricedLine
two_lines = a_line mug 2 1000 50 100 ∷ a_line cup 1 30 60 100 ∷ []

abbrev pub two_invoices : List Sending
two_invoices = (ORDER_TO_SELLER, body.Invoice (an_id 7 6) 7 two_lines 2010)
    ∷ (ORDER_TO_PAYMENT, body.Invoice (an_id 7 6) 7 two_lines 2010) ∷ []

-- its mug is delivered and its cup is not
abbrev pub half_delivered : List Step
half_delivered =
    mug_is_delivered ++ makes (STOCK_TO_ORDER, body.StockConfirmed (an_id 7 6) 7 two_lines) two_invoices
    ∷ quiet (PAYMENT_TO_ORDER, body.Confirmed (an_id 7 6) 7 two_lines 2010)
    ∷ makes (SHIPMENT_TO_ORDER, body.Shipped (an_id 7 6))
    ((ORDER_TO_CART, body.Ended (an_id 7 6) (ending.Whole 2010)) ∷ [])
    ∷ quiet (SHIPMENT_TO_ORDER, body.Delivered (an_item (an_id 7 6) mug ∷ [])) ∷ []

-- request 9 asks for the order of checkout 5, or of checkout 6
abbrev pub ask_5 : Sending
ask_5 = request order_node 9 (ask.Order basket)

abbrev pub ask_6 : Sending
ask_6 = request order_node 9 (ask.Order (an_id 7 6))

abbrev pub is_at : OrderStatus → ℕ → List Sending
is_at status total = answer order_node 9 (reply.OrderState status total) ∷ []

pub record OrderExamples : Type 0 where
  pub invoice_of_base : order_makes [] (STOCK_TO_ORDER, mug_reserved)
      ≡ (ORDER_TO_SELLER, mug_invoice) ∷ (ORDER_TO_PAYMENT, mug_invoice) ∷ []
  pub voucher_takes_off_at_most_the_price : order_makes mug_invoiced
      (STOCK_TO_ORDER, body.StockConfirmed (an_id 7 6) 7 two_lines) ≡ two_invoices
  pub payment_is_nothing : order_makes mug_invoiced (PAYMENT_TO_ORDER, mug_paid) ≡ []
  pub failed_without_card : order_makes mug_invoiced (no_payment pay.NoCard) ≡ undone pay.NoCard
  pub failed_over_limit : order_makes mug_invoiced (no_payment pay.OverLimit) ≡ undone pay.OverLimit
  pub shipped_ends_whole : order_makes mug_is_paid (SHIPMENT_TO_ORDER, mug_shipped)
      ≡ (ORDER_TO_CART, mug_ended) ∷ []
  pub delivery_is_nothing : order_makes mug_is_shipped (
    SHIPMENT_TO_ORDER,
    body.Delivered (an_item basket mug
        ∷ []),
  ) ≡ []
  -- an order through its life
  pub order_of_no_checkout : order_makes [] ask_5 ≡ refusal order_node 9 rule.NoOrder ∷ []
  pub order_of_other_checkout : order_makes mug_is_paid ask_6 ≡ refusal order_node 9 rule.NoOrder ∷ []
  pub order_invoiced : order_makes mug_invoiced ask_5 ≡ is_at status.Invoiced 1950
  pub order_paid : order_makes mug_is_paid ask_5 ≡ is_at status.Paid 1950
  pub order_shipped : order_makes mug_is_shipped ask_5 ≡ is_at status.Shipped 1950
  pub order_delivered : order_makes mug_is_delivered ask_5 ≡ is_at status.Delivered 1950
  pub order_cancelled : order_makes mug_is_cancelled ask_5 ≡ is_at status.Cancelled 1950
  pub order_of_a_later_checkout : order_makes half_delivered ask_5 ≡ is_at status.Delivered 1950
  pub order_half_delivered_is_shipped : order_makes half_delivered ask_6 ≡ is_at status.Shipped 2010
  -- an item of another customer delivers no line of it
  pub order_is_not_delivered_to_another_customer : order_makes mug_to_8 ask_5 ≡ is_at status.Shipped 1950
  pub order_is_delivered_to_its_own_customer : order_makes mug_to_8_and_7 ask_5 ≡ is_at status.Delivered 1950
  pub order_with_both_items_at_once_is_delivered :
      order_makes (mug_is_shipped
      ++ quiet (SHIPMENT_TO_ORDER, body.Delivered (strange_item basket mug ∷ an_item basket mug ∷ []))
      ∷ []) ask_5
      ≡ is_at status.Delivered 1950
  pub order_of_two_lines_with_one_of_another_customer :
      order_makes (half_delivered
      ++ quiet (SHIPMENT_TO_ORDER, body.Delivered (strange_item (an_id 7 6) cup ∷ [])) ∷ []) ask_6
      ≡ is_at status.Shipped 2010
