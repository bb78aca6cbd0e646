-- Which inputs fit orders, case by case.
use Rattle.std.specs.Prelude.{◌≡◌, Bool, true, false, List, [], ◌∷◌, ◌++◌}
use Rattle.market_events.specs.declared.bodies.Body.TheVariants as body
use Rattle.market_events.specs.declared.bodies.PayRule.TheVariants as pay
use Rattle.market_events.specs.declared.links.TheConstants.{STOCK_TO_ORDER, ORDER_TO_PAYMENT, ORDER_TO_SELLER}
use Rattle.market_events.specs.declared.links.TheConstants.{PAYMENT_TO_STOCK, PAYMENT_TO_ORDER}
use Rattle.market_events.specs.declared.links.TheConstants.{SHIPMENT_TO_ORDER, SHIPMENT_TO_SELLER}
use Rattle.market_events.specs.declared.links.TheConstants.{SHIPMENT_TO_CUSTOMER}
use Rattle.market_events.specs.declared.replies.Rule.TheVariants as rule
use Rattle.market_events.specs.declared.requests.Ask.TheVariants as ask
use Rattle.market_events.specs.declared.bodies.Item.{Item}
use Rattle.market_events.specs.Examples.{an_id, a_line, an_item, strange_item, request, refusal, makes, mug}
use Rattle.market_events.specs.Examples.{cup, basket, mug_lines, mug_reserved, mug_invoice, mug_paid}
use Rattle.market_events.specs.Examples.{mug_shipped}
use Rattle.market_events.specs.ExamplesOrder.{mug_invoiced, mug_is_paid, mug_is_shipped, mug_is_delivered}
use Rattle.market_events.specs.ExamplesOrder.{mug_to_8, mug_is_cancelled, no_payment, two_lines}
use Rattle.market_events.specs.ExamplesOrder.{half_delivered}
use Rattle.market_events.specs.Links.{order_node}
use Rattle.market_events.specs.Services.{Role, fits, reactions}
use Rattle.market_events.specs.Steps.{Step, Sending}

abbrev pub order_takes : List Step → Sending → Bool
order_takes steps taken = fits Role.Order steps taken.0 taken.1

abbrev pub confirmed : Sending
confirmed = (STOCK_TO_ORDER, mug_reserved)

abbrev pub paid : Sending
paid = (PAYMENT_TO_ORDER, mug_paid)

abbrev pub not_paid : Sending
not_paid = no_payment pay.NoCard

abbrev pub shipped : Sending
shipped = (SHIPMENT_TO_ORDER, mug_shipped)

abbrev pub delivered : List Item → Sending
delivered items = (SHIPMENT_TO_ORDER, body.Delivered items)

abbrev pub mug_item : Item
mug_item = an_item basket mug

-- request 9 asked for the order before there was one
abbrev pub asked_9 : List Step
asked_9 = makes (request order_node 9 (ask.Order basket)) (refusal order_node 9 rule.NoOrder ∷ []) ∷ []

pub record OrderPaymentFits : Type 0 where
  pub new_request : order_takes [] (request order_node 9 (ask.Order basket)) ≡ true
  pub request_again : order_takes (asked_9 ++ mug_invoiced) (request order_node 9 (ask.Order basket)) ≡ false
  pub card_is_for_payments : order_takes [] (request order_node 9 (ask.Card 7 10000)) ≡ false
  pub checkout_once : order_takes [] confirmed ≡ true
  pub checkout_again : order_takes mug_invoiced confirmed ≡ false
  pub checkout_again_after_the_end : order_takes mug_is_cancelled confirmed ≡ false
  pub second_checkout : order_takes mug_invoiced (STOCK_TO_ORDER, body.StockConfirmed (an_id 7 6) 7 two_lines)
      ≡ true
  pub lines_by_falling_key :
      order_takes [] (
        STOCK_TO_ORDER,
        body.StockConfirmed basket 7 (a_line cup 1 30 60 100
            ∷ a_line mug 2 1000 50 100 ∷ []),
      ) ≡ false
  pub checkout_on_the_link_from_payments : order_takes [] (PAYMENT_TO_ORDER, mug_reserved) ≡ false
  pub invoice_is_for_payments : order_takes mug_invoiced (ORDER_TO_PAYMENT, mug_invoice) ≡ false
  pub payment : order_takes mug_invoiced paid ≡ true
  pub payment_of_other_customer : order_takes mug_invoiced
      (PAYMENT_TO_ORDER, body.Confirmed basket 8 mug_lines 1950) ≡ false
  pub payment_of_other_lines : order_takes mug_invoiced
      (PAYMENT_TO_ORDER, body.Confirmed basket 7 two_lines 2010) ≡ false
  pub payment_with_other_total : order_takes mug_invoiced
      (PAYMENT_TO_ORDER, body.Confirmed basket 7 mug_lines 1951) ≡ false
  pub payment_without_checkout : order_takes [] paid ≡ false
  pub payment_twice : order_takes mug_is_paid paid ≡ false
  pub payment_after_failure : order_takes mug_is_cancelled paid ≡ false
  pub payment_for_stock : order_takes mug_invoiced (PAYMENT_TO_STOCK, mug_paid) ≡ false
  pub failure : order_takes mug_invoiced not_paid ≡ true
  pub failure_of_other_customer : order_takes mug_invoiced (PAYMENT_TO_ORDER, body.Failed basket 8 pay.NoCard)
      ≡ false
  pub failure_without_checkout : order_takes [] not_paid ≡ false
  pub failure_twice : order_takes mug_is_cancelled not_paid ≡ false
  pub failure_after_payment : order_takes mug_is_paid not_paid ≡ false
  pub checkout_again_is_not_answered : reactions Role.Order mug_invoiced STOCK_TO_ORDER mug_reserved ≡ []
  pub checkout_once_is_answered : reactions Role.Order [] STOCK_TO_ORDER mug_reserved
      ≡ (ORDER_TO_SELLER, mug_invoice) ∷ (ORDER_TO_PAYMENT, mug_invoice) ∷ []

pub record OrderShipmentFits : Type 0 where
  pub shipment : order_takes mug_is_paid shipped ≡ true
  pub shipment_before_payment : order_takes mug_invoiced shipped ≡ false
  pub shipment_of_cancelled : order_takes mug_is_cancelled shipped ≡ false
  pub shipment_of_other_checkout : order_takes mug_is_paid (SHIPMENT_TO_ORDER, body.Shipped (an_id 7 6))
      ≡ false
  pub shipment_twice : order_takes mug_is_shipped shipped ≡ false
  pub shipment_for_sellers : order_takes mug_is_paid (SHIPMENT_TO_SELLER, mug_shipped) ≡ false
  pub delivery : order_takes mug_is_shipped (delivered (mug_item ∷ [])) ≡ true
  pub delivery_of_nothing : order_takes mug_is_shipped (delivered []) ≡ false
  pub delivery_before_shipment : order_takes mug_is_paid (delivered (mug_item ∷ [])) ≡ false
  pub delivery_twice : order_takes mug_is_delivered (delivered (mug_item ∷ [])) ≡ false
  pub item_twice : order_takes mug_is_shipped (delivered (mug_item ∷ mug_item ∷ [])) ≡ false
  pub item_of_no_line : order_takes mug_is_shipped (delivered (an_item basket cup ∷ [])) ≡ false
  pub item_of_other_checkout : order_takes mug_is_shipped (delivered (an_item (an_id 7 6) mug ∷ [])) ≡ false
  pub one_item_of_no_line : order_takes mug_is_shipped (delivered (mug_item ∷ an_item basket cup ∷ []))
      ≡ false
  pub delivery_of_the_rest : order_takes half_delivered (delivered (an_item (an_id 7 6) cup ∷ [])) ≡ true
  pub delivery_of_more_than_the_rest :
      order_takes half_delivered (delivered (an_item (an_id 7 6) mug ∷ an_item (an_id 7 6) cup ∷ [])) ≡ false
  pub item_of_other_customer : order_takes mug_is_shipped (delivered (strange_item basket mug ∷ [])) ≡ true
  pub two_customers_of_one_line : order_takes mug_is_shipped (delivered (mug_item ∷ strange_item basket mug
      ∷ [])) ≡ true
  pub own_item_after_that_of_other_customer : order_takes mug_to_8 (delivered (mug_item ∷ [])) ≡ true
  pub item_of_other_customer_after_the_own : order_takes mug_is_delivered (delivered (strange_item basket mug
      ∷ [])) ≡ true
  pub item_of_other_customer_twice : order_takes mug_to_8 (delivered (strange_item basket mug ∷ [])) ≡ false
  pub item_of_other_customer_of_no_line : order_takes mug_is_shipped (delivered (strange_item basket cup
      ∷ [])) ≡ false
  pub delivery_for_customers : order_takes mug_is_shipped (
    SHIPMENT_TO_CUSTOMER,
    body.Delivered (mug_item
        ∷ []),
  ) ≡ false

pub record OrderFits : Type 0 where
  pub payments : OrderPaymentFits
  pub shipments : OrderShipmentFits
