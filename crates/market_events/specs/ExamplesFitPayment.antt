-- Which inputs fit payments, shipments and customers, case by case.
use Rattle.std.specs.Prelude.{◌≡◌, Bool, true, false, List, [], ◌∷◌}
use Rattle.market_events.specs.declared.bodies.Body.TheVariants as body
use Rattle.market_events.specs.declared.bodies.Item.{Item}
use Rattle.market_events.specs.declared.bodies.PayRule.TheVariants as pay
use Rattle.market_events.specs.declared.links.TheConstants.{ORDER_TO_PAYMENT, ORDER_TO_SELLER}
use Rattle.market_events.specs.declared.links.TheConstants.{PAYMENT_TO_STOCK, PAYMENT_TO_ORDER}
use Rattle.market_events.specs.declared.links.TheConstants.{PAYMENT_TO_SHIPMENT, PAYMENT_TO_CUSTOMER}
use Rattle.market_events.specs.declared.links.TheConstants.{PAYMENT_TO_SELLER, SHIPMENT_TO_ORDER}
use Rattle.market_events.specs.declared.links.TheConstants.{SHIPMENT_TO_SELLER, SHIPMENT_TO_CUSTOMER}
use Rattle.market_events.specs.declared.replies.Reply.TheVariants as reply
use Rattle.market_events.specs.declared.requests.Ask.TheVariants as ask
use Rattle.market_events.specs.Examples.{an_id, an_item, strange_item, request, answer, makes, quiet, mug}
use Rattle.market_events.specs.Examples.{cup, basket, mug_lines, mug_invoice, mug_paid, mug_shipped}
use Rattle.market_events.specs.ExamplesCustomer.{base_paid, base_delivered, two_delivered}
use Rattle.market_events.specs.ExamplesPayment.{mug_bill, was_paid, other_bill, fails_by}
use Rattle.market_events.specs.ExamplesShipment.{deliver, nothing_arrives, base_shipped}
use Rattle.market_events.specs.Links.{payment_node, shipment_node, customer_node}
use Rattle.market_events.specs.Services.{Role, fits, reactions}
use Rattle.market_events.specs.Steps.{Step, Sending}

abbrev pub payment_takes : List Step → Sending → Bool
payment_takes steps taken = fits Role.Payment steps taken.0 taken.1

-- the base workload's invoice was not paid for want of a card
abbrev pub was_not_paid : List Step
was_not_paid = makes mug_bill (fails_by pay.NoCard) ∷ []

pub record PaymentFits : Type 0 where
  pub new_request : payment_takes was_paid (request payment_node 9 (ask.Card 7 10000)) ≡ true
  pub request_again : payment_takes was_paid (request payment_node 3 (ask.Card 7 10000)) ≡ false
  pub order_is_for_orders : payment_takes was_paid (request payment_node 9 (ask.Order basket)) ≡ false
  pub card_of_the_greatest_limit : payment_takes [] (request payment_node 9 (ask.Card 7 1000000000000000))
      ≡ true
  pub card_above_it : payment_takes [] (request payment_node 9 (ask.Card 7 1000000000000001)) ≡ false
  pub invoice_once : payment_takes [] mug_bill ≡ true
  pub invoice_again : payment_takes was_paid mug_bill ≡ false
  pub invoice_again_after_failure : payment_takes was_not_paid mug_bill ≡ false
  pub second_invoice : payment_takes was_paid (other_bill 7) ≡ true
  pub invoice_with_other_total : payment_takes [] (ORDER_TO_PAYMENT, body.Invoice basket 7 mug_lines 1949)
      ≡ false
  pub invoice_for_sellers : payment_takes [] (ORDER_TO_SELLER, mug_invoice) ≡ false
  pub payment_is_for_stock : payment_takes was_paid (PAYMENT_TO_STOCK, mug_paid) ≡ false
  pub invoice_once_is_answered : reactions Role.Payment [] ORDER_TO_PAYMENT mug_invoice ≡ fails_by pay.NoCard
  pub invoice_again_is_not : reactions Role.Payment was_paid ORDER_TO_PAYMENT mug_invoice ≡ []

abbrev pub shipment_takes : List Step → Sending → Bool
shipment_takes steps taken = fits Role.Shipment steps taken.0 taken.1

pub record ShipmentFits : Type 0 where
  pub new_request : shipment_takes base_shipped (deliver 9) ≡ true
  pub request_again : shipment_takes (makes (deliver 9) (nothing_arrives 9) ∷ base_shipped) (deliver 9)
      ≡ false
  pub card_is_for_payments : shipment_takes base_shipped (request shipment_node 9 (ask.Card 7 10000)) ≡ false
  pub payment_once : shipment_takes [] (PAYMENT_TO_SHIPMENT, mug_paid) ≡ true
  pub payment_twice : shipment_takes base_shipped (PAYMENT_TO_SHIPMENT, mug_paid) ≡ false
  pub second_payment : shipment_takes base_shipped
      (PAYMENT_TO_SHIPMENT, body.Confirmed (an_id 7 6) 7 mug_lines 1950) ≡ true
  pub payment_with_other_total : shipment_takes []
      (PAYMENT_TO_SHIPMENT, body.Confirmed basket 7 mug_lines 1949) ≡ false
  pub payment_for_orders : shipment_takes [] (PAYMENT_TO_ORDER, mug_paid) ≡ false
  pub failure_is_not_for_shipments : shipment_takes [] (PAYMENT_TO_SHIPMENT, body.Failed basket 7 pay.NoCard)
      ≡ false
  pub shipment_is_for_orders : shipment_takes base_shipped (SHIPMENT_TO_ORDER, mug_shipped) ≡ false
  pub payment_once_is_answered : reactions Role.Shipment [] PAYMENT_TO_SHIPMENT mug_paid
      ≡ (SHIPMENT_TO_SELLER, mug_shipped) ∷ (SHIPMENT_TO_ORDER, mug_shipped) ∷ []
  pub payment_twice_is_not : reactions Role.Shipment base_shipped PAYMENT_TO_SHIPMENT mug_paid ≡ []

abbrev pub customer_takes : List Step → Sending → Bool
customer_takes steps taken = fits Role.Customer steps taken.0 taken.1

abbrev pub paid : Sending
paid = (PAYMENT_TO_CUSTOMER, mug_paid)

abbrev pub not_paid : Sending
not_paid = (PAYMENT_TO_CUSTOMER, body.Failed basket 7 pay.NoCard)

abbrev pub delivered : List Item → Sending
delivered items = (SHIPMENT_TO_CUSTOMER, body.Delivered items)

abbrev pub mug_item : Item
mug_item = an_item basket mug

abbrev pub cup_item : Item
cup_item = an_item basket cup

abbrev pub base_failed : List Step
base_failed = quiet not_paid ∷ []

-- request 9 asked for the counts of customer 8
abbrev pub asked_9 : List Step
asked_9 =
    makes (request customer_node 9 (ask.Customer 8)) (answer customer_node 9 (reply.Customer 0 0 0) ∷ []) ∷ []

pub record CustomerFits : Type 0 where
  pub new_request : customer_takes base_paid (request customer_node 9 (ask.Customer 7)) ≡ true
  pub request_again : customer_takes asked_9 (request customer_node 9 (ask.Customer 8)) ≡ false
  pub id_again_with_other_request : customer_takes asked_9 (request customer_node 9 (ask.Customer 7)) ≡ false
  pub dashboard_is_for_sellers : customer_takes base_paid (request customer_node 9 (ask.Dashboard 5)) ≡ false
  pub payment_once : customer_takes [] paid ≡ true
  pub payment_twice : customer_takes base_paid paid ≡ false
  pub payment_after_failure : customer_takes base_failed paid ≡ false
  pub payment_for_sellers : customer_takes [] (PAYMENT_TO_SELLER, mug_paid) ≡ false
  pub failure_once : customer_takes [] not_paid ≡ true
  pub failure_twice : customer_takes base_failed not_paid ≡ false
  pub failure_after_payment : customer_takes base_paid not_paid ≡ false
  pub failure_of_other_checkout : customer_takes base_paid
      (PAYMENT_TO_CUSTOMER, body.Failed (an_id 7 6) 7 pay.NoCard) ≡ true
  pub delivery_once : customer_takes base_paid (delivered (mug_item ∷ [])) ≡ true
  pub delivery_of_two : customer_takes base_paid (delivered (mug_item ∷ cup_item ∷ [])) ≡ true
  pub delivery_of_nothing : customer_takes base_paid (delivered []) ≡ false
  pub delivery_twice : customer_takes base_delivered (delivered (mug_item ∷ [])) ≡ false
  pub one_item_delivered_twice : customer_takes base_delivered (delivered (cup_item ∷ mug_item ∷ [])) ≡ false
  pub item_twice : customer_takes base_paid (delivered (mug_item ∷ cup_item ∷ mug_item ∷ [])) ≡ false
  pub item_of_other_customer : customer_takes base_delivered (delivered (strange_item basket mug ∷ [])) ≡ true
  pub two_customers_of_one_line : customer_takes base_paid (delivered (mug_item ∷ strange_item basket mug
      ∷ [])) ≡ true
  pub item_of_other_customer_twice : customer_takes two_delivered (delivered (strange_item basket mug ∷ []))
      ≡ false
  pub delivery_for_sellers : customer_takes base_paid (SHIPMENT_TO_SELLER, body.Delivered (mug_item ∷ []))
      ≡ false
  pub shipment_is_not_for_customers : customer_takes base_paid (SHIPMENT_TO_CUSTOMER, mug_shipped) ≡ false
