-- Which inputs fit sellers, case by case.
use Rattle.std.specs.Prelude.{◌≡◌, Bool, true, false, List, [], ◌∷◌}
use Rattle.market_events.specs.declared.bodies.Body.TheVariants as body
use Rattle.market_events.specs.declared.bodies.Item.{Item}
use Rattle.market_events.specs.declared.bodies.PayRule.TheVariants as pay
use Rattle.market_events.specs.declared.links.TheConstants.{ORDER_TO_PAYMENT, ORDER_TO_SELLER}
use Rattle.market_events.specs.declared.links.TheConstants.{PAYMENT_TO_CUSTOMER, PAYMENT_TO_SELLER}
use Rattle.market_events.specs.declared.links.TheConstants.{SHIPMENT_TO_ORDER, SHIPMENT_TO_SELLER}
use Rattle.market_events.specs.declared.requests.Ask.TheVariants as ask
use Rattle.market_events.specs.Examples.{an_id, an_item, strange_item, request, makes, mug, cup, pot, basket}
use Rattle.market_events.specs.Examples.{mug_lines, mug_invoice, mug_paid, mug_shipped, asked_by_7}
use Rattle.market_events.specs.ExamplesSeller.{base_invoiced, base_paid, base_shipped, base_delivered}
use Rattle.market_events.specs.ExamplesSeller.{two_delivered, base_cancelled, three_lines, three_shipped}
use Rattle.market_events.specs.ExamplesSeller.{one_delivered, ask_of, shows}
use Rattle.market_events.specs.Links.{seller_node}
use Rattle.market_events.specs.Services.{Role, fits, reactions}
use Rattle.market_events.specs.Steps.{Step, Sending}

abbrev pub seller_takes : List Step → Sending → Bool
seller_takes steps taken = fits Role.Seller steps taken.0 taken.1

abbrev pub invoiced : Sending
invoiced = (ORDER_TO_SELLER, mug_invoice)

abbrev pub paid : Sending
paid = (PAYMENT_TO_SELLER, mug_paid)

abbrev pub not_paid : Sending
not_paid = (PAYMENT_TO_SELLER, body.Failed basket 7 pay.NoCard)

abbrev pub shipped : Sending
shipped = (SHIPMENT_TO_SELLER, mug_shipped)

abbrev pub delivered : List Item → Sending
delivered items = (SHIPMENT_TO_SELLER, body.Delivered items)

abbrev pub mug_item : Item
mug_item = an_item basket mug

-- the dashboard of seller 5 was asked for, when there was none
abbrev pub asked_9 : List Step
asked_9 = makes (ask_of 5) (shows 0 0 0 []) ∷ []

pub record SellerFits : Type 0 where
  pub new_request : seller_takes base_shipped (ask_of 5) ≡ true
  pub request_again : seller_takes asked_9 (ask_of 5) ≡ false
  pub id_again_with_other_request : seller_takes asked_9 (ask_of 6) ≡ false
  pub customer_is_for_customers : seller_takes base_shipped (request seller_node 9 (ask.Customer 7)) ≡ false
  pub invoice_once : seller_takes [] invoiced ≡ true
  pub invoice_again : seller_takes base_invoiced invoiced ≡ false
  pub invoice_with_other_total : seller_takes [] (ORDER_TO_SELLER, body.Invoice basket 7 mug_lines 1949)
      ≡ false
  pub invoice_for_payments : seller_takes [] (ORDER_TO_PAYMENT, mug_invoice) ≡ false
  pub payment : seller_takes base_invoiced paid ≡ true
  pub payment_before_invoice : seller_takes [] paid ≡ false
  pub payment_of_other_customer : seller_takes base_invoiced
      (PAYMENT_TO_SELLER, body.Confirmed basket 8 mug_lines 1950) ≡ false
  pub payment_of_other_lines : seller_takes base_invoiced
      (PAYMENT_TO_SELLER, body.Confirmed basket 7 three_lines 1260) ≡ false
  pub payment_twice : seller_takes base_paid paid ≡ false
  pub payment_after_failure : seller_takes base_cancelled paid ≡ false
  pub payment_for_customers : seller_takes base_invoiced (PAYMENT_TO_CUSTOMER, mug_paid) ≡ false
  pub failure : seller_takes base_invoiced not_paid ≡ true
  pub failure_before_invoice : seller_takes [] not_paid ≡ false
  pub failure_of_other_customer : seller_takes base_invoiced
      (PAYMENT_TO_SELLER, body.Failed basket 8 pay.NoCard) ≡ false
  pub failure_after_payment : seller_takes base_paid not_paid ≡ false
  pub failure_twice : seller_takes base_cancelled not_paid ≡ false
  pub shipment : seller_takes base_paid shipped ≡ true
  pub shipment_before_payment : seller_takes base_invoiced shipped ≡ false
  pub shipment_twice : seller_takes base_shipped shipped ≡ false
  pub shipment_for_orders : seller_takes base_paid (SHIPMENT_TO_ORDER, mug_shipped) ≡ false
  pub delivery : seller_takes base_shipped (delivered (mug_item ∷ [])) ≡ true
  pub delivery_before_shipment : seller_takes base_paid (delivered (mug_item ∷ [])) ≡ false
  pub delivery_twice : seller_takes base_delivered (delivered (mug_item ∷ [])) ≡ false
  pub item_twice : seller_takes base_shipped (delivered (mug_item ∷ mug_item ∷ [])) ≡ false
  pub item_of_no_line : seller_takes base_shipped (delivered (an_item basket cup ∷ [])) ≡ false
  pub items_of_two_checkouts :
      seller_takes three_shipped (delivered (mug_item ∷ an_item (an_id 7 6) mug ∷ an_item (an_id 7 6) pot
      ∷ [])) ≡ true
  pub one_item_delivered_twice : seller_takes one_delivered (delivered (mug_item ∷ an_item (an_id 7 6) mug
      ∷ [])) ≡ false
  pub delivery_of_the_rest : seller_takes one_delivered (delivered (mug_item ∷ an_item (an_id 7 6) cup ∷ []))
      ≡ true
  pub item_of_other_customer : seller_takes base_shipped (delivered (strange_item basket mug ∷ [])) ≡ true
  pub two_customers_of_one_line : seller_takes base_shipped (delivered (mug_item ∷ strange_item basket mug
      ∷ [])) ≡ true
  pub item_of_other_customer_after_the_own : seller_takes base_delivered (delivered (strange_item basket mug
      ∷ [])) ≡ true
  pub item_of_other_customer_twice : seller_takes two_delivered (delivered (strange_item basket mug ∷ []))
      ≡ false
  pub item_of_other_customer_of_no_line : seller_takes base_shipped (delivered (strange_item basket cup ∷ []))
      ≡ false
  pub new_request_is_answered :
      reactions Role.Seller [] (asked_by_7 seller_node)
      (body.Asked (record { id = an_id 7 9; ask = ask.Dashboard 5 }))
      ≡ shows 0 0 0 []
  pub request_again_is_not :
      reactions Role.Seller asked_9 (asked_by_7 seller_node)
      (body.Asked (record { id = an_id 7 9; ask = ask.Dashboard 6 })) ≡ []
