-- What payments answer, case by case.
use Rattle.std.specs.Prelude.{◌≡◌, ℕ, List, [], ◌∷◌}
use Rattle.market_events.specs.declared.bodies.Body.{Body}
use Rattle.market_events.specs.declared.bodies.Body.TheVariants as body
use Rattle.market_events.specs.declared.bodies.PayRule.{PayRule}
use Rattle.market_events.specs.declared.bodies.PayRule.TheVariants as pay
use Rattle.market_events.specs.declared.bodies.PricedLine.{PricedLine}
use Rattle.market_events.specs.declared.links.TheConstants.{ORDER_TO_PAYMENT, PAYMENT_TO_STOCK}
use Rattle.market_events.specs.declared.links.TheConstants.{PAYMENT_TO_ORDER, PAYMENT_TO_SHIPMENT}
use Rattle.market_events.specs.declared.links.TheConstants.{PAYMENT_TO_CUSTOMER, PAYMENT_TO_SELLER}
use Rattle.market_events.specs.declared.replies.Reply.TheVariants as reply
use Rattle.market_events.specs.declared.requests.Ask.TheVariants as ask
use Rattle.market_events.specs.Examples.{an_id, a_line, request, answer, makes, mug, basket, mug_lines}
use Rattle.market_events.specs.Examples.{mug_invoice, mug_paid}
use Rattle.market_events.specs.Links.{payment_node}
use Rattle.market_events.specs.Services.{Role, answers}
use Rattle.market_events.specs.Steps.{Step, Sending}

abbrev pub payment_makes : List Step → Sending → List Sending
payment_makes steps taken = answers Role.Payment steps taken.0 taken.1

-- the card of a customer with this limit, by the request with this number
abbrev pub sets_card : ℕ → ℕ → ℕ → Step
sets_card number customer limit =
    makes (request payment_node number (ask.Card customer limit))
    (answer payment_node number (reply.Card limit) ∷ [])

-- that the checkout is paid goes to stock, customers, sellers, orders and shipments
abbrev pub to_five : Body → List Sending
to_five b = (PAYMENT_TO_STOCK, b) ∷ (PAYMENT_TO_CUSTOMER, b) ∷ (PAYMENT_TO_SELLER, b) ∷ (PAYMENT_TO_ORDER, b)
    ∷ (PAYMENT_TO_SHIPMENT, b) ∷ []

-- that it is not goes to all of these but shipments
abbrev pub to_four : Body → List Sending
to_four b =
    (PAYMENT_TO_STOCK, b) ∷ (PAYMENT_TO_CUSTOMER, b) ∷ (PAYMENT_TO_SELLER, b) ∷ (PAYMENT_TO_ORDER, b) ∷ []

abbrev pub fails_by : PayRule → List Sending
fails_by rule = to_four (body.Failed basket 7 rule)

-- the invoice of the base workload, over 1950, and another over as much, of checkout 6 of a customer
abbrev pub mug_bill : Sending
mug_bill = (ORDER_TO_PAYMENT, mug_invoice)

abbrev pub was_paid : List Step
was_paid = sets_card 3 7 10000 ∷ makes mug_bill (to_five mug_paid) ∷ []

abbrev pub other_bill : ℕ → Sending
other_bill customer = (ORDER_TO_PAYMENT, body.Invoice (an_id 7 6) customer mug_lines 1950)

abbrev pub other_paid : ℕ → List Sending
other_paid customer = to_five (body.Confirmed (an_id 7 6) customer mug_lines 1950)

abbrev pub pays_other : ℕ → Step
pays_other customer = makes (other_bill customer) (other_paid customer)

-- a mug of 50 with a voucher of 50
abbrev pub free_lines : List PricedLine
free_lines = a_line mug 1 50 0 50 ∷ []

abbrev pub free_bill : Sending
free_bill = (ORDER_TO_PAYMENT, body.Invoice basket 7 free_lines 0)

pub record PaymentExamples : Type 0 where
  pub card_is_told : payment_makes [] (request payment_node 9 (ask.Card 7 10000))
      ≡ answer payment_node 9 (reply.Card 10000) ∷ []
  pub card_again_is_told : payment_makes (sets_card 3 7 10000 ∷ []) (request payment_node 9 (ask.Card 7 500))
      ≡ answer payment_node 9 (reply.Card 500) ∷ []
  pub invoice_of_base : payment_makes (sets_card 3 7 10000 ∷ []) mug_bill ≡ to_five mug_paid
  pub invoice_at_the_limit : payment_makes (sets_card 3 7 1950 ∷ []) mug_bill ≡ to_five mug_paid
  pub invoice_one_over_the_limit : payment_makes (sets_card 3 7 1949 ∷ []) mug_bill ≡ fails_by pay.OverLimit
  pub invoice_without_card : payment_makes [] mug_bill ≡ fails_by pay.NoCard
  pub card_of_other_customer_is_none : payment_makes (sets_card 3 8 10000 ∷ []) mug_bill ≡ fails_by pay.NoCard
  pub last_card_counts : payment_makes (sets_card 3 7 10000 ∷ sets_card 4 7 1949 ∷ []) mug_bill
      ≡ fails_by pay.OverLimit
  pub last_card_counts_upwards : payment_makes (sets_card 3 7 1949 ∷ sets_card 4 7 1950 ∷ []) mug_bill
      ≡ to_five mug_paid
  -- what was spent before
  pub second_invoice_at_the_limit : payment_makes (sets_card 3 7 3900 ∷ pays_other 7 ∷ []) mug_bill
      ≡ to_five mug_paid
  pub second_invoice_one_over_the_limit : payment_makes (sets_card 3 7 3899 ∷ pays_other 7 ∷ []) mug_bill
      ≡ fails_by pay.OverLimit
  pub card_sets_nothing_back : payment_makes (sets_card 3 7 1950 ∷ pays_other 7 ∷ sets_card 4 7 1950
      ∷ []) mug_bill ≡ fails_by pay.OverLimit
  pub failed_payment_spends_nothing :
      payment_makes
      (sets_card 3 7 1949 ∷ makes (other_bill 7) (to_four (body.Failed (an_id 7 6) 7 pay.OverLimit))
      ∷ sets_card 4 7 1950 ∷ []) mug_bill
      ≡ to_five mug_paid
  pub other_customer_spends_his_own :
      payment_makes (sets_card 3 7 1950 ∷ sets_card 4 8 1950 ∷ pays_other 8 ∷ []) mug_bill ≡ to_five mug_paid
  -- an invoice over 0
  pub free_with_card_of_0 : payment_makes (sets_card 3 7 0 ∷ []) free_bill
      ≡ to_five (body.Confirmed basket 7 free_lines 0)
  pub free_without_card : payment_makes [] free_bill ≡ fails_by pay.NoCard
