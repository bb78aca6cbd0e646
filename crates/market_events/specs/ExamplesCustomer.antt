-- What customers answer, case by case.
use Rattle.std.specs.Prelude.{◌≡◌, ℕ, List, [], ◌∷◌, ◌++◌}
use Rattle.market_events.specs.declared.bodies.Body.TheVariants as body
use Rattle.market_events.specs.declared.bodies.PayRule.TheVariants as pay
use Rattle.market_events.specs.declared.links.TheConstants.{PAYMENT_TO_CUSTOMER, SHIPMENT_TO_CUSTOMER}
use Rattle.market_events.specs.declared.replies.Reply.TheVariants as reply
use Rattle.market_events.specs.declared.requests.Ask.TheVariants as ask
use Rattle.market_events.specs.Examples.{an_id, an_item, strange_item, request, answer, quiet, mug, cup}
use Rattle.market_events.specs.Examples.{basket, mug_lines, mug_paid}
use Rattle.market_events.specs.Links.{customer_node}
use Rattle.market_events.specs.Services.{Role, answers}
use Rattle.market_events.specs.Steps.{Step, Sending}

abbrev pub customer_makes : List Step → Sending → List Sending
customer_makes steps taken = answers Role.Customer steps taken.0 taken.1

-- request 9 asks for the counts of a customer
abbrev pub ask_of : ℕ → Sending
ask_of customer = request customer_node 9 (ask.Customer customer)

abbrev pub counts : ℕ → ℕ → ℕ → List Sending
counts confirmed failed delivered = answer customer_node 9 (reply.Customer confirmed failed delivered) ∷ []

-- the base workload is paid, and its mug arrives
abbrev pub base_paid : List Step
base_paid = quiet (PAYMENT_TO_CUSTOMER, mug_paid) ∷ []

abbrev pub base_delivered : List Step
base_delivered = base_paid ++ quiet (SHIPMENT_TO_CUSTOMER, body.Delivered (an_item basket mug ∷ [])) ∷ []

-- and the same line once more, with the name of customer 8
abbrev pub two_delivered : List Step
two_delivered =
    base_delivered ++ quiet (SHIPMENT_TO_CUSTOMER, body.Delivered (strange_item basket mug ∷ [])) ∷ []

-- then checkout 6 of the customer fails, 7 is paid, and 8 of customer 9 is paid
abbrev pub two_paid : List Step
two_paid =
    base_delivered ++ quiet (PAYMENT_TO_CUSTOMER, body.Failed (an_id 7 6) 7 pay.OverLimit)
    ∷ quiet (PAYMENT_TO_CUSTOMER, body.Confirmed (an_id 7 7) 7 mug_lines 1950)
    ∷ quiet (PAYMENT_TO_CUSTOMER, body.Confirmed (an_id 7 8) 9 mug_lines 1950) ∷ []

-- and two packages arrive together: one of checkout 7, and one of customer 9
abbrev pub two_arrived : List Step
two_arrived =
    two_paid
    ++ quiet (
      SHIPMENT_TO_CUSTOMER,
      body.Delivered (an_item (an_id 7 7) mug
          ∷ record { checkout = an_id 7 8; customer = 9; key = mug } ∷ []),
    ) ∷ []

pub record CustomerExamples : Type 0 where
  pub customer_without_payments : customer_makes [] (ask_of 7) ≡ counts 0 0 0
  pub customer_after_payment : customer_makes base_paid (ask_of 7) ≡ counts 1 0 0
  pub customer_after_delivery : customer_makes base_delivered (ask_of 7) ≡ counts 1 0 1
  pub other_customer_has_his_own : customer_makes base_delivered (ask_of 9) ≡ counts 0 0 0
  pub customer_with_a_line_of_another : customer_makes two_delivered (ask_of 7) ≡ counts 1 0 1
  pub customer_with_a_line_of_no_checkout : customer_makes two_delivered (ask_of 8) ≡ counts 0 0 1
  pub customer_after_failure : customer_makes two_paid (ask_of 7) ≡ counts 2 1 1
  pub customer_after_two_deliveries : customer_makes two_arrived (ask_of 7) ≡ counts 2 1 2
  pub customer_9_after_his_delivery : customer_makes two_arrived (ask_of 9) ≡ counts 1 0 1
  pub two_packages_of_one_checkout :
      customer_makes (quiet (
        SHIPMENT_TO_CUSTOMER,
        body.Delivered (an_item basket mug ∷ an_item basket cup
            ∷ []),
      ) ∷ []) (ask_of 7) ≡ counts 0 0 2
  pub payment_is_nothing : customer_makes [] (PAYMENT_TO_CUSTOMER, mug_paid) ≡ []
  pub failure_is_nothing : customer_makes [] (PAYMENT_TO_CUSTOMER, body.Failed basket 7 pay.NoCard) ≡ []
  pub delivery_is_nothing : customer_makes base_paid (
    SHIPMENT_TO_CUSTOMER,
    body.Delivered (an_item basket mug
        ∷ []),
  ) ≡ []
