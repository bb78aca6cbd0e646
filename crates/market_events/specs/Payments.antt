-- Payments: what they answer, by the cards that were set and the payments that were made.
use Rattle.std.specs.Prelude.{ℕ, ◌+◌, ◌==◌, nat_le, List, [], ◌∷◌, Option, Some, None}
use Rattle.std.specs.Prelude.{if◌then◌else◌}
use Rattle.std.specs.List.{sum_by}
use Rattle.market_amounts.specs.declared.keys.RequestId.{RequestId}
use Rattle.market_events.specs.declared.bodies.Body.{Body}
use Rattle.market_events.specs.declared.bodies.Body.TheVariants as body
use Rattle.market_events.specs.declared.bodies.PayRule.TheVariants as pay
use Rattle.market_events.specs.declared.bodies.PricedLine.{PricedLine}
use Rattle.market_events.specs.declared.links.TheConstants.{PAYMENT_TO_STOCK, PAYMENT_TO_ORDER}
use Rattle.market_events.specs.declared.links.TheConstants.{PAYMENT_TO_SHIPMENT, PAYMENT_TO_CUSTOMER}
use Rattle.market_events.specs.declared.links.TheConstants.{PAYMENT_TO_SELLER}
use Rattle.market_events.specs.declared.replies.Reply.TheVariants as reply
use Rattle.market_events.specs.declared.requests.Ask.{Ask}
use Rattle.market_events.specs.declared.requests.Ask.TheVariants as ask
use Rattle.market_events.specs.Copies.{last_some}
use Rattle.market_events.specs.Links.{payment_node}
use Rattle.market_events.specs.Steps.{Step, Sending, taken_bodies, made_on, told}

-- the limit that a request sets for a customer
abbrev pub limit_asked : ℕ → Ask → Option ℕ
limit_asked customer (ask.Card c limit) = if c == customer then Some limit else None
limit_asked customer other = None

abbrev pub limit_in : ℕ → Body → Option ℕ
limit_in customer (body.Asked request) = limit_asked customer request.ask
limit_in customer other = None

-- the limit of the customer's last card
abbrev pub limit_of : List Step → ℕ → Option ℕ
limit_of steps customer = last_some (limit_in customer) (taken_bodies steps)

abbrev pub total_paid : ℕ → Body → ℕ
total_paid customer (body.Confirmed checkout c lines total) = if c == customer then total else 0
total_paid customer other = 0

-- the totals of the customer's payments, which stock is told of
abbrev pub spent : List Step → ℕ → ℕ
spent steps customer = sum_by (total_paid customer) (made_on PAYMENT_TO_STOCK steps)

pub record PaymentSums : Type 0 where
  pub limit : ℕ → Option ℕ
  pub spent : ℕ → ℕ

abbrev pub payment_sums : List Step → PaymentSums
payment_sums steps = record { limit = limit_of steps; spent = spent steps }

abbrev pub confirmed_rows : Body → List Sending
confirmed_rows b = (PAYMENT_TO_STOCK, b) ∷ (PAYMENT_TO_CUSTOMER, b) ∷ (PAYMENT_TO_SELLER, b)
    ∷ (PAYMENT_TO_ORDER, b) ∷ (PAYMENT_TO_SHIPMENT, b) ∷ []

abbrev pub failed_rows : Body → List Sending
failed_rows b =
    (PAYMENT_TO_STOCK, b) ∷ (PAYMENT_TO_CUSTOMER, b) ∷ (PAYMENT_TO_SELLER, b) ∷ (PAYMENT_TO_ORDER, b) ∷ []

-- an invoice is paid where there is a card and its limit is not passed
abbrev pub invoice_rows : RequestId → ℕ → List PricedLine → ℕ → Option ℕ → ℕ → List Sending
invoice_rows checkout customer lines total None before =
    failed_rows (body.Failed checkout customer pay.NoCard)
invoice_rows checkout customer lines total (Some limit) before =
    if nat_le (before + total) limit then confirmed_rows (body.Confirmed checkout customer lines total)
    else failed_rows (body.Failed checkout customer pay.OverLimit)

abbrev pub payment_asked : PaymentSums → RequestId → Ask → List Sending
payment_asked s id (ask.Card customer limit) = told payment_node id (reply.Card limit) ∷ []
payment_asked s id other = []

abbrev pub payment_rows : PaymentSums → Body → List Sending
payment_rows s (body.Asked request) = payment_asked s request.id request.ask
payment_rows s (body.Invoice checkout customer lines total) =
    invoice_rows checkout customer lines total (s.limit customer) (s.spent customer)
payment_rows s other = []
