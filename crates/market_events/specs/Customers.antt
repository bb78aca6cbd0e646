-- Customers: what they answer, by the payments and the deliveries that were taken.
use Rattle.std.specs.Prelude.{ℕ, Bool, false, ◌==◌, List, [], ◌∷◌}
use Rattle.std.specs.List.{count_by}
use Rattle.market_amounts.specs.declared.keys.RequestId.{RequestId}
use Rattle.market_events.specs.declared.bodies.Body.{Body}
use Rattle.market_events.specs.declared.bodies.Body.TheVariants as body
use Rattle.market_events.specs.declared.bodies.Item.{Item}
use Rattle.market_events.specs.declared.replies.Reply.TheVariants as reply
use Rattle.market_events.specs.declared.requests.Ask.{Ask}
use Rattle.market_events.specs.declared.requests.Ask.TheVariants as ask
use Rattle.market_events.specs.Links.{customer_node}
use Rattle.market_events.specs.Orders.{items_taken}
use Rattle.market_events.specs.Steps.{Step, Sending, taken_bodies, told}

abbrev pub confirms_for : ℕ → Body → Bool
confirms_for customer (body.Confirmed checkout c lines total) = c == customer
confirms_for customer other = false

abbrev pub fails_for : ℕ → Body → Bool
fails_for customer (body.Failed checkout c rule) = c == customer
fails_for customer other = false

-- the payments of a customer that were confirmed, those that failed, and the packages that were delivered
abbrev pub confirmed_count : List Step → ℕ → ℕ
confirmed_count steps customer = count_by (confirms_for customer) (taken_bodies steps)

abbrev pub failed_count : List Step → ℕ → ℕ
failed_count steps customer = count_by (fails_for customer) (taken_bodies steps)

abbrev pub delivered_count : List Step → ℕ → ℕ
delivered_count steps customer = count_by (λ (i : Item). i.customer == customer) (items_taken steps)

pub record CustomerSums : Type 0 where
  pub confirmed : ℕ → ℕ
  pub failed : ℕ → ℕ
  pub delivered : ℕ → ℕ

abbrev pub customer_sums : List Step → CustomerSums
customer_sums steps =
    record {
      confirmed = confirmed_count steps;
      failed = failed_count steps;
      delivered = delivered_count steps;
    }

abbrev pub customer_asked : CustomerSums → RequestId → Ask → List Sending
customer_asked s id (ask.Customer customer) =
    told customer_node id (reply.Customer (s.confirmed customer) (s.failed customer) (s.delivered customer))
    ∷ []
customer_asked s id other = []

abbrev pub customer_rows : CustomerSums → Body → List Sending
customer_rows s (body.Asked request) = customer_asked s request.id request.ask
customer_rows s other = []
