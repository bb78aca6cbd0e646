-- What one more step makes of cards and of what customers spent.
use Rattle.std.proofs.Common.{◌≡◌, ℕ, ◌+◌, Bool, true, false, ◌==◌, List, [], ◌∷◌, ◌++◌, Some, None, filter_map, if◌then◌else◌, sum_by, refl, ap, ◌∙◌, arith}
use Rattle.std.specs.Option.{option_or}
use Rattle.std.proofs.lemmas.List.Sums.{sum_by-append}
use Rattle.market_amounts.specs.declared.keys.RequestId.{RequestId}
use Rattle.market_events.specs.declared.bodies.Body.{Body}
use Rattle.market_events.specs.declared.bodies.Body.TheVariants as body
use Rattle.market_events.specs.declared.bodies.PayRule.{PayRule}
use Rattle.market_events.specs.declared.bodies.PricedLine.{PricedLine}
use Rattle.market_events.specs.declared.links.Link.{Link}
use Rattle.market_events.specs.declared.links.TheConstants.{PAYMENT_TO_STOCK}
use Rattle.market_events.specs.declared.requests.Ask.TheVariants as ask
use Rattle.market_events.specs.Copies.{last_some}
use Rattle.market_events.specs.Payments.{limit_in, limit_of, total_paid, spent, confirmed_rows, failed_rows, payment_sums, payment_rows}
use Rattle.market_events.specs.Services.{Role, answers}
use Rattle.market_events.specs.Steps.{Step, taken_bodies, body_on, made_on}
use Rattle.market_events.proofs.Steps.Copies.{last_some-push}
use Rattle.market_events.proofs.Steps.Taken.{taken_bodies-push, made_on-push}

-- limit: that of the step's body, where it sets one
pub limit_of-push : (steps : List Step) (s : Step) (customer : ℕ) → limit_of (steps ++ s ∷ []) customer ≡ option_or (limit_in customer s.body) (limit_of steps customer)
limit_of-push steps s customer = ap (last_some (limit_in customer)) (taken_bodies-push steps s) ∙ last_some-push (limit_in customer) (taken_bodies steps) s.body

-- limit: a step whose body sets none
pub limit_of-same : (steps : List Step) (s : Step) (customer : ℕ) → limit_in customer s.body ≡ None → limit_of (steps ++ s ∷ []) customer ≡ limit_of steps customer
limit_of-same steps s customer none = limit_of-push steps s customer ∙ rw none

-- limit: a card was set
pub limit_of-card : (steps : List Step) (s : Step) (id : RequestId) (c limit : ℕ) → s.body ≡ body.Asked (record { id = id; ask = ask.Card c limit }) → (customer : ℕ) → limit_of (steps ++ s ∷ []) customer ≡ (if c == customer then Some limit else limit_of steps customer)
limit_of-card steps s id c limit is customer = limit_of-push steps s customer ∙ ap (λ b. option_or (limit_in customer b) (limit_of steps customer)) is ∙ either (c == customer)
  where
    either : (b : Bool) → option_or (if b then Some limit else None) (limit_of steps customer) ≡ (if b then Some limit else limit_of steps customer)
    either true = refl
    either false = refl

-- spent: more by the payments that the step made
pub spent-push : (steps : List Step) (s : Step) (customer : ℕ) → spent (steps ++ s ∷ []) customer ≡ spent steps customer + sum_by (total_paid customer) (filter_map (body_on PAYMENT_TO_STOCK) s.made)
spent-push steps s customer = ap (sum_by (total_paid customer)) (made_on-push PAYMENT_TO_STOCK steps s) ∙ sum_by-append (total_paid customer) (made_on PAYMENT_TO_STOCK steps) (filter_map (body_on PAYMENT_TO_STOCK) s.made)

-- spent: a step that makes nothing for stock
pub spent-same : (steps : List Step) (s : Step) (customer : ℕ) → filter_map (body_on PAYMENT_TO_STOCK) s.made ≡ [] → spent (steps ++ s ∷ []) customer ≡ spent steps customer
spent-same steps s customer none = spent-push steps s customer ∙ rw none (omega arith)

-- spent: a payment was made
pub spent-confirmed : (steps : List Step) (s : Step) (checkout : RequestId) (c : ℕ) (lines : List PricedLine) (total : ℕ) → s.made ≡ confirmed_rows (body.Confirmed checkout c lines total) → (customer : ℕ) → spent (steps ++ s ∷ []) customer ≡ spent steps customer + (if c == customer then total else 0)
spent-confirmed steps s checkout c lines total made customer = spent-push steps s customer ∙ ap (λ m. spent steps customer + sum_by (total_paid customer) (filter_map (body_on PAYMENT_TO_STOCK) m)) made ∙ omega arith

-- spent: a payment failed
pub spent-failed : (steps : List Step) (s : Step) (checkout : RequestId) (c : ℕ) (reason : PayRule) → s.made ≡ failed_rows (body.Failed checkout c reason) → (customer : ℕ) → spent (steps ++ s ∷ []) customer ≡ spent steps customer
spent-failed steps s checkout c reason made customer = spent-push steps s customer ∙ ap (λ m. spent steps customer + sum_by (total_paid customer) (filter_map (body_on PAYMENT_TO_STOCK) m)) made ∙ omega arith

-- what payments answer
pub answers-payment : (steps : List Step) (from : Link) (b : Body) → answers Role.Payment steps from b ≡ payment_rows (payment_sums steps) b
unfolding answers
answers-payment steps from b = refl
