-- What one more step makes of the counts of customers.
use Rattle.std.proofs.Common.{◌≡◌, ℕ, ◌+◌, ◌≤◌, Bool, false, cond, ◌==◌, List, [], ◌∷◌, ◌++◌, length, if◌then◌else◌, count_by, refl, ap, ◌∙◌, arith}
use Rattle.std.proofs.lemmas.List.{length-map}
use Rattle.std.proofs.lemmas.List.Sums.{sum_by-append, sum_by_push, count_by-le-length}
use Rattle.market_amounts.specs.declared.keys.RequestId.{RequestId}
use Rattle.market_events.specs.declared.bodies.Body.{Body}
use Rattle.market_events.specs.declared.bodies.Body.TheVariants as body
use Rattle.market_events.specs.declared.bodies.Item.{Item}
use Rattle.market_events.specs.declared.bodies.PayRule.{PayRule}
use Rattle.market_events.specs.declared.bodies.PricedLine.{PricedLine}
use Rattle.market_events.specs.declared.links.Link.{Link}
use Rattle.market_events.specs.Customers.{confirms_for, fails_for, confirmed_count, failed_count, delivered_count, customer_sums, customer_rows}
use Rattle.market_events.specs.Orders.{items_in, items_taken}
use Rattle.market_events.specs.Services.{Role, answers}
use Rattle.market_events.specs.Steps.{Step, taken_bodies}
use Rattle.market_events.proofs.Steps.Orders.{items_taken-push}
use Rattle.market_events.proofs.Steps.Taken.{taken_bodies-push}

-- a count of bodies: one more, where the step's body passes
count-taken-push : (test : Body → Bool) (steps : List Step) (s : Step) → count_by test (taken_bodies (steps ++ s ∷ [])) ≡ count_by test (taken_bodies steps) + (if test s.body then 1 else 0)
count-taken-push test steps s = ap (count_by test) (taken_bodies-push steps s) ∙ sum_by_push (λ b. cond (test b) 1 0) (taken_bodies steps) s.body

-- confirmed: one more, where the step's body is a payment of the customer
pub confirmed_count-push : (steps : List Step) (s : Step) (customer : ℕ) → confirmed_count (steps ++ s ∷ []) customer ≡ confirmed_count steps customer + (if confirms_for customer s.body then 1 else 0)
confirmed_count-push steps s customer = count-taken-push (confirms_for customer) steps s

-- confirmed: any other step
pub confirmed_count-same : (steps : List Step) (s : Step) (customer : ℕ) → confirms_for customer s.body ≡ false → confirmed_count (steps ++ s ∷ []) customer ≡ confirmed_count steps customer
confirmed_count-same steps s customer other = confirmed_count-push steps s customer ∙ rw other (omega arith)

-- confirmed: a payment was taken
pub confirmed_count-confirmed : (steps : List Step) (s : Step) (checkout : RequestId) (c : ℕ) (lines : List PricedLine) (total : ℕ) → s.body ≡ body.Confirmed checkout c lines total → (customer : ℕ) → confirmed_count (steps ++ s ∷ []) customer ≡ confirmed_count steps customer + (if c == customer then 1 else 0)
confirmed_count-confirmed steps s checkout c lines total is customer = confirmed_count-push steps s customer ∙ ap (λ b. confirmed_count steps customer + (if confirms_for customer b then 1 else 0)) is

-- failed: one more, where the step's body says that a payment of the customer failed
pub failed_count-push : (steps : List Step) (s : Step) (customer : ℕ) → failed_count (steps ++ s ∷ []) customer ≡ failed_count steps customer + (if fails_for customer s.body then 1 else 0)
failed_count-push steps s customer = count-taken-push (fails_for customer) steps s

-- failed: any other step
pub failed_count-same : (steps : List Step) (s : Step) (customer : ℕ) → fails_for customer s.body ≡ false → failed_count (steps ++ s ∷ []) customer ≡ failed_count steps customer
failed_count-same steps s customer other = failed_count-push steps s customer ∙ rw other (omega arith)

-- failed: a payment failed
pub failed_count-failed : (steps : List Step) (s : Step) (checkout : RequestId) (c : ℕ) (reason : PayRule) → s.body ≡ body.Failed checkout c reason → (customer : ℕ) → failed_count (steps ++ s ∷ []) customer ≡ failed_count steps customer + (if c == customer then 1 else 0)
failed_count-failed steps s checkout c reason is customer = failed_count-push steps s customer ∙ ap (λ b. failed_count steps customer + (if fails_for customer b then 1 else 0)) is

-- the items of a customer
abbrev pub items_for : ℕ → List Item → ℕ
items_for customer items = count_by (λ (i : Item). i.customer == customer) items

-- delivered: more by the customer's items of the step's delivery
pub delivered_count-push : (steps : List Step) (s : Step) (customer : ℕ) → delivered_count (steps ++ s ∷ []) customer ≡ delivered_count steps customer + items_for customer (items_in s.body)
delivered_count-push steps s customer = ap (items_for customer) (items_taken-push steps s) ∙ sum_by-append (λ (i : Item). cond (i.customer == customer) 1 0) (items_taken steps) (items_in s.body)

-- what customers answer
pub answers-customer : (steps : List Step) (from : Link) (b : Body) → answers Role.Customer steps from b ≡ customer_rows (customer_sums steps) b
unfolding answers
answers-customer steps from b = refl

-- the counts of payments are no more than the steps
pub confirmed_count-few : (steps : List Step) (customer : ℕ) → confirmed_count steps customer ≤ length steps
confirmed_count-few steps customer = omega (arith, count_by-le-length (confirms_for customer) (taken_bodies steps), length-map steps (λ (s : Step). s.body))

-- and so are the counts of payments that failed
pub failed_count-few : (steps : List Step) (customer : ℕ) → failed_count steps customer ≤ length steps
failed_count-few steps customer = omega (arith, count_by-le-length (fails_for customer) (taken_bodies steps), length-map steps (λ (s : Step). s.body))
