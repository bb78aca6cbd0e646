-- What one more step makes of the baskets of customers.
use Rattle.std.proofs.Common.{◌≡◌, ℕ, Bool, true, false, ◌&&◌, ◌==◌, List, [], ◌∷◌, ◌++◌, Option, Some, None, if◌then◌else◌, refl, ap, ◌∙◌}
use Rattle.std.specs.Option.{option_or}
use Rattle.market_amounts.specs.declared.keys.ProductKey.{ProductKey}
use Rattle.market_amounts.specs.declared.keys.RequestId.{RequestId}
use Rattle.market_events.specs.declared.bodies.Body.{Body}
use Rattle.market_events.specs.declared.bodies.Body.TheVariants as body
use Rattle.market_events.specs.declared.requests.Ask.{Ask}
use Rattle.market_events.specs.declared.requests.Ask.TheVariants as ask
use Rattle.market_events.specs.Carts.{Held, is_accepted, is_sent_on, asked_leaves, body_leaves, leaves, joined, basket_at}
use Rattle.market_events.specs.Copies.{last_some}
use Rattle.market_events.specs.Requests.{same_key}
use Rattle.market_events.specs.Steps.{Step}
use Rattle.market_events.proofs.Steps.Copies.{last_some-push}

-- basket: what the step leaves of the product, where it leaves something
pub basket_at-push : (steps : List Step) (s : Step) (customer : ℕ) (key : ProductKey) → basket_at (steps ++ s ∷ []) customer key ≡ joined (option_or (leaves customer key s) (last_some (leaves customer key) steps))
basket_at-push steps s customer key = ap joined (last_some-push (leaves customer key) steps s)

-- basket: a step that leaves nothing of it
pub basket_at-push-same : (steps : List Step) (s : Step) (customer : ℕ) (key : ProductKey) → leaves customer key s ≡ None → basket_at (steps ++ s ∷ []) customer key ≡ basket_at steps customer key
basket_at-push-same steps s customer key none = basket_at-push steps s customer key ∙ rw none

-- basket: a step that leaves a line of it, or none
pub basket_at-push-left : (steps : List Step) (s : Step) (customer : ℕ) (key : ProductKey) (left : Option Held) → leaves customer key s ≡ Some left → basket_at (steps ++ s ∷ []) customer key ≡ left
basket_at-push-left steps s customer key left is = basket_at-push steps s customer key ∙ rw is

-- what a step leaves where a test holds, and else nothing
basket_at-push-if : (steps : List Step) (s : Step) (customer : ℕ) (key : ProductKey) (left : Option Held) (test : Bool) → leaves customer key s ≡ (if test then Some left else None) → basket_at (steps ++ s ∷ []) customer key ≡ (if test then left else basket_at steps customer key)
basket_at-push-if steps s customer key left true is = basket_at-push-left steps s customer key left is
basket_at-push-if steps s customer key left false is = basket_at-push-same steps s customer key is

-- two tests and true
both_true : (a b : Bool) → (a && b && true) ≡ (a && b)
both_true true true = refl
both_true true false = refl
both_true false b = refl

-- two tests and false
both_false : (a b : Bool) → (a && b && false) ≡ false
both_false true true = refl
both_false true false = refl
both_false false b = refl

-- basket: an accepted line puts the product into the customer's
pub basket_at-line : (steps : List Step) (s : Step) (id : RequestId) (c : ℕ) (k : ProductKey) (quantity voucher : ℕ) → s.body ≡ body.Asked (record { id = id; ask = ask.Line c k quantity voucher }) → is_accepted s ≡ true → (customer : ℕ) (key : ProductKey)
    → basket_at (steps ++ s ∷ []) customer key ≡ (if (c == customer) && same_key k key then Some (record { quantity = quantity; voucher = voucher }) else basket_at steps customer key)
basket_at-line steps s id c k quantity voucher is accepted customer key =
    basket_at-push-if steps s customer key (Some (record { quantity = quantity; voucher = voucher })) ((c == customer) && same_key k key)
    (ap (λ b. body_leaves customer key b (is_accepted s) (is_sent_on s)) is ∙ ap (λ b. if (c == customer) && same_key k key && b then Some (Some (record { quantity = quantity; voucher = voucher })) else None) accepted
    ∙ ap (λ b. if b then Some (Some (record { quantity = quantity; voucher = voucher })) else None) (both_true (c == customer) (same_key k key)))

-- basket: an accepted removal takes the product from the customer's
pub basket_at-remove : (steps : List Step) (s : Step) (id : RequestId) (c : ℕ) (k : ProductKey) → s.body ≡ body.Asked (record { id = id; ask = ask.Remove c k }) → is_accepted s ≡ true → (customer : ℕ) (key : ProductKey)
    → basket_at (steps ++ s ∷ []) customer key ≡ (if (c == customer) && same_key k key then None else basket_at steps customer key)
basket_at-remove steps s id c k is accepted customer key =
    basket_at-push-if steps s customer key None ((c == customer) && same_key k key)
    (ap (λ b. body_leaves customer key b (is_accepted s) (is_sent_on s)) is ∙ ap (λ b. if (c == customer) && same_key k key && b then Some None else None) accepted
    ∙ ap (λ b. if b then Some None else None) (both_true (c == customer) (same_key k key)))

-- basket: a checkout that was sent on empties the customer's
pub basket_at-checkout : (steps : List Step) (s : Step) (id : RequestId) (c : ℕ) → s.body ≡ body.Asked (record { id = id; ask = ask.Checkout c }) → is_sent_on s ≡ true → (customer : ℕ) (key : ProductKey)
    → basket_at (steps ++ s ∷ []) customer key ≡ (if c == customer then None else basket_at steps customer key)
basket_at-checkout steps s id c is sent customer key =
    basket_at-push-if steps s customer key None (c == customer)
    (ap (λ b. body_leaves customer key b (is_accepted s) (is_sent_on s)) is ∙ ap (λ b. if (c == customer) && b then Some None else None) sent
    ∙ ap (λ b. if b then Some None else None) (first (c == customer)))
  where
    first : (a : Bool) → (a && true) ≡ a
    first true = refl
    first false = refl

-- the request sets the customer's basket, where it is accepted or sent on
abbrev pub sets_basket : Ask → Bool → Bool → Bool
sets_basket (ask.Line c k quantity voucher) accepted sent = accepted
sets_basket (ask.Remove c k) accepted sent = accepted
sets_basket (ask.Checkout c) accepted sent = sent
sets_basket other accepted sent = false

-- the body sets the basket of its customer
abbrev pub body_sets_basket : Body → Bool → Bool → Bool
-- the body sets the basket of its customer
body_sets_basket (body.Asked request) accepted sent = sets_basket request.ask accepted sent
body_sets_basket other accepted sent = false

-- a request that sets no basket leaves nothing of a product
asked_leaves-none : (customer : ℕ) (key : ProductKey) (what : Ask) (accepted sent : Bool) → sets_basket what accepted sent ≡ false → asked_leaves customer key what accepted sent ≡ None
asked_leaves-none customer key (ask.Line c k quantity voucher) accepted sent none = ap (λ b. if (c == customer) && same_key k key && b then Some (Some (record { quantity = quantity; voucher = voucher })) else None) none ∙ ap (λ b. if b then Some (Some (record { quantity = quantity; voucher = voucher })) else None) (both_false (c == customer) (same_key k key))
asked_leaves-none customer key (ask.Remove c k) accepted sent none = ap (λ b. if (c == customer) && same_key k key && b then Some None else None) none ∙ ap (λ b. if b then Some None else None) (both_false (c == customer) (same_key k key))
asked_leaves-none customer key (ask.Checkout c) accepted sent none = ap (λ b. if (c == customer) && b then Some None else None) none ∙ ap (λ b. if b then Some None else None) (second (c == customer))
  where
    second : (a : Bool) → (a && false) ≡ false
    second true = refl
    second false = refl
asked_leaves-none customer key other accepted sent none = refl

-- and so does a body
body_leaves-none : (customer : ℕ) (key : ProductKey) (b : Body) (accepted sent : Bool) → body_sets_basket b accepted sent ≡ false → body_leaves customer key b accepted sent ≡ None
body_leaves-none customer key (body.Asked request) accepted sent none = asked_leaves-none customer key request.ask accepted sent none
body_leaves-none customer key other accepted sent none = refl

-- basket: any other step
pub basket_at-other : (steps : List Step) (s : Step) → body_sets_basket s.body (is_accepted s) (is_sent_on s) ≡ false → (customer : ℕ) (key : ProductKey) → basket_at (steps ++ s ∷ []) customer key ≡ basket_at steps customer key
basket_at-other steps s none customer key = basket_at-push-same steps s customer key (body_leaves-none customer key s.body (is_accepted s) (is_sent_on s) none)
