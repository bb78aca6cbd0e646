-- What holds of the cart after a run: a checkout is sent on once and ended once, and its lane is told once.
use Rattle.std.proofs.Common.{◌≡◌, ℕ, ◌+◌, ◌≤◌, Bool, true, false, cond, ◌&&◌, not, nat_le, List, [], ◌∷◌, ◌++◌, Option, Some, None, length, count_by, refl, ap, sym, subst, ◌∙◌, arith}
use Rattle.std.specs.List.{list_any}
use Rattle.market_amounts.specs.declared.keys.ProductKey.{ProductKey}
use Rattle.market_amounts.specs.declared.keys.RequestId.{RequestId}
use Rattle.market_events.specs.declared.bodies.Body.{Body}
use Rattle.market_events.specs.declared.bodies.Body.TheVariants as body
use Rattle.market_events.specs.declared.bodies.PricedLine.{PricedLine}
use Rattle.market_events.specs.declared.changes.Look.{Look}
use Rattle.market_events.specs.declared.changes.Look.TheVariants.{Unknown, Gone, Live}
use Rattle.market_events.specs.declared.links.TheConstants.{CART_TO_STOCK}
use Rattle.market_events.specs.declared.replies.Reply.TheVariants as reply
use Rattle.market_events.specs.declared.replies.Rule.TheVariants as rule
use Rattle.market_events.specs.declared.requests.Ask.{Ask}
use Rattle.market_events.specs.declared.requests.Ask.TheVariants as ask
use Rattle.market_events.specs.Carts.{Held, CartSums, has_key, view_rows, line_rows, checkout_rows, first_gone, cart_asked, cart_rows, cart_sums}
use Rattle.market_events.specs.Links.{cart_node, service_by_ask}
use Rattle.market_events.specs.declared.roles.Role.{Role}
use Rattle.market_events.specs.Services.{Follows, IsRunOf, cart_fits, asks, reserves, ends}
use Rattle.market_events.specs.Steps.{Step, Sending, taken_bodies, made_on, told, refused}
use Rattle.market_events.specs.WellFormed.{most_lines}
use Rattle.market_events.proofs.Runs.Carts.{answers-cart}
use Rattle.market_events.proofs.Values.Lists.{and_not, count-none, count-some, sum_by_plus}
use Rattle.market_events.proofs.Values.Same.{same_id-true}
use Rattle.market_events.proofs.Steps.Taken.{fits-parts, run_has}
use Rattle.market_laws.specs.Runs.{Member, bodies_made, tells}
use Rattle.market_laws.proofs.Runs.Counts.{on, count_on, count_all, adding-on, adding-all, adding-both, made-le-taken, made-is-taken, sum_made-push, sum_taken-push, member-taken, IsHere, taken_here, one}
use Rattle.market_laws.proofs.Runs.Causes.{made_by}

-- what holds of the answers holds of what a step makes
cart_makes : (P : List Sending → Body → Type 0) → ((s : CartSums) (b : Body) → P (cart_rows s b) b) → (before : List Step) (s : Step) → Follows Role.Cart before s → P s.made s.body
cart_makes P holds before s follows = subst (λ made. P made s.body) (sym (follows.made ∙ answers-cart before s.from s.body)) (holds (cart_sums before) s.body)

-- a request with the id is told, or sent on, once; and the end of a checkout is told once
pub record IsFew (id : RequestId) (made : List Sending) (b : Body) : Type 0 where
  pub told : count_all (tells id) made + count_on CART_TO_STOCK (reserves id) made ≡ cond (asks id b) 1 0 + cond (ends id b) 1 0
  pub sent : count_on CART_TO_STOCK (reserves id) made ≤ cond (asks id b) 1 0

-- what the cart makes is few
makes_few : (id : RequestId) (s : CartSums) (b : Body) → IsHere Role.Cart b → IsFew id (cart_rows s b) b
makes_few id s (body.Asked request) here = asked request.ask here
  where
    views : (look : Look) → IsFew id (view_rows request.id look) (body.Asked request)
    views Unknown = record { told = omega arith; sent = omega arith }
    views (Gone v) = record { told = omega arith; sent = omega arith }
    views (Live v price freight) = record { told = omega arith; sent = omega arith }

    by_room : (full : Bool) (quantity : ℕ) → IsFew id (cond full (refused cart_node request.id rule.CartFull) (told cart_node request.id (reply.Line quantity) ∷ [])) (body.Asked request)
    by_room true quantity = record { told = omega arith; sent = omega arith }
    by_room false quantity = record { told = omega arith; sent = omega arith }

    lines : (key : ProductKey) (quantity : ℕ) (look : Look) (basket : List (ProductKey × Held)) → IsFew id (line_rows request.id key quantity look basket) (body.Asked request)
    lines key quantity Unknown basket = record { told = omega arith; sent = omega arith }
    lines key quantity (Gone v) basket = record { told = omega arith; sent = omega arith }
    lines key quantity (Live v price freight) basket = by_room (nat_le most_lines (length basket) && not (has_key basket key)) quantity

    removes : (has : Bool) → IsFew id (cond has (told cart_node request.id reply.Removed ∷ []) (refused cart_node request.id rule.NoLine)) (body.Asked request)
    removes true = record { told = omega arith; sent = omega arith }
    removes false = record { told = omega arith; sent = omega arith }

    checkouts : (customer : ℕ) (basket : List (ProductKey × Held)) (first : Option ProductKey) → IsFew id (checkout_rows request.id customer s.look basket first) (body.Asked request)
    checkouts customer [] first = record { told = omega arith; sent = omega arith }
    checkouts customer (e ∷ es) (Some key) = record { told = omega arith; sent = omega arith }
    checkouts customer (e ∷ es) None = record { told = omega arith; sent = omega arith }

    asked : (a : Ask) → service_by_ask a ≡ cart_node → IsFew id (cart_asked s request.id a) (body.Asked request)
    asked (ask.View key) here = views (s.look key)
    asked (ask.Line customer key quantity voucher) here = lines key quantity (s.look key) (s.basket customer)
    asked (ask.Remove customer key) here = removes (has_key (s.basket customer) key)
    asked (ask.Checkout customer) here = checkouts customer (s.basket customer) (first_gone s.look (s.basket customer))
    asked other here = absurd (omega arith)
makes_few id s other here = record { told = omega arith; sent = omega arith }

-- at each step
pub few-at : (id : RequestId) (before : List Step) (s : Step) → Follows Role.Cart before s → IsFew id s.made s.body
few-at id before s follows = cart_makes (λ made b. IsHere Role.Cart b → IsFew id made b) (makes_few id) before s follows (taken_here Role.Cart before s follows)

-- as much is told and sent on as is asked and ended
pub told-sent-is : (steps : List Step) → IsRunOf Role.Cart steps → (id : RequestId) → count_by (tells id) (bodies_made steps) + count_by (reserves id) (made_on CART_TO_STOCK steps) ≡ count_by (asks id) (taken_bodies steps) + count_by (ends id) (taken_bodies steps)
told-sent-is steps run id =
    made-is-taken Role.Cart (λ made. count_all (tells id) made + count_on CART_TO_STOCK (reserves id) made) (λ b. cond (asks id b) 1 0 + cond (ends id b) 1 0) (adding-both (adding-all (tells id)) (adding-on CART_TO_STOCK (reserves id))) (λ before s follows. (few-at id before s follows).told) steps run
    ∙ sum_by_plus (λ b. cond (asks id b) 1 0) (λ b. cond (ends id b) 1 0) (taken_bodies steps)

-- no more is sent on than was asked
pub sent-le-asked : (steps : List Step) → IsRunOf Role.Cart steps → (id : RequestId) → count_by (reserves id) (made_on CART_TO_STOCK steps) ≤ count_by (asks id) (taken_bodies steps)
sent-le-asked steps run id = made-le-taken Role.Cart (count_on CART_TO_STOCK (reserves id)) (λ b. cond (asks id b) 1 0) (adding-on CART_TO_STOCK (reserves id)) (λ before s follows. (few-at id before s follows).sent) steps run

-- a checkout ends only where it was sent on and did not end
ends_fit : (before : List Step) (id : RequestId) (b : Body) → cart_fits before b ≡ true → ends id b ≡ true → (list_any (reserves id) (made_on CART_TO_STOCK before) ≡ true) × (list_any (ends id) (taken_bodies before) ≡ false)
ends_fit before id (body.ReserveFailed checkout key reason) fit same =
    subst (λ id. (list_any (reserves id) (made_on CART_TO_STOCK before) ≡ true) × (list_any (ends id) (taken_bodies before) ≡ false)) (same_id-true checkout id same)
    (and_not (list_any (reserves checkout) (made_on CART_TO_STOCK before)) (list_any (ends checkout) (taken_bodies before)) fit)
ends_fit before id (body.Ended checkout ending) fit same =
    subst (λ id. (list_any (reserves id) (made_on CART_TO_STOCK before) ≡ true) × (list_any (ends id) (taken_bodies before) ≡ false)) (same_id-true checkout id same)
    (and_not (list_any (reserves checkout) (made_on CART_TO_STOCK before)) (list_any (ends checkout) (taken_bodies before)) fit)
ends_fit before id other fit same = cc

-- no more ended than was sent on
pub ended-le-sent : (steps : List Step) → IsRunOf Role.Cart steps → (id : RequestId) → count_by (ends id) (taken_bodies steps) ≤ count_by (reserves id) (made_on CART_TO_STOCK steps)
ended-le-sent steps run id = run_has Role.Cart (λ steps. count_by (ends id) (taken_bodies steps) ≤ count_by (reserves id) (made_on CART_TO_STOCK steps)) keeps (omega arith) steps run
  where
    one_more : (before : List Step) (s : Step) → Follows Role.Cart before s → count_by (ends id) (taken_bodies before) ≤ count_by (reserves id) (made_on CART_TO_STOCK before) → (b : Bool) → ends id s.body ≡ b → count_by (ends id) (taken_bodies before) + cond b 1 0 ≤ count_by (reserves id) (made_on CART_TO_STOCK before)
    one_more before s follows few true ended =
        let both = ends_fit before id s.body (fits-parts Role.Cart before s.from s.body follows.fit).due ended in
        omega (arith, count-some (reserves id) (made_on CART_TO_STOCK before) both.0, count-none (ends id) (taken_bodies before) both.1)
    one_more before s follows few false other = omega (arith, few)

    keeps : (before : List Step) (s : Step) → Follows Role.Cart before s → count_by (ends id) (taken_bodies before) ≤ count_by (reserves id) (made_on CART_TO_STOCK before) → count_by (ends id) (taken_bodies (before ++ s ∷ [])) ≤ count_by (reserves id) (made_on CART_TO_STOCK (before ++ s ∷ []))
    keeps before s follows few = omega (
      arith,
      one_more before s follows few (ends id s.body) refl,
      sum_taken-push (λ b. cond (ends id b) 1 0) before s,
      sum_made-push (count_on CART_TO_STOCK (reserves id)) (adding-on CART_TO_STOCK (reserves id)) before s,
    )

-- no more is told than was asked
pub cart_told-le : (steps : List Step) → IsRunOf Role.Cart steps → (id : RequestId) → count_by (tells id) (bodies_made steps) ≤ count_by (asks id) (taken_bodies steps)
cart_told-le steps run id = omega (arith, told-sent-is steps run id, ended-le-sent steps run id)

-- what sends a checkout on, by the request
abbrev IsSentBy : Body → Body → Type 0
IsSentBy (body.Reserve checkout customer lines) b = b ≡ body.Asked (record { id = checkout; ask = ask.Checkout customer })
IsSentBy other b = ⊥

-- what is made to stock is for a request for a checkout
sent_by : (s : CartSums) (b made : Body) → on CART_TO_STOCK (cart_rows s b) ≡ made ∷ [] → IsSentBy made b
sent_by s (body.Asked request) made is = asked request.id request.ask is
  where
    views : (id : RequestId) (a : Ask) (look : Look) → on CART_TO_STOCK (view_rows id look) ≡ made ∷ [] → IsSentBy made (body.Asked (record { id = id; ask = a }))
    views id a Unknown is = cc
    views id a (Gone v) is = cc
    views id a (Live v price freight) is = cc

    by_room : (id : RequestId) (a : Ask) (full : Bool) (quantity : ℕ) → on CART_TO_STOCK (cond full (refused cart_node id rule.CartFull) (told cart_node id (reply.Line quantity) ∷ [])) ≡ made ∷ [] → IsSentBy made (body.Asked (record { id = id; ask = a }))
    by_room id a true quantity is = cc
    by_room id a false quantity is = cc

    lines : (id : RequestId) (a : Ask) (key : ProductKey) (quantity : ℕ) (look : Look) (basket : List (ProductKey × Held)) → on CART_TO_STOCK (line_rows id key quantity look basket) ≡ made ∷ [] → IsSentBy made (body.Asked (record { id = id; ask = a }))
    lines id a key quantity Unknown basket is = cc
    lines id a key quantity (Gone v) basket is = cc
    lines id a key quantity (Live v price freight) basket is = by_room id a (nat_le most_lines (length basket) && not (has_key basket key)) quantity is

    removes : (id : RequestId) (a : Ask) (has : Bool) → on CART_TO_STOCK (cond has (told cart_node id reply.Removed ∷ []) (refused cart_node id rule.NoLine)) ≡ made ∷ [] → IsSentBy made (body.Asked (record { id = id; ask = a }))
    removes id a true is = cc
    removes id a false is = cc

    checkouts : (id : RequestId) (customer : ℕ) (basket : List (ProductKey × Held)) (first : Option ProductKey) → on CART_TO_STOCK (checkout_rows id customer s.look basket first) ≡ made ∷ [] → IsSentBy made (body.Asked (record { id = id; ask = ask.Checkout customer }))
    checkouts id customer [] first is = cc
    checkouts id customer (e ∷ es) (Some key) is = cc
    checkouts id customer (e ∷ es) None is = subst (λ m. IsSentBy m (body.Asked (record { id = id; ask = ask.Checkout customer }))) (one is) refl

    asked : (id : RequestId) (a : Ask) → on CART_TO_STOCK (cart_asked s id a) ≡ made ∷ [] → IsSentBy made (body.Asked (record { id = id; ask = a }))
    asked id (ask.View key) is = views id (ask.View key) (s.look key) is
    asked id (ask.Line customer key quantity voucher) is = lines id (ask.Line customer key quantity voucher) key quantity (s.look key) (s.basket customer) is
    asked id (ask.Remove customer key) is = removes id (ask.Remove customer key) (has_key (s.basket customer) key) is
    asked id (ask.Checkout customer) is = checkouts id customer (s.basket customer) (first_gone s.look (s.basket customer)) is
    asked id other is = cc
sent_by s other made is = cc

-- a checkout that was sent on was asked for
pub sent-asked : (steps : List Step) → IsRunOf Role.Cart steps → (checkout : RequestId) (customer : ℕ) (lines : List PricedLine) → Member (body.Reserve checkout customer lines) (made_on CART_TO_STOCK steps) → Member (body.Asked (record { id = checkout; ask = ask.Checkout customer })) (taken_bodies steps)
sent-asked steps run checkout customer lines here =
    let m = (made_by Role.Cart CART_TO_STOCK steps (body.Reserve checkout customer lines) run here).1 in
    let is = sent_by (cart_sums m.before) m.step.body (body.Reserve checkout customer lines) (sym (ap (on CART_TO_STOCK) (m.follows.made ∙ answers-cart m.before m.step.from m.step.body)) ∙ m.here) in
    subst (λ b. Member b (taken_bodies steps)) is (member-taken steps m.before m.step m.after m.is)
