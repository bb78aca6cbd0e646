-- What one more step adds to what was taken and made.
use Rattle.std.proofs.Common.{◌≡◌, ℕ, ◌+◌, ◌<◌, ◌==◌, nat_lt, length, eqb-true, ltb-true, Bool, true, false, ◌&&◌, ◌||◌, not, List, [], ◌∷◌, ◌++◌, None, filter_map, refl, ap, sym, subst, ◌∙◌, append-nil, append_assoc, length-append, arith, ◌≤◌}
use Rattle.std.specs.List.{list_any, list_all}
use Rattle.std.proofs.lemmas.List.{map-append}
use Rattle.std.proofs.lemmas.List.Elements.{filter_map-append}
use Rattle.std.proofs.lemmas.List.Folds.{list_any-append, list_all-append}
use Rattle.market_amounts.specs.declared.keys.RequestId.{RequestId}
use Rattle.market_events.specs.declared.bodies.Body.{Body}
use Rattle.market_events.specs.declared.links.Link.{Link}
use Rattle.market_events.specs.Carts.{changes_taken}
use Rattle.market_events.specs.declared.bodies.Body.TheVariants as body
use Rattle.market_events.specs.declared.changes.Change.{Change}
use Rattle.market_events.specs.declared.changes.Change.TheVariants as change
use Rattle.market_events.specs.declared.changes.Look.{Look}
use Rattle.market_events.specs.Looks.{is_live, look_version, can_change}
use Rattle.market_events.specs.Products.{change_in, changes_made}
use Rattle.market_events.specs.Steps.{Step, taken_bodies, made_in, body_on, made_on}
use Rattle.market_events.specs.Orders.{is_taken}
use Rattle.market_events.specs.Services.{Role, node_of, Follows, RunsFrom, IsRunOf, asks, is_new, fits, role_fits, most_steps, change_fits, change_is_due}
use Rattle.market_events.specs.Carried.{carries}
use Rattle.market_events.specs.Formed.{body_formed}
use Rattle.market_events.specs.Links.{receiver_of}
use Rattle.market_events.specs.Stocks.{confirms, fails, settles, is_confirmed, is_settled}
use Rattle.market_events.specs.declared.links.TheConstants.{PRODUCT_TO_STOCK}
use Rattle.market_events.proofs.Values.Lists.{or_false, flat_map-push, filter_map-push, list_any-push}

-- the step's body is taken last
pub taken_bodies-push : (steps : List Step) (s : Step) → taken_bodies (steps ++ s ∷ []) ≡ taken_bodies steps ++ s.body ∷ []
taken_bodies-push steps s = map-append (λ (s : Step). s.body) steps (s ∷ [])

-- what the step made is made last
pub made_in-push : (steps : List Step) (s : Step) → made_in (steps ++ s ∷ []) ≡ made_in steps ++ s.made
made_in-push steps s = flat_map-push (λ (s : Step). s.made) steps s

-- on a link, what the step made on it is made last
pub made_on-push : (link : Link) (steps : List Step) (s : Step) → made_on link (steps ++ s ∷ []) ≡ made_on link steps ++ filter_map (body_on link) s.made
made_on-push link steps s = ap (filter_map (body_on link)) (made_in-push steps s) ∙ filter_map-append (body_on link) (made_in steps) s.made

-- a step that made nothing on the link leaves what was made on it
pub made_on-same : (link : Link) (steps : List Step) (s : Step) → filter_map (body_on link) s.made ≡ [] → made_on link (steps ++ s ∷ []) ≡ made_on link steps
made_on-same link steps s none = made_on-push link steps s ∙ ap (λ bs. made_on link steps ++ bs) none ∙ append-nil (made_on link steps)

-- a body of the kind was taken, where one was or the step's body is of it
pub any_taken-push : (test : Body → Bool) (steps : List Step) (s : Step) → list_any test (taken_bodies (steps ++ s ∷ [])) ≡ (list_any test (taken_bodies steps) || test s.body)
any_taken-push test steps s = ap (list_any test) (taken_bodies-push steps s) ∙ list_any-push test (taken_bodies steps) s.body

-- a body of the kind was made on the link, where one was or the step made one
pub any_made-push : (test : Body → Bool) (link : Link) (steps : List Step) (s : Step) → list_any test (made_on link (steps ++ s ∷ [])) ≡ (list_any test (made_on link steps) || list_any test (filter_map (body_on link) s.made))
any_made-push test link steps s = ap (list_any test) (made_on-push link steps s) ∙ list_any-append test (made_on link steps) (filter_map (body_on link) s.made)

-- a body of the kind and the checkout was taken, where one was or the step's body is one
pub is_taken-push : (test : RequestId → Body → Bool) (steps : List Step) (s : Step) (id : RequestId) → is_taken test (steps ++ s ∷ []) id ≡ (is_taken test steps id || test id s.body)
is_taken-push test steps s id = any_taken-push (test id) steps s

-- a step whose body is not one of the kind and the checkout
pub is_taken-same : (test : RequestId → Body → Bool) (steps : List Step) (s : Step) (id : RequestId) → test id s.body ≡ false → is_taken test (steps ++ s ∷ []) id ≡ is_taken test steps id
is_taken-same test steps s id other = is_taken-push test steps s id ∙ rw other (or_false (is_taken test steps id))

-- an id is new, where it was and the step's body does not have it
pub is_new-push : (steps : List Step) (s : Step) (id : RequestId) → is_new (steps ++ s ∷ []) id ≡ (is_new steps id && not (asks id s.body))
is_new-push steps s id = ap not (any_taken-push (asks id) steps s) ∙ not_or (list_any (asks id) (taken_bodies steps)) (asks id s.body)
  where
    not_or : (a b : Bool) → not (a || b) ≡ (not a && not b)
    not_or true b = refl
    not_or false b = refl

-- a checkout is settled, where it was or the step's body settles it
pub is_settled-push : (steps : List Step) (s : Step) (id : RequestId) → is_settled (steps ++ s ∷ []) id ≡ (is_settled steps id || settles id s.body)
is_settled-push steps s id = any_taken-push (settles id) steps s

-- a checkout is confirmed, where it was or the step's body confirms it
pub is_confirmed-push : (steps : List Step) (s : Step) (id : RequestId) → is_confirmed (steps ++ s ∷ []) id ≡ (is_confirmed steps id || confirms id s.body)
is_confirmed-push steps s id = any_taken-push (confirms id) steps s

-- a checkout is settled, where its payment failed or was made
pub is_settled-is : (steps : List Step) (id : RequestId) → is_settled steps id ≡ (is_taken fails steps id || is_confirmed steps id)
is_settled-is steps id = among (taken_bodies steps)
  where
    one : (b : Body) → settles id b ≡ (fails id b || confirms id b)
    one (body.Confirmed checkout customer lines total) = refl
    one (body.Failed checkout customer reason) = sym (or_false (fails id (body.Failed checkout customer reason)))
    one other = refl

    swap : (a b c d : Bool) → ((a || b) || (c || d)) ≡ ((a || c) || (b || d))
    swap true b true d = refl
    swap true b false d = refl
    swap false true true d = refl
    swap false true false d = refl
    swap false false c d = refl

    among : (bs : List Body) → list_any (settles id) bs ≡ (list_any (fails id) bs || list_any (confirms id) bs)
    among [] = refl
    among (b ∷ bs) = rw (one b, among bs) (swap (fails id b) (confirms id b) (list_any (fails id) bs) (list_any (confirms id) bs))

-- the change that the step's body tells is taken last
pub changes_taken-push : (steps : List Step) (s : Step) → changes_taken (steps ++ s ∷ []) ≡ changes_taken steps ++ filter_map change_in (s.body ∷ [])
changes_taken-push steps s = ap (filter_map change_in) (taken_bodies-push steps s) ∙ filter_map-push change_in (taken_bodies steps) s.body

-- a step whose body tells no change
pub changes_taken-same : (steps : List Step) (s : Step) → change_in s.body ≡ None → changes_taken (steps ++ s ∷ []) ≡ changes_taken steps
changes_taken-same steps s none = changes_taken-push steps s ∙ rw none (append-nil (changes_taken steps))

-- the changes that the step made for stock are made last
pub changes_made-push : (steps : List Step) (s : Step) → changes_made (steps ++ s ∷ []) ≡ changes_made steps ++ filter_map change_in (filter_map (body_on PRODUCT_TO_STOCK) s.made)
changes_made-push steps s = ap (filter_map change_in) (made_on-push PRODUCT_TO_STOCK steps s) ∙ filter_map-append change_in (made_on PRODUCT_TO_STOCK steps) (filter_map (body_on PRODUCT_TO_STOCK) s.made)

-- a step that made nothing for stock
pub changes_made-same : (steps : List Step) (s : Step) → filter_map (body_on PRODUCT_TO_STOCK) s.made ≡ [] → changes_made (steps ++ s ∷ []) ≡ changes_made steps
changes_made-same steps s none = ap (filter_map change_in) (made_on-same PRODUCT_TO_STOCK steps s none)

-- the parts of the test that an input fits
pub record Parts (role : Role) (steps : List Step) (from : Link) (b : Body) : Type 0 where
  pub few : length steps < most_steps
  pub formed : body_formed b ≡ true
  pub received : receiver_of from ≡ node_of role
  pub carried : carries from b ≡ true
  pub due : role_fits role steps b ≡ true

-- an input that fits has these parts
pub fits-parts : (role : Role) (steps : List Step) (from : Link) (b : Body) → fits role steps from b ≡ true → Parts role steps from b
unfolding fits
fits-parts role steps from b fit = apart (nat_lt (length steps) most_steps) (body_formed b) (receiver_of from == node_of role) (carries from b) (role_fits role steps b) refl refl refl refl refl fit
  where
    apart : (few formed received carried due : Bool) → nat_lt (length steps) most_steps ≡ few → body_formed b ≡ formed → (receiver_of from == node_of role) ≡ received → carries from b ≡ carried → role_fits role steps b ≡ due
        → (few && formed && received && carried && due) ≡ true → Parts role steps from b
    apart true true true true true few formed received carried due all =
        record { few = ltb-true (length steps) most_steps few; formed = formed; received = eqb-true (receiver_of from) (node_of role) received; carried = carried; due = due }
    apart true true true true false few formed received carried due all = cc
    apart true true true false d few formed received carried due all = cc
    apart true true false c d few formed received carried due all = cc
    apart true false r c d few formed received carried due all = cc
    apart false f r c d few formed received carried due all = cc

-- what holds before a run, and is kept by each step that follows, holds after it
pub run_keeps : (role : Role) (P : List Step → Type 0) → ((steps : List Step) (s : Step) → Follows role steps s → P steps → P (steps ++ s ∷ [])) → (before steps : List Step) → P before → RunsFrom role before steps → P (before ++ steps)
run_keeps role P keeps before [] p run = subst P (sym (append-nil before)) p
run_keeps role P keeps before (s ∷ ss) p run = subst P (append_assoc before (s ∷ []) ss) (run_keeps role P keeps (before ++ s ∷ []) ss (keeps before s run.0 p) run.1)

-- what holds of no steps, and is kept by each step that follows, holds of a run
pub run_has : (role : Role) (P : List Step → Type 0) → ((steps : List Step) (s : Step) → Follows role steps s → P steps → P (steps ++ s ∷ [])) → P [] → (steps : List Step) → IsRunOf role steps → P steps
run_has role P keeps start steps run = run_keeps role P keeps [] steps start run

-- a run and a step that follows it are a run
pub run-push : (role : Role) (steps : List Step) (s : Step) → IsRunOf role steps → Follows role steps s → IsRunOf role (steps ++ s ∷ [])
run-push role steps s run follows = from [] steps run follows
  where
    from : (before more : List Step) → RunsFrom role before more → Follows role (before ++ more) s → RunsFrom role before (more ++ s ∷ [])
    from before [] run follows = (subst (λ steps. Follows role steps s) (append-nil before) follows, tt)
    from before (x ∷ xs) run follows = (run.0, from (before ++ x ∷ []) xs run.1 (subst (λ steps. Follows role steps s) (sym (append_assoc before (x ∷ []) xs)) follows))

-- a change that fits may come next
pub change_fits-can : (look : Look) (version : ℕ) (c : Change) → change_fits look version c ≡ true → can_change look c ≡ true
change_fits-can look version (change.Created price freight) fit = refl
change_fits-can look version (change.Priced price) fit = second (version == 1 + look_version look) (is_live look) fit
  where
    second : (a b : Bool) → (a && b) ≡ true → b ≡ true
    second true b h = h
    second false b h = cc
change_fits-can look version change.Deleted fit = second (version == 1 + look_version look) (is_live look) fit
  where
    second : (a b : Bool) → (a && b) ≡ true → b ≡ true
    second true b h = h
    second false b h = cc

-- a change that fits has the next version
pub change_fits-version : (look : Look) (version : ℕ) (c : Change) → change_fits look version c ≡ true → version ≡ 1 + look_version look
change_fits-version look version c fit = first (version == 1 + look_version look) refl (change_is_due look c) fit
  where
    first : (a : Bool) → (version == 1 + look_version look) ≡ a → (b : Bool) → (a && b) ≡ true → version ≡ 1 + look_version look
    first true is b h = eqb-true version (1 + look_version look) is
    first false is b h = cc

-- a run has no more steps than there may be
pub run-few : (role : Role) (steps : List Step) → IsRunOf role steps → length steps ≤ most_steps
run-few role steps run = run_has role (λ steps. length steps ≤ most_steps) (λ steps s follows few. one_more steps s follows) (omega arith) steps run
  where
    one_more : (steps : List Step) (s : Step) → Follows role steps s → length (steps ++ s ∷ []) ≤ most_steps
    one_more steps s follows = omega (arith, (fits-parts role steps s.from s.body follows.fit).few, length-append steps (s ∷ []))

-- each body that a run took is well formed
pub taken_formed : (role : Role) (steps : List Step) → IsRunOf role steps → list_all body_formed (taken_bodies steps) ≡ true
taken_formed role steps run = run_has role (λ steps. list_all body_formed (taken_bodies steps) ≡ true) keeps refl steps run
  where
    keeps : (steps : List Step) (s : Step) → Follows role steps s → list_all body_formed (taken_bodies steps) ≡ true → list_all body_formed (taken_bodies (steps ++ s ∷ [])) ≡ true
    keeps steps s follows all =
        ap (list_all body_formed) (taken_bodies-push steps s) ∙ list_all-append body_formed (taken_bodies steps) (s.body ∷ [])
        ∙ rw (all, (fits-parts role steps s.from s.body follows.fit).formed)
