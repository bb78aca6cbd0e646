-- Bodies that are carried one after the other.
use Rattle.std.proofs.Common.{◌≡◌, ℕ, ◌+◌, ◌≤◌, Bool, true, false, List, [], ◌∷◌, ◌++◌, length, refl, sym, subst, length-append, arith}
use Rattle.std.specs.List.{list_any}
use Rattle.market_amounts.specs.declared.keys.RequestId.{RequestId}
use Rattle.market_events.specs.declared.bodies.Body.{Body}
use Rattle.market_events.specs.declared.links.Link.{Link}
use Rattle.market_events.specs.declared.links.Link.TheVariants.{Service, Asked, Told}
use Rattle.market_events.specs.declared.replies.Reply.{Reply}
use Rattle.market_events.specs.declared.roles.Role.{Role}
use Rattle.market_events.specs.Services.{fits}
use Rattle.market_events.specs.Standing.{step_of, with_step}
use Rattle.market_events.specs.Steps.{Step, Sending, told}
use Rattle.market_events.proofs.Values.Lists.{or_parts}
use Rattle.market_events.proofs.Runs.Standing.{is_run_push, follows_step_of}
use Rattle.market.specs.Carrying.{Taken, with_taken, role_told, CanPass, made_of, passed, IsTrace, all_passed, AreRuns, concerns, IsFresh, steps_taken}
use Rattle.market.proofs.Carrying.Fresh.{fresh_on}

-- the trace of bodies that wait, as a record, so that a term tells which it is of
pub record Traced (taken : Taken) (waiting trace : List Sending) : Type 0 where
  pub is : IsTrace taken waiting trace

-- a body is carried to its service, and what that makes of it goes behind the others
pub then_passed : (taken : Taken) (link : Link) (b : Body) (more made trace : List Sending) → CanPass taken (link, b) → made_of taken (link, b) ≡ made → Traced (passed taken (link, b)) (more ++ made) trace
    → Traced taken ((link, b) ∷ more) ((link, b) ∷ trace)
then_passed taken link b more made trace can is rest = record { is = (refl, can, subst (λ m. IsTrace (passed taken (link, b)) (more ++ m) trace) (sym is) rest.is) }

-- a reply is the last
pub then_told : (taken : Taken) (service : ℕ) (id : RequestId) (reply : Reply) → Traced taken (told service id reply ∷ []) (told service id reply ∷ [])
then_told taken service id reply = record { is = (refl, tt, tt) }

-- one more step of a service, which fits it
module _ (taken : Taken) (from : Link) (b : Body) where
  pub runs_with : (role : Role) → fits role (steps_taken taken role) from b ≡ true → AreRuns taken → AreRuns (with_taken taken role from b)
  runs_with Role.Cart fit runs Role.Cart = is_run_push Role.Cart taken.carts (step_of Role.Cart taken.carts from b) (runs Role.Cart) (follows_step_of Role.Cart taken.carts from b fit)
  runs_with Role.Cart fit runs other = runs other
  runs_with Role.Product fit runs Role.Product = is_run_push Role.Product taken.products (step_of Role.Product taken.products from b) (runs Role.Product) (follows_step_of Role.Product taken.products from b fit)
  runs_with Role.Product fit runs other = runs other
  runs_with Role.Stock fit runs Role.Stock = is_run_push Role.Stock taken.stocks (step_of Role.Stock taken.stocks from b) (runs Role.Stock) (follows_step_of Role.Stock taken.stocks from b fit)
  runs_with Role.Stock fit runs other = runs other
  runs_with Role.Order fit runs Role.Order = is_run_push Role.Order taken.orders (step_of Role.Order taken.orders from b) (runs Role.Order) (follows_step_of Role.Order taken.orders from b fit)
  runs_with Role.Order fit runs other = runs other
  runs_with Role.Payment fit runs Role.Payment = is_run_push Role.Payment taken.payments (step_of Role.Payment taken.payments from b) (runs Role.Payment) (follows_step_of Role.Payment taken.payments from b fit)
  runs_with Role.Payment fit runs other = runs other
  runs_with Role.Shipment fit runs Role.Shipment = is_run_push Role.Shipment taken.shipments (step_of Role.Shipment taken.shipments from b) (runs Role.Shipment) (follows_step_of Role.Shipment taken.shipments from b fit)
  runs_with Role.Shipment fit runs other = runs other
  runs_with Role.Customer fit runs Role.Customer = is_run_push Role.Customer taken.customers (step_of Role.Customer taken.customers from b) (runs Role.Customer) (follows_step_of Role.Customer taken.customers from b fit)
  runs_with Role.Customer fit runs other = runs other
  runs_with Role.Seller fit runs Role.Seller = is_run_push Role.Seller taken.sellers (step_of Role.Seller taken.sellers from b) (runs Role.Seller) (follows_step_of Role.Seller taken.sellers from b fit)
  runs_with Role.Seller fit runs other = runs other

  -- a request that it does not concern stays new
  pub fresh_with : (id : RequestId) → concerns id b ≡ false → (role : Role) → ((role : Role) → IsFresh (steps_taken taken role) id) → (other : Role) → IsFresh (steps_taken (with_taken taken role from b) other) id
  fresh_with id apart Role.Cart fresh Role.Cart = fresh_on Role.Cart taken.carts from b id (fresh Role.Cart) apart
  fresh_with id apart Role.Cart fresh other = fresh other
  fresh_with id apart Role.Product fresh Role.Product = fresh_on Role.Product taken.products from b id (fresh Role.Product) apart
  fresh_with id apart Role.Product fresh other = fresh other
  fresh_with id apart Role.Stock fresh Role.Stock = fresh_on Role.Stock taken.stocks from b id (fresh Role.Stock) apart
  fresh_with id apart Role.Stock fresh other = fresh other
  fresh_with id apart Role.Order fresh Role.Order = fresh_on Role.Order taken.orders from b id (fresh Role.Order) apart
  fresh_with id apart Role.Order fresh other = fresh other
  fresh_with id apart Role.Payment fresh Role.Payment = fresh_on Role.Payment taken.payments from b id (fresh Role.Payment) apart
  fresh_with id apart Role.Payment fresh other = fresh other
  fresh_with id apart Role.Shipment fresh Role.Shipment = fresh_on Role.Shipment taken.shipments from b id (fresh Role.Shipment) apart
  fresh_with id apart Role.Shipment fresh other = fresh other
  fresh_with id apart Role.Customer fresh Role.Customer = fresh_on Role.Customer taken.customers from b id (fresh Role.Customer) apart
  fresh_with id apart Role.Customer fresh other = fresh other
  fresh_with id apart Role.Seller fresh Role.Seller = fresh_on Role.Seller taken.sellers from b id (fresh Role.Seller) apart
  fresh_with id apart Role.Seller fresh other = fresh other

  -- each service took at most one more
  one_more : (role : Role) (steps : List Step) → length (with_step role steps from b) ≤ length steps + 1
  one_more role steps = omega (arith, length-append steps (step_of role steps from b ∷ []))

  same_few : (n : ℕ) → n ≤ n + 1
  same_few n = omega arith

  pub few_with : (role other : Role) → length (steps_taken (with_taken taken role from b) other) ≤ length (steps_taken taken other) + 1
  few_with Role.Cart Role.Cart = one_more Role.Cart taken.carts
  few_with Role.Cart other = same_few (length (steps_taken taken other))
  few_with Role.Product Role.Product = one_more Role.Product taken.products
  few_with Role.Product other = same_few (length (steps_taken taken other))
  few_with Role.Stock Role.Stock = one_more Role.Stock taken.stocks
  few_with Role.Stock other = same_few (length (steps_taken taken other))
  few_with Role.Order Role.Order = one_more Role.Order taken.orders
  few_with Role.Order other = same_few (length (steps_taken taken other))
  few_with Role.Payment Role.Payment = one_more Role.Payment taken.payments
  few_with Role.Payment other = same_few (length (steps_taken taken other))
  few_with Role.Shipment Role.Shipment = one_more Role.Shipment taken.shipments
  few_with Role.Shipment other = same_few (length (steps_taken taken other))
  few_with Role.Customer Role.Customer = one_more Role.Customer taken.customers
  few_with Role.Customer other = same_few (length (steps_taken taken other))
  few_with Role.Seller Role.Seller = one_more Role.Seller taken.sellers
  few_with Role.Seller other = same_few (length (steps_taken taken other))

-- a request that concerns none of the bodies stays new
abbrev pub any_concerns : RequestId → List Sending → Bool
any_concerns id trace = list_any (λ (s : Sending). concerns id s.1) trace

pub fresh_after : (id : RequestId) (taken : Taken) (trace : List Sending) → any_concerns id trace ≡ false → ((role : Role) → IsFresh (steps_taken taken role) id) → (role : Role) → IsFresh (steps_taken (all_passed taken trace) role) id
fresh_after id taken [] apart fresh = fresh
fresh_after id taken ((link, b) ∷ trace) apart fresh =
    let both = or_parts (concerns id b) (any_concerns id trace) apart in
    fresh_after id (passed taken (link, b)) trace both.1 (one link both.0)
  where
    one : (link : Link) → concerns id b ≡ false → (role : Role) → IsFresh (steps_taken (passed taken (link, b)) role) id
    one (Service n) apart = fresh_with taken (Service n) b id apart (role_told n) fresh
    one (Asked lane service) apart = fresh
    one (Told service lane) apart = fresh

-- each service took no more than the bodies are
pub few_after : (taken : Taken) (trace : List Sending) (role : Role) → length (steps_taken (all_passed taken trace) role) ≤ length (steps_taken taken role) + length trace
few_after taken [] role = omega arith
few_after taken ((link, b) ∷ trace) role = omega (arith, few_after (passed taken (link, b)) trace role, one link)
  where
    one : (link : Link) → length (steps_taken (passed taken (link, b)) role) ≤ length (steps_taken taken role) + 1
    one (Service n) = few_with taken (Service n) b (role_told n) role
    one (Asked lane service) = omega arith
    one (Told service lane) = omega arith

-- and its steps are a run
pub runs_after : (taken : Taken) (waiting trace : List Sending) → IsTrace taken waiting trace → AreRuns taken → AreRuns (all_passed taken trace)
runs_after taken [] [] carried runs = runs
runs_after taken [] (t ∷ trace) carried runs = absurd carried
runs_after taken (s ∷ more) [] carried runs = absurd carried
runs_after taken (s ∷ more) (t ∷ trace) carried runs =
    runs_after (passed taken t) (more ++ made_of taken s) trace (subst (λ x. IsTrace (passed taken x) (more ++ made_of taken s) trace) carried.0 carried.2)
    (one t (subst (CanPass taken) carried.0 carried.1))
  where
    one : (s : Sending) → CanPass taken s → AreRuns (passed taken s)
    one (Service n, b) can = runs_with taken (Service n) b (role_told n) can runs
    one (Asked lane service, b) can = runs
    one (Told service lane, b) can = runs
