-- A request that is new to a service: nothing of it was taken, and there is room for what it makes.
use Rattle.std.proofs.Common.{◌≡◌, ℕ, ◌+◌, ◌<◌, Bool, true, false, ◌&&◌, ◌==◌, nat_lt, List, [], ◌∷◌, ◌++◌, length, filter_map, not, refl, ap, sym, ◌∙◌, length-append, arith}
use Rattle.std.specs.List.{list_any, flat_map}
use Rattle.std.proofs.lemmas.Bool.Decides.{nat_tests}
use Rattle.market_amounts.specs.declared.keys.RequestId.{RequestId}
use Rattle.market_events.specs.declared.bodies.Body.{Body}
use Rattle.market_events.specs.declared.bodies.Body.TheVariants as body
use Rattle.market_events.specs.declared.bodies.Item.{Item}
use Rattle.market_events.specs.declared.links.Link.{Link}
use Rattle.market_events.specs.Carried.{carries}
use Rattle.market_events.specs.Formed.{body_formed}
use Rattle.market_events.specs.Links.{receiver_of}
use Rattle.market_events.specs.Orders.{is_of, items_in, items_taken, checkouts_taken, ships}
use Rattle.market_events.specs.Requests.{same_id}
use Rattle.market_events.specs.declared.roles.Role.{Role}
use Rattle.market_events.specs.Services.{node_of, asks, is_new, reserves, invoices, ends, fits, role_fits, most_steps}
use Rattle.market_events.specs.Standing.{with_step}
use Rattle.market_events.specs.Steps.{Step, taken_bodies}
use Rattle.market_events.specs.Stocks.{reservation_in, confirms, fails, settles}
use Rattle.market_events.proofs.Values.Lists.{and_from, any_weaker, false_from, or_false, or_parts}
use Rattle.market_events.proofs.Runs.Orders.{is_item_for}
use Rattle.market_events.proofs.Steps.Taken.{any_taken-push}
use Rattle.market.specs.Carrying.{concerns, IsFresh, most_made}

-- an input fits by its parts
pub fits_by : (role : Role) (steps : List Step) (from : Link) (b : Body) → length steps < most_steps → body_formed b ≡ true → (receiver_of from == node_of role) ≡ true → carries from b ≡ true
    → role_fits role steps b ≡ true → fits role steps from b ≡ true
unfolding fits
fits_by role steps from b few formed into carried kind =
    and_from (nat_lt (length steps) most_steps && body_formed b && (receiver_of from == node_of role) && carries from b) (role_fits role steps b)
    (and_from (nat_lt (length steps) most_steps && body_formed b && (receiver_of from == node_of role)) (carries from b)
    (and_from (nat_lt (length steps) most_steps && body_formed b) (receiver_of from == node_of role)
    (and_from (nat_lt (length steps) most_steps) (body_formed b) (below (length steps) few) formed) into) carried) kind
  where
    below : (n : ℕ) → n < most_steps → nat_lt n most_steps ≡ true
    below n few = grind (arith, nat_tests)

-- a number is equal to itself
pub same_number : (n : ℕ) → (n == n) ≡ true
same_number n = grind (arith, nat_tests)

-- there is room before the first step, after it, and after the second
pub few_before : (steps : List Step) → length steps + most_made < most_steps → length steps < most_steps
few_before steps few = omega (arith, few)

pub few_after_one : (steps : List Step) (s : Step) → length steps + most_made < most_steps → length (steps ++ s ∷ []) < most_steps
few_after_one steps s few = omega (arith, few, length-append steps (s ∷ []))

pub few_after_two : (steps : List Step) (s t : Step) → length steps + most_made < most_steps → length ((steps ++ s ∷ []) ++ t ∷ []) < most_steps
few_after_two steps s t few = omega (arith, few, length-append steps (s ∷ []), length-append (steps ++ s ∷ []) (t ∷ []))

-- nothing was taken of a kind whose bodies are of the request
pub none_taken : (test : Body → Bool) (id : RequestId) → ((b : Body) → test b ≡ true → concerns id b ≡ true) → (steps : List Step) → IsFresh steps id → list_any test (taken_bodies steps) ≡ false
none_taken test id about steps fresh = false_from (list_any test (taken_bodies steps)) (λ any. sym fresh ∙ any_weaker test (concerns id) about (taken_bodies steps) any)

module _ (id : RequestId) (steps : List Step) (fresh : IsFresh steps id) where
  pub none_asked : is_new steps id ≡ true
  none_asked = ap not (none_taken (asks id) id about steps fresh)
    where
      about : (b : Body) → asks id b ≡ true → concerns id b ≡ true
      about (body.Asked request) h = h
      about other h = cc

  pub none_reserved : list_any (reserves id) (taken_bodies steps) ≡ false
  none_reserved = none_taken (reserves id) id about steps fresh
    where
      about : (b : Body) → reserves id b ≡ true → concerns id b ≡ true
      about (body.Reserve checkout customer lines) h = h
      about other h = cc

  pub none_invoiced : list_any (invoices id) (taken_bodies steps) ≡ false
  none_invoiced = none_taken (invoices id) id about steps fresh
    where
      about : (b : Body) → invoices id b ≡ true → concerns id b ≡ true
      about (body.Invoice checkout customer lines total) h = h
      about other h = cc

  pub none_ended : list_any (ends id) (taken_bodies steps) ≡ false
  none_ended = none_taken (ends id) id about steps fresh
    where
      about : (b : Body) → ends id b ≡ true → concerns id b ≡ true
      about (body.ReserveFailed checkout key rule) h = h
      about (body.Ended checkout ending) h = h
      about other h = cc

  pub none_settled : list_any (settles id) (taken_bodies steps) ≡ false
  none_settled = none_taken (settles id) id about steps fresh
    where
      about : (b : Body) → settles id b ≡ true → concerns id b ≡ true
      about (body.Confirmed checkout customer lines total) h = h
      about (body.Failed checkout customer rule) h = h
      about other h = cc

  pub none_confirmed : list_any (confirms id) (taken_bodies steps) ≡ false
  none_confirmed = none_taken (confirms id) id about steps fresh
    where
      about : (b : Body) → confirms id b ≡ true → concerns id b ≡ true
      about (body.Confirmed checkout customer lines total) h = h
      about other h = cc

  pub none_failed : list_any (fails id) (taken_bodies steps) ≡ false
  none_failed = none_taken (fails id) id about steps fresh
    where
      about : (b : Body) → fails id b ≡ true → concerns id b ≡ true
      about (body.Failed checkout customer rule) h = h
      about other h = cc

  pub none_shipped : list_any (ships id) (taken_bodies steps) ≡ false
  none_shipped = none_taken (ships id) id about steps fresh
    where
      about : (b : Body) → ships id b ≡ true → concerns id b ≡ true
      about (body.Shipped checkout) h = h
      about other h = cc

  -- no checkout of it was confirmed by stock, and no item of it was delivered
  pub none_ordered : list_any (is_of id) (checkouts_taken steps) ≡ false
  none_ordered = among (taken_bodies steps) fresh
    where
      one : (b : Body) → concerns id b ≡ false → list_any (is_of id) (filter_map reservation_in (b ∷ [])) ≡ false
      one (body.StockConfirmed checkout customer lines) h = or_false (same_id checkout id) ∙ h
      one other h = refl

      joined : (b : Body) (bs : List Body) → list_any (is_of id) (filter_map reservation_in (b ∷ [])) ≡ false → list_any (is_of id) (filter_map reservation_in bs) ≡ false → list_any (is_of id) (filter_map reservation_in (b ∷ bs)) ≡ false
      joined (body.StockConfirmed checkout customer lines) bs h rest = rw (sym (or_false (same_id checkout id)) ∙ h) rest
      joined other bs h rest = rest

      among : (bs : List Body) → list_any (concerns id) bs ≡ false → list_any (is_of id) (filter_map reservation_in bs) ≡ false
      among [] none = refl
      among (b ∷ bs) none =
          let both = or_parts (concerns id b) (list_any (concerns id) bs) none in
          joined b bs (one b both.0) (among bs both.1)

  pub none_delivered : list_any (is_item_for id) (items_taken steps) ≡ false
  none_delivered = among (taken_bodies steps) fresh
    where
      both_none : (xs ys : List Item) → list_any (is_item_for id) xs ≡ false → list_any (is_item_for id) ys ≡ false → list_any (is_item_for id) (xs ++ ys) ≡ false
      both_none [] ys here rest = rest
      both_none (x ∷ xs) ys here rest =
          let both = or_parts (is_item_for id x) (list_any (is_item_for id) xs) here in
          rw both.0 (both_none xs ys both.1 rest)

      one : (b : Body) → concerns id b ≡ false → list_any (is_item_for id) (items_in b) ≡ false
      one (body.Delivered items) h = h
      one other h = refl

      among : (bs : List Body) → list_any (concerns id) bs ≡ false → list_any (is_item_for id) (flat_map items_in bs) ≡ false
      among [] none = refl
      among (b ∷ bs) none =
          let both = or_parts (concerns id b) (list_any (concerns id) bs) none in
          both_none (items_in b) (flat_map items_in bs) (one b both.0) (among bs both.1)

-- it stays new after a body of another request
pub fresh_on : (role : Role) (steps : List Step) (from : Link) (b : Body) (id : RequestId) → IsFresh steps id → concerns id b ≡ false → IsFresh (with_step role steps from b) id
fresh_on role steps from b id fresh other =
    any_taken-push (concerns id) steps _ ∙ rw (fresh, other)
