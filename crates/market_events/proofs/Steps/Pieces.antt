-- What one more step adds to the pieces that are stocked, sold and reserved.
use Rattle.std.proofs.Common.{◌≡◌, ℕ, ◌+◌, ◌-◌, ◌≤◌, Bool, true, false, ◌||◌, not, List, [], ◌∷◌, ◌++◌, Option, Some, None, filter_map, if◌then◌else◌, sum_by, refl, ap, sym, ◌∙◌, append-nil, arith}
use Rattle.std.specs.List.{list_any}
use Rattle.std.specs.Option.{option_or}
use Rattle.std.proofs.lemmas.List.Elements.{filter_map-append}
use Rattle.std.proofs.lemmas.List.Sums.{sum_by_push}
use Rattle.market_amounts.specs.declared.keys.ProductKey.{ProductKey}
use Rattle.market_amounts.specs.declared.keys.RequestId.{RequestId}
use Rattle.market_events.specs.declared.bodies.Body.{Body}
use Rattle.market_events.specs.declared.bodies.Body.TheVariants as body
use Rattle.market_events.specs.declared.bodies.PricedLine.{PricedLine}
use Rattle.market_events.specs.Carts.{is_accepted}
use Rattle.market_events.specs.Orders.{is_of}
use Rattle.market_events.specs.Requests.{same_id, same_key}
use Rattle.market_events.specs.Steps.{Step, taken_bodies, body_on, made_on}
use Rattle.market_events.specs.Stocks.{pieces_in, stocked, Reservation, reservation_in, reservations, confirms, settles, is_confirmed, is_settled, pieces_of, sold, reserved, on_hand, first_some}
use Rattle.market_events.specs.declared.links.TheConstants.{STOCK_TO_ORDER}
use Rattle.market_events.proofs.Values.Same.{same_id-true, same_id-swap}
use Rattle.market_events.proofs.Steps.Taken.{made_on-push, is_confirmed-push, is_settled-push}
use Rattle.market_events.proofs.Values.Lists.{or_false, sum_by_agree, sum_by_plus}

-- stocked: more by what the step's request stocks, where it was accepted
pub stocked-push : (steps : List Step) (s : Step) (key : ProductKey) → stocked (steps ++ s ∷ []) key ≡ stocked steps key + (if is_accepted s then pieces_in key s.body else 0)
stocked-push steps s key = sum_by_push (λ (s : Step). if is_accepted s then pieces_in key s.body else 0) steps s

-- stocked: an accepted step
pub stocked-push-accepted : (steps : List Step) (s : Step) (key : ProductKey) → is_accepted s ≡ true → stocked (steps ++ s ∷ []) key ≡ stocked steps key + pieces_in key s.body
stocked-push-accepted steps s key accepted = stocked-push steps s key ∙ rw accepted

-- stocked: a refused step
pub stocked-push-refused : (steps : List Step) (s : Step) (key : ProductKey) → is_accepted s ≡ false → stocked (steps ++ s ∷ []) key ≡ stocked steps key
stocked-push-refused steps s key refused = stocked-push steps s key ∙ rw refused (omega arith)

-- stocked: a step whose body stocks nothing of the product
pub stocked-push-other : (steps : List Step) (s : Step) (key : ProductKey) → pieces_in key s.body ≡ 0 → stocked (steps ++ s ∷ []) key ≡ stocked steps key
stocked-push-other steps s key none = stocked-push steps s key ∙ rw none (either (is_accepted s))
  where
    either : (b : Bool) → stocked steps key + (if b then 0 else 0) ≡ stocked steps key
    either true = omega arith
    either false = omega arith

-- the reservations that a step made
abbrev pub reservations_of : Step → List Reservation
reservations_of s = filter_map reservation_in (filter_map (body_on STOCK_TO_ORDER) s.made)

-- reservations: those that the step made stand last
pub reservations-push : (steps : List Step) (s : Step) → reservations (steps ++ s ∷ []) ≡ reservations steps ++ reservations_of s
reservations-push steps s = ap (filter_map reservation_in) (made_on-push STOCK_TO_ORDER steps s) ∙ filter_map-append reservation_in (made_on STOCK_TO_ORDER steps) (filter_map (body_on STOCK_TO_ORDER) s.made)

-- reservations: a step that makes none
pub reservations-same : (steps : List Step) (s : Step) → reservations_of s ≡ [] → reservations (steps ++ s ∷ []) ≡ reservations steps
reservations-same steps s none = reservations-push steps s ∙ ap (λ rs. reservations steps ++ rs) none ∙ append-nil (reservations steps)

-- the pieces of a product in the reservations whose checkouts pass
abbrev pub pieces_where : (RequestId → Bool) → ProductKey → List Reservation → ℕ
pieces_where test key rs = sum_by (λ (r : Reservation). if test r.checkout then pieces_of key r.lines else 0) rs

-- the pieces of a product in the reservations of a checkout
abbrev pub pieces_under : RequestId → ProductKey → List Reservation → ℕ
pieces_under id key rs = sum_by (λ (r : Reservation). if is_of id r then pieces_of key r.lines else 0) rs

-- reserved is the pieces in reservations that are not settled
pub reserved-is : (steps : List Step) (key : ProductKey) → reserved steps key ≡ pieces_where (λ id. not (is_settled steps id)) key (reservations steps)
reserved-is steps key = sum_by_agree (λ (r : Reservation). if is_settled steps r.checkout then 0 else pieces_of key r.lines) (λ (r : Reservation). if not (is_settled steps r.checkout) then pieces_of key r.lines else 0) (λ r. turned (is_settled steps r.checkout) (pieces_of key r.lines)) (reservations steps)
  where
    turned : (b : Bool) (n : ℕ) → (if b then 0 else n) ≡ (if not b then n else 0)
    turned true n = refl
    turned false n = refl

-- a step that settles nothing confirms nothing
pub confirms-settles : (id : RequestId) (b : Body) → settles id b ≡ false → confirms id b ≡ false
confirms-settles id (body.Confirmed checkout customer lines total) none = none
confirms-settles id other none = refl

-- a confirmed checkout is settled, and one that is not settled is not confirmed
pub unsettled-unconfirmed : (steps : List Step) (id : RequestId) → is_settled steps id ≡ false → is_confirmed steps id ≡ false
unsettled-unconfirmed steps id = among (taken_bodies steps)
  where
    either : (a b : Bool) → (a || b) ≡ false → (a ≡ false) × (b ≡ false)
    either false b h = (refl, h)
    either true b h = cc

    neither : (a b : Bool) → a ≡ false → b ≡ false → (a || b) ≡ false
    neither a b p q = rw (p, q)

    among : (bs : List Body) → list_any (settles id) bs ≡ false → list_any (confirms id) bs ≡ false
    among [] none = refl
    among (b ∷ bs) none =
        let both = either (settles id b) (list_any (settles id) bs) none in
        neither (confirms id b) (list_any (confirms id) bs) (confirms-settles id b both.0) (among bs both.1)

-- sold: a step that makes no reservation, and confirms none
pub sold-push-same : (steps : List Step) (s : Step) (key : ProductKey) → reservations_of s ≡ [] → ((id : RequestId) → confirms id s.body ≡ false) → sold (steps ++ s ∷ []) key ≡ sold steps key
sold-push-same steps s key none quiet =
    ap (pieces_where (is_confirmed (steps ++ s ∷ [])) key) (reservations-same steps s none)
    ∙ ap (λ test. pieces_where test key (reservations steps)) (λ i id. same id i)
  where
    same : (id : RequestId) → is_confirmed (steps ++ s ∷ []) id ≡ is_confirmed steps id
    same id = is_confirmed-push steps s id ∙ rw (quiet id) (or_false (is_confirmed steps id))

-- reserved: a step that makes no reservation, and settles none
pub reserved-push-same : (steps : List Step) (s : Step) (key : ProductKey) → reservations_of s ≡ [] → ((id : RequestId) → settles id s.body ≡ false) → reserved (steps ++ s ∷ []) key ≡ reserved steps key
reserved-push-same steps s key none quiet =
    ap (λ rs. sum_by (λ (r : Reservation). if is_settled (steps ++ s ∷ []) r.checkout then 0 else pieces_of key r.lines) rs) (reservations-same steps s none)
    ∙ ap (λ (test : RequestId → Bool). sum_by (λ (r : Reservation). if test r.checkout then 0 else pieces_of key r.lines) (reservations steps)) (λ i id. same id i)
  where
    same : (id : RequestId) → is_settled (steps ++ s ∷ []) id ≡ is_settled steps id
    same id = is_settled-push steps s id ∙ rw (quiet id) (or_false (is_settled steps id))

-- sold: a step that makes a reservation of a checkout that is not confirmed, and confirms none
pub sold-push-reserved : (steps : List Step) (s : Step) (key : ProductKey) (r : Reservation) → reservations_of s ≡ r ∷ [] → ((id : RequestId) → confirms id s.body ≡ false) → is_confirmed steps r.checkout ≡ false → sold (steps ++ s ∷ []) key ≡ sold steps key
sold-push-reserved steps s key r one quiet unsettled =
    ap (pieces_where (is_confirmed (steps ++ s ∷ [])) key) (reservations-push steps s ∙ ap (λ rs. reservations steps ++ rs) one)
    ∙ ap (λ test. pieces_where test key (reservations steps ++ r ∷ [])) (λ i id. same id i)
    ∙ sum_by_push (λ (r : Reservation). if is_confirmed steps r.checkout then pieces_of key r.lines else 0) (reservations steps) r
    ∙ rw unsettled (omega arith)
  where
    same : (id : RequestId) → is_confirmed (steps ++ s ∷ []) id ≡ is_confirmed steps id
    same id = is_confirmed-push steps s id ∙ rw (quiet id) (or_false (is_confirmed steps id))

-- reserved: a step that makes a reservation of a checkout that is not settled, and settles none
pub reserved-push-reserved : (steps : List Step) (s : Step) (key : ProductKey) (r : Reservation) → reservations_of s ≡ r ∷ [] → ((id : RequestId) → settles id s.body ≡ false) → is_settled steps r.checkout ≡ false → reserved (steps ++ s ∷ []) key ≡ reserved steps key + pieces_of key r.lines
reserved-push-reserved steps s key r one quiet unsettled =
    ap (λ rs. sum_by (λ (r : Reservation). if is_settled (steps ++ s ∷ []) r.checkout then 0 else pieces_of key r.lines) rs) (reservations-push steps s ∙ ap (λ rs. reservations steps ++ rs) one)
    ∙ ap (λ (test : RequestId → Bool). sum_by (λ (r : Reservation). if test r.checkout then 0 else pieces_of key r.lines) (reservations steps ++ r ∷ [])) (λ i id. same id i)
    ∙ sum_by_push (λ (r : Reservation). if is_settled steps r.checkout then 0 else pieces_of key r.lines) (reservations steps) r
    ∙ rw unsettled refl
  where
    same : (id : RequestId) → is_settled (steps ++ s ∷ []) id ≡ is_settled steps id
    same id = is_settled-push steps s id ∙ rw (quiet id) (or_false (is_settled steps id))

-- where a test that failed at an id now holds at it, the reservations of that id have the difference
adds_under : (test : RequestId → Bool) (id : RequestId) → test id ≡ false → (key : ProductKey) (rs : List Reservation)
    → sum_by (λ (r : Reservation). if test r.checkout || same_id id r.checkout then pieces_of key r.lines else 0) rs ≡ pieces_where test key rs + pieces_under id key rs
adds_under test id unsettled key rs =
    sum_by_agree (λ (r : Reservation). if test r.checkout || same_id id r.checkout then pieces_of key r.lines else 0) (λ (r : Reservation). (if test r.checkout then pieces_of key r.lines else 0) + (if is_of id r then pieces_of key r.lines else 0)) each rs
    ∙ sum_by_plus (λ (r : Reservation). if test r.checkout then pieces_of key r.lines else 0) (λ (r : Reservation). if is_of id r then pieces_of key r.lines else 0) rs
  where
    either : (a b : Bool) (n : ℕ) → (b ≡ true → a ≡ false) → (if a || b then n else 0) ≡ (if a then n else 0) + (if b then n else 0)
    either true true n apart = cc (apart refl)
    either true false n apart = omega arith
    either false true n apart = omega arith
    either false false n apart = omega arith

    each : (r : Reservation) → (if test r.checkout || same_id id r.checkout then pieces_of key r.lines else 0) ≡ (if test r.checkout then pieces_of key r.lines else 0) + (if is_of id r then pieces_of key r.lines else 0)
    each r =
        ap (λ b. if test r.checkout || b then pieces_of key r.lines else 0) (same_id-swap id r.checkout)
        ∙ either (test r.checkout) (is_of id r) (pieces_of key r.lines) (λ same. ap test (same_id-true r.checkout id same) ∙ unsettled)

-- sold: a step that confirms a checkout that was not confirmed, and makes no reservation
pub sold-push-confirmed : (steps : List Step) (s : Step) (key : ProductKey) (id : RequestId) → reservations_of s ≡ [] → ((other : RequestId) → confirms other s.body ≡ same_id id other) → is_confirmed steps id ≡ false → sold (steps ++ s ∷ []) key ≡ sold steps key + pieces_under id key (reservations steps)
sold-push-confirmed steps s key id none taken unsettled =
    ap (pieces_where (is_confirmed (steps ++ s ∷ [])) key) (reservations-same steps s none)
    ∙ ap (λ test. pieces_where test key (reservations steps)) (λ i other. now other i)
    ∙ adds_under (is_confirmed steps) id unsettled key (reservations steps)
  where
    now : (other : RequestId) → is_confirmed (steps ++ s ∷ []) other ≡ (is_confirmed steps other || same_id id other)
    now other = is_confirmed-push steps s other ∙ ap (λ b. is_confirmed steps other || b) (taken other)

-- where a test that failed at an id now holds at it, the reservations that fail it lose those of that id
drops_under : (test : RequestId → Bool) (id : RequestId) → test id ≡ false → (key : ProductKey) (rs : List Reservation)
    → sum_by (λ (r : Reservation). if test r.checkout || same_id id r.checkout then 0 else pieces_of key r.lines) rs + pieces_under id key rs ≡ sum_by (λ (r : Reservation). if test r.checkout then 0 else pieces_of key r.lines) rs
drops_under test id unsettled key rs =
    sym (sum_by_plus (λ (r : Reservation). if test r.checkout || same_id id r.checkout then 0 else pieces_of key r.lines) (λ (r : Reservation). if is_of id r then pieces_of key r.lines else 0) rs)
    ∙ sum_by_agree (λ (r : Reservation). (if test r.checkout || same_id id r.checkout then 0 else pieces_of key r.lines) + (if is_of id r then pieces_of key r.lines else 0)) (λ (r : Reservation). if test r.checkout then 0 else pieces_of key r.lines) each rs
  where
    either : (a b : Bool) (n : ℕ) → (b ≡ true → a ≡ false) → (if a || b then 0 else n) + (if b then n else 0) ≡ (if a then 0 else n)
    either true true n apart = cc (apart refl)
    either true false n apart = omega arith
    either false true n apart = omega arith
    either false false n apart = omega arith

    each : (r : Reservation) → (if test r.checkout || same_id id r.checkout then 0 else pieces_of key r.lines) + (if is_of id r then pieces_of key r.lines else 0) ≡ (if test r.checkout then 0 else pieces_of key r.lines)
    each r =
        ap (λ b. (if test r.checkout || b then 0 else pieces_of key r.lines) + (if is_of id r then pieces_of key r.lines else 0)) (same_id-swap id r.checkout)
        ∙ either (test r.checkout) (is_of id r) (pieces_of key r.lines) (λ same. ap test (same_id-true r.checkout id same) ∙ unsettled)

-- reserved: a step that settles a checkout that was not settled, and makes no reservation
pub reserved-push-settled : (steps : List Step) (s : Step) (key : ProductKey) (id : RequestId) → reservations_of s ≡ [] → ((other : RequestId) → settles other s.body ≡ same_id id other) → is_settled steps id ≡ false → reserved (steps ++ s ∷ []) key + pieces_under id key (reservations steps) ≡ reserved steps key
reserved-push-settled steps s key id none taken unsettled =
    ap (λ (n : ℕ). n + pieces_under id key (reservations steps)) (
    ap (λ rs. sum_by (λ (r : Reservation). if is_settled (steps ++ s ∷ []) r.checkout then 0 else pieces_of key r.lines) rs) (reservations-same steps s none)
    ∙ ap (λ (test : RequestId → Bool). sum_by (λ (r : Reservation). if test r.checkout then 0 else pieces_of key r.lines) (reservations steps)) (λ i other. now other i))
    ∙ drops_under (is_settled steps) id unsettled key (reservations steps)
  where
    now : (other : RequestId) → is_settled (steps ++ s ∷ []) other ≡ (is_settled steps other || same_id id other)
    now other = is_settled-push steps s other ∙ ap (λ b. is_settled steps other || b) (taken other)

-- on hand: a step that stocks nothing of the product, makes no reservation and confirms none
pub on_hand-push-same : (steps : List Step) (s : Step) (key : ProductKey) → stocked (steps ++ s ∷ []) key ≡ stocked steps key → reservations_of s ≡ [] → ((id : RequestId) → confirms id s.body ≡ false) → on_hand (steps ++ s ∷ []) key ≡ on_hand steps key
on_hand-push-same steps s key same none quiet = rw (sold-push-same steps s key none quiet, same)

-- on hand: an accepted request that stocks pieces
pub on_hand-push-accepted : (steps : List Step) (s : Step) (key : ProductKey) → is_accepted s ≡ true → reservations_of s ≡ [] → ((id : RequestId) → confirms id s.body ≡ false) → sold steps key ≤ stocked steps key → on_hand (steps ++ s ∷ []) key ≡ on_hand steps key + pieces_in key s.body
on_hand-push-accepted steps s key accepted none quiet within = rw (sold-push-same steps s key none quiet, stocked-push-accepted steps s key accepted) (omega arith)

-- on hand: a step that makes a reservation
pub on_hand-push-reserved : (steps : List Step) (s : Step) (key : ProductKey) (r : Reservation) → stocked (steps ++ s ∷ []) key ≡ stocked steps key → reservations_of s ≡ r ∷ [] → ((id : RequestId) → confirms id s.body ≡ false) → is_confirmed steps r.checkout ≡ false → on_hand (steps ++ s ∷ []) key ≡ on_hand steps key
on_hand-push-reserved steps s key r same one quiet unconfirmed = rw (sold-push-reserved steps s key r one quiet unconfirmed, same)

-- on hand: a step that confirms a checkout that was not confirmed
pub on_hand-push-confirmed : (steps : List Step) (s : Step) (key : ProductKey) (id : RequestId) → stocked (steps ++ s ∷ []) key ≡ stocked steps key → reservations_of s ≡ [] → ((other : RequestId) → confirms other s.body ≡ same_id id other) → is_confirmed steps id ≡ false → on_hand (steps ++ s ∷ []) key ≡ on_hand steps key - pieces_under id key (reservations steps)
on_hand-push-confirmed steps s key id same none taken unconfirmed = rw (sold-push-confirmed steps s key id none taken unconfirmed, same) (omega arith)

-- one more line is asked where no line before it gives something
pub first_some-push : {A B : Type 0} (f : A → Option B) (xs : List A) (x : A) → first_some f (xs ++ x ∷ []) ≡ option_or (first_some f xs) (f x)
first_some-push f [] x = or_none (f x)
  where
    or_none : {B : Type 0} (o : Option B) → option_or o None ≡ o
    or_none None = refl
    or_none (Some y) = refl
first_some-push f (y ∷ ys) x = ap (option_or (f y)) (first_some-push f ys x) ∙ or_assoc (f y) (first_some f ys) (f x)
  where
    or_assoc : {B : Type 0} (a b c : Option B) → option_or a (option_or b c) ≡ option_or (option_or a b) c
    or_assoc None b c = refl
    or_assoc (Some z) b c = refl

-- the pieces of one more line
pub pieces_of-push : (key : ProductKey) (lines : List PricedLine) (line : PricedLine) → pieces_of key (lines ++ line ∷ []) ≡ pieces_of key lines + (if same_key line.key key then line.quantity else 0)
pieces_of-push key lines line = sum_by_push (λ (line : PricedLine). if same_key line.key key then line.quantity else 0) lines line
