-- What one more step of a run makes of stock: the reservations that wait for a payment, and the pieces on hand and reserved.
use Rattle.std.proofs.Common.{◌≡◌, ℕ, ◌+◌, ◌-◌, ◌≤◌, Bool, true, false, cond, ◌&&◌, ◌||◌, not, List, [], ◌∷◌, ◌++◌, Option, Some, None, filter_map, find, if◌then◌else◌, refl, ap, sym, ◌∙◌, arith}
use Rattle.std.specs.List.{list_any}
use Rattle.std.specs.Option.{option_or}
use Rattle.std.proofs.lemmas.List.Folds.{find-append}
use Rattle.market_amounts.specs.declared.keys.ProductKey.{ProductKey}
use Rattle.market_amounts.specs.declared.keys.RequestId.{RequestId}
use Rattle.market_events.specs.declared.bodies.Body.TheVariants as body
use Rattle.market_events.specs.declared.bodies.PayRule.{PayRule}
use Rattle.market_events.specs.declared.bodies.PricedLine.{PricedLine}
use Rattle.market_events.specs.declared.links.TheConstants.{STOCK_TO_ORDER}
use Rattle.market_events.specs.declared.replies.Reply.TheVariants as reply
use Rattle.market_events.specs.declared.requests.Ask.TheVariants as ask
use Rattle.market_events.specs.Carts.{is_accepted, is_refusal}
use Rattle.market_events.specs.Links.{stock_node}
use Rattle.market_events.specs.Orders.{is_of, is_taken}
use Rattle.market_events.specs.Requests.{same_id, same_key}
use Rattle.market_events.specs.Services.{Role, IsRunOf, reserves, stock_fits}
use Rattle.market_events.specs.Steps.{Step, body_on, told}
use Rattle.market_events.specs.Stocks.{Reservation, reservation_in, reservations, confirms, settles, is_settled, pieces_in, pieces_of, stocked, reserved, on_hand}
use Rattle.market_events.proofs.Steps.Taken.{is_settled-push}
use Rattle.market_events.proofs.Steps.Pieces.{reservations_of, reservations-push, reservations-same, pieces_under, stocked-push-other, unsettled-unconfirmed, confirms-settles, on_hand-push-same, on_hand-push-accepted, on_hand-push-reserved, on_hand-push-confirmed, reserved-push-same, reserved-push-reserved, reserved-push-settled}
use Rattle.market_events.proofs.Steps.Reservations.{found-none, sum-found, is_customers, is_customers_with, any_for-found, any_for_lines-found}
use Rattle.market_events.proofs.Values.Same.{same_id-true}
use Rattle.market_events.proofs.Runs.Stock.{reserved_once, unasked-unsettled, unasked-none, sold-reserved-le-stocked}
use Rattle.market_events.proofs.Values.Lists.{or_false, and_true, and_false}

-- the reservation of a checkout that nothing settled
abbrev pub waiting_at : List Step → RequestId → Option Reservation
waiting_at steps id = if is_settled steps id then None else find (is_of id) (reservations steps)

-- waiting: a step that makes no reservation, and settles none
pub waiting_at-same : (steps : List Step) (s : Step) (id : RequestId) → reservations_of s ≡ [] → settles id s.body ≡ false → waiting_at (steps ++ s ∷ []) id ≡ waiting_at steps id
waiting_at-same steps s id none quiet =
    ap (λ rs. if is_settled (steps ++ s ∷ []) id then None else find (is_of id) rs) (reservations-same steps s none)
    ∙ ap (λ b. if b then None else find (is_of id) (reservations steps)) (is_settled-push steps s id ∙ rw quiet (or_false (is_settled steps id)))

-- waiting: a step that makes a reservation of a checkout that was not asked for, and settles none
pub waiting_at-reserved : (steps : List Step) (s : Step) (r : Reservation) → IsRunOf Role.Stock steps → reservations_of s ≡ r ∷ [] → ((id : RequestId) → settles id s.body ≡ false) → is_taken reserves steps r.checkout ≡ false
    → (id : RequestId) → waiting_at (steps ++ s ∷ []) id ≡ (if same_id r.checkout id then Some r else waiting_at steps id)
waiting_at-reserved steps s r run one quiet new id =
    ap (λ rs. if is_settled (steps ++ s ∷ []) id then None else find (is_of id) rs) (reservations-push steps s ∙ ap (λ rs. reservations steps ++ rs) one)
    ∙ ap (λ b. if b then None else find (is_of id) (reservations steps ++ r ∷ [])) (is_settled-push steps s id ∙ rw (quiet id) (or_false (is_settled steps id)))
    ∙ ap (λ o. if is_settled steps id then None else o) (find-append (is_of id) (reservations steps) (r ∷ []))
    ∙ either (same_id r.checkout id) refl
  where
    skip : (b : Bool) (o : Option Reservation) → (if b then None else option_or o None) ≡ (if b then None else o)
    skip true o = refl
    skip false None = refl
    skip false (Some x) = refl

    either : (b : Bool) → same_id r.checkout id ≡ b → (if is_settled steps id then None else option_or (find (is_of id) (reservations steps)) (cond (same_id r.checkout id) (Some r) None)) ≡ (if same_id r.checkout id then Some r else waiting_at steps id)
    either true same =
        let at = same_id-true r.checkout id same in
        let unasked : is_taken reserves steps id ≡ false = ap (is_taken reserves steps) (sym at) ∙ new in
        rw (same, unasked-unsettled steps run id unasked, found-none id (reservations steps) (unasked-none steps run id unasked))
    either false same = rw same (skip (is_settled steps id) (find (is_of id) (reservations steps)))

-- waiting: a step that settles a checkout, and makes no reservation
pub waiting_at-settled : (steps : List Step) (s : Step) (checkout : RequestId) → reservations_of s ≡ [] → ((id : RequestId) → settles id s.body ≡ same_id checkout id) → (id : RequestId) → waiting_at (steps ++ s ∷ []) id ≡ (if same_id checkout id then None else waiting_at steps id)
waiting_at-settled steps s checkout none settle id =
    ap (λ rs. if is_settled (steps ++ s ∷ []) id then None else find (is_of id) rs) (reservations-same steps s none)
    ∙ ap (λ b. if b then None else find (is_of id) (reservations steps)) (is_settled-push steps s id ∙ ap (λ b. is_settled steps id || b) (settle id))
    ∙ either (is_settled steps id) (same_id checkout id) (find (is_of id) (reservations steps))
  where
    either : (a b : Bool) (o : Option Reservation) → (if a || b then None else o) ≡ (if b then None else if a then None else o)
    either true true o = refl
    either true false o = refl
    either false b o = refl

-- a payment fits, where a reservation of this customer with these lines waits for it
pub confirmed-fits : (steps : List Step) → IsRunOf Role.Stock steps → (checkout : RequestId) (customer : ℕ) (lines : List PricedLine) (total : ℕ) → stock_fits steps (body.Confirmed checkout customer lines total) ≡ is_customers_with customer lines (waiting_at steps checkout)
confirmed-fits steps run checkout customer lines total =
    ap (λ b. b && not (is_settled steps checkout)) (any_for_lines-found checkout customer lines (reservations steps) (reserved_once steps run checkout))
    ∙ either (is_settled steps checkout) (find (is_of checkout) (reservations steps))
  where
    either : (b : Bool) (o : Option Reservation) → (is_customers_with customer lines o && not b) ≡ is_customers_with customer lines (if b then None else o)
    either true o = and_false (is_customers_with customer lines o)
    either false o = and_true (is_customers_with customer lines o)

-- that there is no payment fits, where a reservation of this customer waits for it
pub failed-fits : (steps : List Step) → IsRunOf Role.Stock steps → (checkout : RequestId) (customer : ℕ) (reason : PayRule) → stock_fits steps (body.Failed checkout customer reason) ≡ is_customers customer (waiting_at steps checkout)
failed-fits steps run checkout customer reason =
    ap (λ b. b && not (is_settled steps checkout)) (any_for-found checkout customer (reservations steps) (reserved_once steps run checkout))
    ∙ either (is_settled steps checkout) (find (is_of checkout) (reservations steps))
  where
    either : (b : Bool) (o : Option Reservation) → (is_customers customer o && not b) ≡ is_customers customer (if b then None else o)
    either true o = and_false (is_customers customer o)
    either false o = and_true (is_customers customer o)

-- a reservation that waits was not settled, and has the pieces of its checkout
waiting-parts : (steps : List Step) (id : RequestId) (r : Reservation) → waiting_at steps id ≡ Some r → (is_settled steps id ≡ false) × (find (is_of id) (reservations steps) ≡ Some r)
waiting-parts steps id r waits = either (is_settled steps id) refl
  where
    either : (b : Bool) → is_settled steps id ≡ b → (is_settled steps id ≡ false) × (find (is_of id) (reservations steps) ≡ Some r)
    either true settled = cc (rw settled at waits)
    either false unsettled = (unsettled, rw unsettled at waits)

-- a reservation that waits has the pieces of its checkout
pub waiting-pieces : (steps : List Step) → IsRunOf Role.Stock steps → (id : RequestId) (r : Reservation) → waiting_at steps id ≡ Some r → (key : ProductKey) → pieces_under id key (reservations steps) ≡ pieces_of key r.lines
waiting-pieces steps run id r waits key = sum-found (λ (r : Reservation). pieces_of key r.lines) id (reservations steps) r (reserved_once steps run id) (waiting-parts steps id r waits).1

-- no sending, which a payment makes, has a reservation
pub no_reservations : (s : Step) → s.made ≡ [] → reservations_of s ≡ []
no_reservations s made = ap (λ m. filter_map reservation_in (filter_map (body_on STOCK_TO_ORDER) m)) made

-- after a reservation is made, its pieces are reserved
pub reserve-pieces : (steps : List Step) (s : Step) → IsRunOf Role.Stock steps → (checkout : RequestId) (customer : ℕ) (lines : List PricedLine) → s.body ≡ body.Reserve checkout customer lines → s.made ≡ (STOCK_TO_ORDER, body.StockConfirmed checkout customer lines) ∷ [] → is_taken reserves steps checkout ≡ false
    → (key : ProductKey) → (on_hand (steps ++ s ∷ []) key ≡ on_hand steps key) × (reserved (steps ++ s ∷ []) key ≡ reserved steps key + pieces_of key lines)
reserve-pieces steps s run checkout customer lines is made new key =
    let one : reservations_of s ≡ record { checkout = checkout; customer = customer; lines = lines } ∷ [] = ap (λ m. filter_map reservation_in (filter_map (body_on STOCK_TO_ORDER) m)) made in
    let unsettled = unasked-unsettled steps run checkout new in (
      on_hand-push-reserved steps s key (record { checkout = checkout; customer = customer; lines = lines }) (stocked-push-other steps s key (ap (pieces_in key) is)) one (λ id. ap (confirms id) is) (unsettled-unconfirmed steps checkout unsettled),
      reserved-push-reserved steps s key (record { checkout = checkout; customer = customer; lines = lines }) one (λ id. ap (settles id) is) unsettled,
    )

-- after a payment, the pieces of its reservation are neither on hand nor reserved
pub confirmed-pieces : (steps : List Step) (s : Step) → IsRunOf Role.Stock steps → (checkout : RequestId) (customer : ℕ) (lines : List PricedLine) (total : ℕ) (r : Reservation) → s.body ≡ body.Confirmed checkout customer lines total → s.made ≡ [] → waiting_at steps checkout ≡ Some r
    → (key : ProductKey) → (on_hand (steps ++ s ∷ []) key ≡ on_hand steps key - pieces_of key r.lines) × (reserved (steps ++ s ∷ []) key ≡ reserved steps key - pieces_of key r.lines) × (pieces_of key r.lines ≤ reserved steps key)
confirmed-pieces steps s run checkout customer lines total r is made waits key =
    let parts = waiting-parts steps checkout r waits in
    let pieces = waiting-pieces steps run checkout r waits key in
    let less = reserved-push-settled steps s key checkout (no_reservations s made) (λ id. ap (settles id) is) parts.0 in (
      on_hand-push-confirmed steps s key checkout (stocked-push-other steps s key (ap (pieces_in key) is)) (no_reservations s made) (λ id. ap (confirms id) is) (unsettled-unconfirmed steps checkout parts.0) ∙ ap (λ (n : ℕ). on_hand steps key - n) pieces,
      omega (arith, less, pieces),
      omega (arith, less, pieces),
    )

-- after it is told that there is no payment, the pieces of its reservation are no longer reserved
pub failed-pieces : (steps : List Step) (s : Step) → IsRunOf Role.Stock steps → (checkout : RequestId) (customer : ℕ) (reason : PayRule) (r : Reservation) → s.body ≡ body.Failed checkout customer reason → s.made ≡ [] → waiting_at steps checkout ≡ Some r
    → (key : ProductKey) → (on_hand (steps ++ s ∷ []) key ≡ on_hand steps key) × (reserved (steps ++ s ∷ []) key ≡ reserved steps key - pieces_of key r.lines) × (pieces_of key r.lines ≤ reserved steps key)
failed-pieces steps s run checkout customer reason r is made waits key =
    let parts = waiting-parts steps checkout r waits in
    let pieces = waiting-pieces steps run checkout r waits key in
    let less = reserved-push-settled steps s key checkout (no_reservations s made) (λ id. ap (settles id) is) parts.0 in (
      on_hand-push-same steps s key (stocked-push-other steps s key (ap (pieces_in key) is)) (no_reservations s made) (λ id. ap (confirms id) is),
      omega (arith, less, pieces),
      omega (arith, less, pieces),
    )

-- after an accepted request for stock, its pieces are on hand
pub stocked-pieces : (steps : List Step) (s : Step) → IsRunOf Role.Stock steps → (id : RequestId) (k : ProductKey) (pieces n : ℕ) → s.body ≡ body.Asked (record { id = id; ask = ask.Stock k pieces }) → s.made ≡ told stock_node id (reply.Stocked n) ∷ []
    → (key : ProductKey) → (on_hand (steps ++ s ∷ []) key ≡ on_hand steps key + (if same_key k key then pieces else 0)) × (reserved (steps ++ s ∷ []) key ≡ reserved steps key)
stocked-pieces steps s run id k pieces n is made key =
    let none : reservations_of s ≡ [] = ap (λ m. filter_map reservation_in (filter_map (body_on STOCK_TO_ORDER) m)) made in
    let accepted : is_accepted s ≡ true = ap (λ m. not (list_any is_refusal m)) made in (
      on_hand-push-accepted steps s key accepted none (λ id. ap (confirms id) is) (omega (arith, sold-reserved-le-stocked steps run key)) ∙ ap (λ b. on_hand steps key + pieces_in key b) is,
      reserved-push-same steps s key none (λ id. ap (settles id) is),
    )

-- after any other step, the pieces are as they were: one that makes no reservation, settles none, and stocks nothing or is refused
pub quiet-pieces : (steps : List Step) (s : Step) → reservations_of s ≡ [] → ((id : RequestId) → settles id s.body ≡ false) → ((key : ProductKey) → stocked (steps ++ s ∷ []) key ≡ stocked steps key)
    → (key : ProductKey) → (on_hand (steps ++ s ∷ []) key ≡ on_hand steps key) × (reserved (steps ++ s ∷ []) key ≡ reserved steps key)
quiet-pieces steps s none quiet same key =
    (on_hand-push-same steps s key (same key) none (λ id. confirms-settles id s.body (quiet id)), reserved-push-same steps s key none quiet)
