-- Sums over kept elements, and counts of a checkout's reservations.
use Rattle.std.proofs.Common.{◌≡◌, ℕ, ◌+◌, Bool, true, false, cond, not, List, [], ◌∷◌, filter, filter_map, if◌then◌else◌, sum_by, count_by, refl, ap, sym, ◌∙◌, arith}
use Rattle.std.specs.List.{list_any, cons_option}
use Rattle.std.proofs.lemmas.List.Sums.{sum_by-cons}
use Rattle.market_amounts.specs.declared.keys.RequestId.{RequestId}
use Rattle.market_events.specs.declared.bodies.Body.{Body}
use Rattle.market_events.specs.declared.bodies.Body.TheVariants as body
use Rattle.market_events.specs.Orders.{is_of}
use Rattle.market_events.specs.Requests.{same_id}
use Rattle.market_events.specs.Stocks.{Reservation, reservation_in, settles}
use Rattle.market_events.proofs.Values.Lists.{sum_by_agree}
use Rattle.market_events.proofs.Values.Same.{same_id-true}
use Rattle.market_laws.specs.Runs.{holds_pieces}
use Rattle.market_laws.proofs.Causes.FewOnLinks.{count-never}

-- the terms of the kept elements
pub sum-kept : {A : Type 0} (keep : A → Bool) (f : A → ℕ) (xs : List A) → sum_by f (filter keep xs) ≡ sum_by (λ x. if keep x then f x else 0) xs
sum-kept keep f [] = refl
sum-kept keep f (x ∷ xs) = by (keep x) (sum-kept keep f xs) ∙ sym (sum_by-cons (λ x. if keep x then f x else 0) x xs)
  where
    by : (k : Bool) → sum_by f (filter keep xs) ≡ sum_by (λ x. if keep x then f x else 0) xs → sum_by f (cond k (x ∷ filter keep xs) (filter keep xs)) ≡ (if k then f x else 0) + sum_by (λ x. if keep x then f x else 0) xs
    by true rest = omega (arith, rest, sum_by-cons f x (filter keep xs))
    by false rest = omega (arith, rest)

-- a checkout has as many reservations as bodies say that its pieces are held
pub count-held : (c : RequestId) (bs : List Body) → count_by (is_of c) (filter_map reservation_in bs) ≡ count_by (holds_pieces c) bs
count-held c [] = refl
count-held c (b ∷ bs) = one b (count-held c bs) ∙ sym (sum_by-cons (λ b. cond (holds_pieces c b) 1 0) b bs)
  where
    one : (b : Body) → count_by (is_of c) (filter_map reservation_in bs) ≡ count_by (holds_pieces c) bs
        → count_by (is_of c) (cons_option (reservation_in b) (filter_map reservation_in bs)) ≡ cond (holds_pieces c b) 1 0 + count_by (holds_pieces c) bs
    one (body.StockConfirmed checkout customer lines) rest =
        sum_by-cons (λ (r : Reservation). cond (is_of c r) 1 0) (record { checkout = checkout; customer = customer; lines = lines }) (filter_map reservation_in bs) ∙ ap (λ n. cond (same_id checkout c) 1 0 + n) rest
    one other rest = omega (arith, rest)

-- of the reservations that none of these bodies settles, those of a checkout: none where one settles it, and else all of its own
pub count-unsettled : (c : RequestId) (bs : List Body) (rs : List Reservation)
    → count_by (is_of c) (filter (λ (r : Reservation). not (list_any (settles r.checkout) bs)) rs) ≡ (if list_any (settles c) bs then 0 else count_by (is_of c) rs)
count-unsettled c bs rs = sum-kept keep (λ (r : Reservation). cond (is_of c r) 1 0) rs ∙ by (list_any (settles c) bs) refl
  where
    keep : Reservation → Bool
    keep r = not (list_any (settles r.checkout) bs)

    one : (b : Bool) → ◌≡◌ {A = ℕ} (if not b then 1 else 0) (if b then 0 else 1)
    one true = refl
    one false = refl

    none : (a b : Bool) → ◌≡◌ {A = ℕ} (if not a then 0 else 0) (if b then 0 else 0)
    none true true = refl
    none true false = refl
    none false true = refl
    none false false = refl

    term : (r : Reservation) (test any : Bool) → is_of c r ≡ test → list_any (settles c) bs ≡ any → ◌≡◌ {A = ℕ} (if not (list_any (settles r.checkout) bs) then cond test 1 0 else 0) (if any then 0 else cond test 1 0)
    term r true any of is = rw (ap (λ d. list_any (settles d) bs) (same_id-true r.checkout c of) ∙ is) (one any)
    term r false any of is = none (list_any (settles r.checkout) bs) any

    total : (any : Bool) → sum_by (λ (r : Reservation). if any then 0 else cond (is_of c r) 1 0) rs ≡ (if any then 0 else count_by (is_of c) rs)
    total true = count-never rs
    total false = refl

    by : (any : Bool) → list_any (settles c) bs ≡ any → sum_by (λ (r : Reservation). if keep r then cond (is_of c r) 1 0 else 0) rs ≡ (if any then 0 else count_by (is_of c) rs)
    by any is =
        sum_by_agree (λ (r : Reservation). if keep r then cond (is_of c r) 1 0 else 0) (λ (r : Reservation). if any then 0 else cond (is_of c r) 1 0) (λ r. term r (is_of c r) any refl is) rs ∙ total any
