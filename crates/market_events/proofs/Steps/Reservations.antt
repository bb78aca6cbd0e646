-- Lists of confirmed checkouts in which a checkout stands at most once.
use Rattle.std.proofs.Common.{◌≡◌, ℕ, ◌+◌, ◌≤◌, Bool, true, false, cond, ◌&&◌, ◌||◌, ◌==◌, List, [], ◌∷◌, ◌++◌, Option, Some, None, find, if◌then◌else◌, sum_by, count_by, flat_map, refl, ap, sym, subst, ◌∙◌, append-nil, arith, eqb-true}
use Rattle.std.specs.List.{list_any}
use Rattle.std.proofs.lemmas.List.Sums.{sum_by-cons}
use Rattle.market_amounts.specs.declared.keys.RequestId.{RequestId}
use Rattle.market_events.specs.declared.bodies.PricedLine.{PricedLine}
use Rattle.market_events.specs.Orders.{is_of}
use Rattle.market_events.specs.Requests.{same_id}
use Rattle.market_events.specs.Services.{is_for, is_for_lines}
use Rattle.market_events.specs.Steps.{same_lines}
use Rattle.market_events.specs.Stocks.{Reservation}
use Rattle.market_events.proofs.Values.Same.{same_id-true, same_lines-true}
use Rattle.market_events.proofs.Values.Lists.{and_both, or_false, or_parts, any_weaker, any-none}
use Rattle.std.specs.Option.{option_or}
use Rattle.std.proofs.lemmas.List.Folds.{find-append}

-- the checkout stands at most once
abbrev pub IsOnce : RequestId → List Reservation → Type 0
IsOnce id rs = count_by (is_of id) rs ≤ 1

-- where the checkout does not stand, none is found
pub found-none : (id : RequestId) (rs : List Reservation) → list_any (is_of id) rs ≡ false → find (is_of id) rs ≡ None
found-none id [] none = refl
found-none id (r ∷ rs) none = let both = or_parts (is_of id r) (list_any (is_of id) rs) none in rw both.0 (found-none id rs both.1)

-- one that is found has the id
pub found-is : (id : RequestId) (rs : List Reservation) (r : Reservation) → find (is_of id) rs ≡ Some r → r.checkout ≡ id
found-is id [] r found = cc
found-is id (q ∷ rs) r found = either (is_of id q) refl (λ more. found-is id rs r more)
  where
    one : Some q ≡ Some r → q ≡ r
    one e = cc

    either : (b : Bool) → is_of id q ≡ b → (find (is_of id) rs ≡ Some r → r.checkout ≡ id) → r.checkout ≡ id
    either true is rest = same_id-true r.checkout id (subst (λ (r : Reservation). is_of id r ≡ true) (one (rw is at found)) is)
    either false is rest = rest (rw is at found)

-- the terms of the checkout, where it does not stand
pub sum-none : (f : Reservation → ℕ) (id : RequestId) (rs : List Reservation) → list_any (is_of id) rs ≡ false → sum_by (λ (r : Reservation). if is_of id r then f r else 0) rs ≡ 0
sum-none f id [] none = refl
sum-none f id (r ∷ rs) none =
    let both = or_parts (is_of id r) (list_any (is_of id) rs) none in
    sum_by-cons (λ (r : Reservation). if is_of id r then f r else 0) r rs ∙ rw both.0 (omega (arith, sum-none f id rs both.1))

-- the terms of the checkout, where it stands once, are that of the one that is found
pub sum-found : (f : Reservation → ℕ) (id : RequestId) (rs : List Reservation) (r : Reservation) → IsOnce id rs → find (is_of id) rs ≡ Some r → sum_by (λ (r : Reservation). if is_of id r then f r else 0) rs ≡ f r
sum-found f id [] r once found = cc
sum-found f id (q ∷ rs) r once found = sum_by-cons (λ (r : Reservation). if is_of id r then f r else 0) q rs ∙ either (is_of id q) refl (λ few more. sum-found f id rs r few more)
  where
    counted : cond (is_of id q) 1 0 + count_by (is_of id) rs ≤ 1
    counted = subst (λ n. n ≤ 1) (sum_by-cons (λ (r : Reservation). cond (is_of id r) 1 0) q rs) once

    one : Some q ≡ Some r → q ≡ r
    one e = cc

    either : (b : Bool) → is_of id q ≡ b → (IsOnce id rs → find (is_of id) rs ≡ Some r → sum_by (λ (r : Reservation). if is_of id r then f r else 0) rs ≡ f r)
        → (if is_of id q then f q else 0) + sum_by (λ (r : Reservation). if is_of id r then f r else 0) rs ≡ f r
    either true is rest =
        let few : count_by (is_of id) rs ≤ 0 = omega (arith, rw is at counted) in
        rw (is, sum-none f id rs (any-none (is_of id) rs few)) (omega arith ∙ ap f (one (rw is at found)))
    either false is rest = rw is (omega (arith, rest (omega (arith, rw is at counted)) (rw is at found)))

-- what is listed of the checkout, where it does not stand
pub listed-none : (f : Reservation → List PricedLine) (id : RequestId) (rs : List Reservation) → list_any (is_of id) rs ≡ false → flat_map (λ (r : Reservation). if is_of id r then f r else []) rs ≡ []
listed-none f id [] none = refl
listed-none f id (r ∷ rs) none =
    let both = or_parts (is_of id r) (list_any (is_of id) rs) none in
    rw both.0 (listed-none f id rs both.1)

-- what is listed of the checkout, where it stands once, is what the one that is found has
pub listed-found : (f : Reservation → List PricedLine) (id : RequestId) (rs : List Reservation) (r : Reservation) → IsOnce id rs → find (is_of id) rs ≡ Some r → flat_map (λ (r : Reservation). if is_of id r then f r else []) rs ≡ f r
listed-found f id [] r once found = cc
listed-found f id (q ∷ rs) r once found = either (is_of id q) refl (λ few more. listed-found f id rs r few more)
  where
    counted : cond (is_of id q) 1 0 + count_by (is_of id) rs ≤ 1
    counted = subst (λ n. n ≤ 1) (sum_by-cons (λ (r : Reservation). cond (is_of id r) 1 0) q rs) once

    one : Some q ≡ Some r → q ≡ r
    one e = cc

    either : (b : Bool) → is_of id q ≡ b → (IsOnce id rs → find (is_of id) rs ≡ Some r → flat_map (λ (r : Reservation). if is_of id r then f r else []) rs ≡ f r)
        → (if is_of id q then f q else []) ++ flat_map (λ (r : Reservation). if is_of id r then f r else []) rs ≡ f r
    either true is rest =
        let few : count_by (is_of id) rs ≤ 0 = omega (arith, rw is at counted) in
        rw (is, listed-none f id rs (any-none (is_of id) rs few)) (append-nil (f q) ∙ ap f (one (rw is at found)))
    either false is rest = rw is (rest (omega (arith, rw is at counted)) (rw is at found))

-- the lines of the checkout, where it does not stand
pub lines-none : (id : RequestId) (rs : List Reservation) → list_any (is_of id) rs ≡ false → flat_map (λ (r : Reservation). if is_of id r then r.lines else []) rs ≡ []
lines-none id rs none = listed-none (λ (r : Reservation). r.lines) id rs none

-- the lines of the checkout, where it stands once, are those of the one that is found
pub lines-found : (id : RequestId) (rs : List Reservation) (r : Reservation) → IsOnce id rs → find (is_of id) rs ≡ Some r → flat_map (λ (r : Reservation). if is_of id r then r.lines else []) rs ≡ r.lines
lines-found id rs r once found = listed-found (λ (r : Reservation). r.lines) id rs r once found

-- a checkout of this customer, and one with these lines, has the id
pub for-of : (id : RequestId) (customer : ℕ) (r : Reservation) → is_for id customer r ≡ true → is_of id r ≡ true
for-of id customer r h = (and_both (is_of id r) (r.customer == customer) h).0

-- a checkout of this customer with these lines has the id
pub for_lines-of : (id : RequestId) (customer : ℕ) (lines : List PricedLine) (r : Reservation) → is_for_lines id customer lines r ≡ true → is_of id r ≡ true
for_lines-of id customer lines r h = for-of id customer r (and_both (is_for id customer r) (same_lines r.lines lines) h).0

-- a checkout of this customer with these lines, in a list in which it stands once, is the one that is found
pub found-for_lines : (id : RequestId) (customer : ℕ) (lines : List PricedLine) (rs : List Reservation) → IsOnce id rs → list_any (is_for_lines id customer lines) rs ≡ true → find (is_of id) rs ≡ Some (record { checkout = id; customer = customer; lines = lines })
found-for_lines id customer lines [] once any = cc
found-for_lines id customer lines (q ∷ rs) once any = either (is_of id q) refl (λ few more. found-for_lines id customer lines rs few more)
  where
    counted : cond (is_of id q) 1 0 + count_by (is_of id) rs ≤ 1
    counted = subst (λ n. n ≤ 1) (sum_by-cons (λ (r : Reservation). cond (is_of id r) 1 0) q rs) once

    or_none : (a b : Bool) → (a || b) ≡ true → b ≡ false → a ≡ true
    or_none true b h none = refl
    or_none false b h none = cc

    whole : is_for_lines id customer lines q ≡ true → q ≡ record { checkout = id; customer = customer; lines = lines }
    whole h =
        let outer = and_both (is_for id customer q) (same_lines q.lines lines) h in
        let inner = and_both (is_of id q) (q.customer == customer) outer.0 in
        let same = same_id-true q.checkout id inner.0 in
        let who = eqb-true q.customer customer inner.1 in
        let what = same_lines-true q.lines lines outer.1 in
        λ i. record { checkout = same i; customer = who i; lines = what i }

    here : (b : Bool) → list_any (is_for_lines id customer lines) rs ≡ b → list_any (is_of id) rs ≡ false → is_for_lines id customer lines q ≡ true
    here true h none = cc (any_weaker (is_for_lines id customer lines) (is_of id) (λ r h. for_lines-of id customer lines r h) rs h)
    here false h none = or_none (is_for_lines id customer lines q) (list_any (is_for_lines id customer lines) rs) any h

    later : is_of id q ≡ false → (b : Bool) → is_for_lines id customer lines q ≡ b → list_any (is_for_lines id customer lines) rs ≡ true
    later is true h = cc (for_lines-of id customer lines q h)
    later is false h = rw h at any

    either : (b : Bool) → is_of id q ≡ b → (IsOnce id rs → list_any (is_for_lines id customer lines) rs ≡ true → find (is_of id) rs ≡ Some (record { checkout = id; customer = customer; lines = lines }))
        → cond (is_of id q) (Some q) (find (is_of id) rs) ≡ Some (record { checkout = id; customer = customer; lines = lines })
    either true is rest =
        let few : count_by (is_of id) rs ≤ 0 = omega (arith, rw is at counted) in
        rw is (ap (λ (r : Reservation). Some r) (whole (here (list_any (is_for_lines id customer lines) rs) refl (any-none (is_of id) rs few))))
    either false is rest = rw is (rest (omega (arith, rw is at counted)) (later is (is_for_lines id customer lines q) refl))

-- the one that is found is of this customer, and has these lines
abbrev pub is_customers : ℕ → Option Reservation → Bool
is_customers customer None = false
is_customers customer (Some r) = r.customer == customer

-- the one that is found is of this customer, and has these lines
abbrev pub is_customers_with : ℕ → List PricedLine → Option Reservation → Bool
is_customers_with customer lines None = false
is_customers_with customer lines (Some r) = (r.customer == customer) && same_lines r.lines lines

-- the test holds of the one that is found
abbrev pub found_with : Option Reservation → (Reservation → Bool) → Bool
found_with None test = false
found_with (Some r) test = test r

-- in a list in which the checkout stands once, a test that holds of it alone is that of the one that is found
pub any-found : (id : RequestId) (test : Reservation → Bool) (rs : List Reservation) → IsOnce id rs → list_any (λ r. is_of id r && test r) rs ≡ found_with (find (is_of id) rs) test
any-found id test [] once = refl
any-found id test (q ∷ rs) once = either (is_of id q) refl (λ few. any-found id test rs few)
  where
    counted : cond (is_of id q) 1 0 + count_by (is_of id) rs ≤ 1
    counted = subst (λ n. n ≤ 1) (sum_by-cons (λ (r : Reservation). cond (is_of id r) 1 0) q rs) once

    none_pass : (rs : List Reservation) → list_any (is_of id) rs ≡ false → list_any (λ r. is_of id r && test r) rs ≡ false
    none_pass [] none = refl
    none_pass (r ∷ rs) none =
        let both = or_parts (is_of id r) (list_any (is_of id) rs) none in
        rw both.0 (none_pass rs both.1)

    either : (b : Bool) → is_of id q ≡ b → (IsOnce id rs → list_any (λ r. is_of id r && test r) rs ≡ found_with (find (is_of id) rs) test)
        → ((is_of id q && test q) || list_any (λ r. is_of id r && test r) rs) ≡ found_with (cond (is_of id q) (Some q) (find (is_of id) rs)) test
    either true is rest =
        let few : count_by (is_of id) rs ≤ 0 = omega (arith, rw is at counted) in
        rw (is, none_pass rs (any-none (is_of id) rs few)) (or_false (test q))
    either false is rest = rw is (rest (omega (arith, rw is at counted)))

-- a checkout of this customer stands in the list, where the one that is found is the customer's
pub any_for-found : (id : RequestId) (customer : ℕ) (rs : List Reservation) → IsOnce id rs → list_any (is_for id customer) rs ≡ is_customers customer (find (is_of id) rs)
any_for-found id customer rs once = any-found id (λ r. r.customer == customer) rs once ∙ shown (find (is_of id) rs)
  where
    shown : (o : Option Reservation) → found_with o (λ r. r.customer == customer) ≡ is_customers customer o
    shown None = refl
    shown (Some r) = refl

-- and the same with these lines
pub any_for_lines-found : (id : RequestId) (customer : ℕ) (lines : List PricedLine) (rs : List Reservation) → IsOnce id rs → list_any (is_for_lines id customer lines) rs ≡ is_customers_with customer lines (find (is_of id) rs)
any_for_lines-found id customer lines rs once =
    ap (λ test. list_any test rs) (λ i r. assoc (is_of id r) (r.customer == customer) (same_lines r.lines lines) i)
    ∙ any-found id (λ r. (r.customer == customer) && same_lines r.lines lines) rs once
    ∙ shown (find (is_of id) rs)
  where
    assoc : (a b c : Bool) → ((a && b) && c) ≡ (a && (b && c))
    assoc true b c = refl
    assoc false b c = refl

    shown : (o : Option Reservation) → found_with o (λ r. (r.customer == customer) && same_lines r.lines lines) ≡ is_customers_with customer lines o
    shown None = refl
    shown (Some r) = refl

-- one more checkout, which did not stand, is found under its id
pub found-push : (rs : List Reservation) (r : Reservation) → list_any (is_of r.checkout) rs ≡ false → (id : RequestId) → find (is_of id) (rs ++ r ∷ []) ≡ (if same_id r.checkout id then Some r else find (is_of id) rs)
found-push rs r new id = find-append (is_of id) rs (r ∷ []) ∙ either (same_id r.checkout id) refl
  where
    or_none : (o : Option Reservation) → option_or o None ≡ o
    or_none None = refl
    or_none (Some x) = refl

    either : (b : Bool) → same_id r.checkout id ≡ b → option_or (find (is_of id) rs) (cond (same_id r.checkout id) (Some r) None) ≡ (if same_id r.checkout id then Some r else find (is_of id) rs)
    either true same = rw (same, found-none id rs (ap (λ id. list_any (is_of id) rs) (sym (same_id-true r.checkout id same)) ∙ new))
    either false other = rw other (or_none (find (is_of id) rs))

-- where none is found, the checkout does not stand
pub none-found : (id : RequestId) (rs : List Reservation) → find (is_of id) rs ≡ None → list_any (is_of id) rs ≡ false
none-found id [] found = refl
none-found id (r ∷ rs) found = here (is_of id r) found (λ more. none-found id rs more)
  where
    here : (b : Bool) → cond b (Some r) (find (is_of id) rs) ≡ None → (find (is_of id) rs ≡ None → list_any (is_of id) rs ≡ false) → (b || list_any (is_of id) rs) ≡ false
    here true found rest = cc
    here false found rest = rest found
