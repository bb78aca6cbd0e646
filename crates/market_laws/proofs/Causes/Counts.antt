-- Counts of kept elements, and of items of lines that are apart.
use Rattle.std.proofs.Common.{◌≡◌, ℕ, ◌≤◌, Bool, true, false, cond, not, List, [], ◌∷◌, ◌++◌, filter, count_by, refl, sym, ◌∙◌, subst, arith}
use Rattle.std.specs.List.{list_any}
use Rattle.std.proofs.lemmas.List.Sums.{sum_by-cons}
use Rattle.market_amounts.specs.declared.keys.ProductKey.{ProductKey}
use Rattle.market_amounts.specs.declared.keys.RequestId.{RequestId}
use Rattle.market_events.specs.declared.bodies.Item.{Item}
use Rattle.market_events.specs.Orders.{is_item_of}
use Rattle.market_events.specs.Requests.{same_id, same_key}
use Rattle.market_events.proofs.Values.Lists.{and_both, not_true, list_any-push, or_left, or_true}
use Rattle.market_events.proofs.Values.Same.{same_id-true, same_key-true}
use Rattle.market_laws.specs.Runs.{lines_apart}

-- no more passes among what is kept
pub count-filter : {A : Type 0} (test keep : A → Bool) (xs : List A) → count_by test (filter keep xs) ≤ count_by test xs
count-filter test keep [] = omega arith
count-filter test keep (x ∷ xs) = by (keep x) (count-filter test keep xs)
  where
    by : (b : Bool) → count_by test (filter keep xs) ≤ count_by test xs → count_by test (cond b (x ∷ filter keep xs) (filter keep xs)) ≤ count_by test (x ∷ xs)
    by true rest = omega (arith, rest, sum_by-cons (λ y. cond (test y) 1 0) x (filter keep xs), sum_by-cons (λ y. cond (test y) 1 0) x xs)
    by false rest = omega (arith, rest, sum_by-cons (λ y. cond (test y) 1 0) x xs)

-- an item of this product is that of its own checkout and product
is_it : (c : RequestId) (key : ProductKey) (x : Item) → is_item_of c key x ≡ true → (c ≡ x.checkout) × (key ≡ x.key)
is_it c key x passes =
    let both = and_both (same_id x.checkout c) (same_key x.key key) passes in (sym (same_id-true x.checkout c both.0), sym (same_key-true x.key key both.1))

-- where one was before, items that are apart have none
apart_none : (before xs : List Item) (c : RequestId) (key : ProductKey) → lines_apart before xs ≡ true → list_any (is_item_of c key) before ≡ true → count_by (is_item_of c key) xs ≡ 0
apart_none before [] c key apart had = refl
apart_none before (x ∷ xs) c key apart had =
    by (is_item_of c key x) refl (λ later. apart_none (before ++ x ∷ []) xs c key both.1 later)
  where
    both : (not (list_any (is_item_of x.checkout x.key) before) ≡ true) × (lines_apart (before ++ x ∷ []) xs ≡ true)
    both = and_both (not (list_any (is_item_of x.checkout x.key) before)) (lines_apart (before ++ x ∷ []) xs) apart

    Rest : Type 0
    Rest = list_any (is_item_of c key) (before ++ x ∷ []) ≡ true → count_by (is_item_of c key) xs ≡ 0

    by : (b : Bool) → is_item_of c key x ≡ b → Rest → count_by (is_item_of c key) (x ∷ xs) ≡ 0
    by true is rest =
        let same = is_it c key x is in
        let had_it : list_any (is_item_of x.checkout x.key) before ≡ true = subst (λ k. list_any (is_item_of x.checkout k) before ≡ true) same.1 (subst (λ d. list_any (is_item_of d key) before ≡ true) same.0 had) in
        let none = not_true (list_any (is_item_of x.checkout x.key) before) both.0 in
        let no : ⊥ = cc in absurd no
    by false is rest =
        let had_then = list_any-push (is_item_of c key) before x ∙ or_left (list_any (is_item_of c key) before) (is_item_of c key x) had in
        let none = rest had_then in
        let split = sum_by-cons (λ y. cond (is_item_of c key y) 1 0) x xs in
        let zero : ◌≡◌ {A = ℕ} (cond (is_item_of c key x) 1 0) 0 = rw is refl in
        omega (arith, none, split, zero)

-- items that are apart have one of each product of a checkout at most
pub apart-few : (before xs : List Item) (c : RequestId) (key : ProductKey) → lines_apart before xs ≡ true → count_by (is_item_of c key) xs ≤ 1
apart-few before [] c key apart = omega arith
apart-few before (x ∷ xs) c key apart =
    by (is_item_of c key x) refl (apart-few (before ++ x ∷ []) xs c key both.1)
  where
    both : (not (list_any (is_item_of x.checkout x.key) before) ≡ true) × (lines_apart (before ++ x ∷ []) xs ≡ true)
    both = and_both (not (list_any (is_item_of x.checkout x.key) before)) (lines_apart (before ++ x ∷ []) xs) apart

    by : (b : Bool) → is_item_of c key x ≡ b → count_by (is_item_of c key) xs ≤ 1 → count_by (is_item_of c key) (x ∷ xs) ≤ 1
    by true is rest =
        let none = apart_none (before ++ x ∷ []) xs c key both.1 (list_any-push (is_item_of c key) before x ∙ or_true (list_any (is_item_of c key) before) (is_item_of c key x) is) in
        let split = sum_by-cons (λ y. cond (is_item_of c key y) 1 0) x xs in
        let one : cond (is_item_of c key x) 1 0 ≤ 1 = rw is (omega arith) in
        omega (arith, none, split, one)
    by false is rest =
        let split = sum_by-cons (λ y. cond (is_item_of c key y) 1 0) x xs in
        let zero : ◌≡◌ {A = ℕ} (cond (is_item_of c key x) 1 0) 0 = rw is refl in
        omega (arith, rest, split, zero)
