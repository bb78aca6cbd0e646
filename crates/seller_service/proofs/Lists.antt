-- Lists that are added to, and of which the last elements are taken back.
use Rattle.std.proofs.Common.{◌≡◌, ℕ, suc, ◌+◌, ◌-◌, ◌<◌, ◌≤◌, Bool, true, false, cond, List, [], ◌∷◌, ◌++◌, Option, Some, None, find, filter, filter_map, length, take, get_or, count_by, refl, ap, ap₂, sym, ◌∙◌, arith, length-append}
use Rattle.std.specs.List.{cons_option, enumerate_from}
use Rattle.std.specs.Option.{option_to_list}
use Rattle.std.proofs.lemmas.List.{length-take, take-take, take_more}
use Rattle.std.proofs.lemmas.List.Elements.{filter_map-append}
use Rattle.std.proofs.lemmas.List.Filters.{length-filter_more}
use Rattle.std.proofs.lemmas.List.Sums.{length-filter}
use Rattle.std.proofs.Math.Seq.{take-append_seam}

-- what was added is taken back
pub taken_back : {A : Type 0} (xs ys : List A) (n : ℕ) → length ys ≡ n → take (length (xs ++ ys) - n) (xs ++ ys) ≡ xs
taken_back xs ys n is =
    let e : length (xs ++ ys) - n ≡ length xs = omega (arith, length-append xs ys) in
    rw e (take-append_seam xs ys)

-- one more is taken back
pub one_back : {A : Type 0} (xs : List A) (n : ℕ) → take (length (take (length xs - n) xs) - 1) (take (length xs - n) xs) ≡ take (length xs - (n + 1)) xs
one_back xs n =
    let e : length (take (length xs - n) xs) - 1 ≡ length xs - (n + 1) = omega (arith, length-take (length xs - n) xs) in
    rw e (take-take (length xs - (n + 1)) (length xs - n) xs (omega arith))

-- the elements so far with what the next one gives
pub filter_map-next : {A B : Type 0} (f : A → Option B) (xs : List A) (i : ℕ) (d : A) → i < length xs
    → filter_map f (take (i + 1) xs) ≡ filter_map f (take i xs) ++ option_to_list (f (get_or xs i d))
filter_map-next {B = B} f xs i d below =
    ap (filter_map f) (take_more xs i d below) ∙ filter_map-append f (take i xs) (get_or xs i d ∷ [])
    ∙ ap (λ ys. filter_map f (take i xs) ++ ys) (by (f (get_or xs i d)))
  where
    by : (o : Option B) → cons_option o [] ≡ option_to_list o
    by None = refl
    by (Some y) = refl

-- of elements of which one passes at most, those that pass
pub one_found : {A : Type 0} (p : A → Bool) (xs : List A) → length (filter p xs) ≤ 1 → filter p xs ≡ option_to_list (find p xs)
one_found p [] few = refl
one_found {A = A} p (x ∷ xs) few = by (p x) few (one_found p xs)
  where
    none : (ys : List A) → length (x ∷ ys) ≤ 1 → x ∷ ys ≡ x ∷ []
    none [] few = refl
    none (y ∷ ys) few = absurd (omega (arith, few))

    by : (b : Bool) → length (cond b (x ∷ filter p xs) (filter p xs)) ≤ 1 → (length (filter p xs) ≤ 1 → filter p xs ≡ option_to_list (find p xs))
        → cond b (x ∷ filter p xs) (filter p xs) ≡ option_to_list (cond b (Some x) (find p xs))
    by true few rest = none (filter p xs) few
    by false few rest = rest few

-- what is left after one more element was taken back, or none
pub next_back : {A : Type 0} (was now later : List A) (n m : ℕ) (b : Bool) → now ≡ take (length was - n) was → later ≡ cond b (take (length now - 1) now) now → m ≡ n + cond b 1 0
    → later ≡ take (length was - m) was
next_back was now later n m true is e count = e ∙ ap (λ xs. take (length xs - 1) xs) is ∙ one_back was n ∙ ap (λ k. take (length was - k) was) (sym count)
next_back was now later n m false is e count = let same : n ≡ m = omega arith in e ∙ is ∙ ap (λ k. take (length was - k) was) same

-- how many pass with the next one
pub count_by-next : {A : Type 0} (p : A → Bool) (xs : List A) (i : ℕ) (d : A) → i < length xs → count_by p (take (i + 1) xs) ≡ count_by p (take i xs) + cond (p (get_or xs i d)) 1 0
count_by-next p xs i d below =
    omega (arith, length-filter p (take (i + 1) xs), length-filter p (take i xs), length-filter_more p xs i d below)

-- the elements so far, numbered, with the next one
pub enumerate-push : {A : Type 0} (n : ℕ) (xs : List A) (x : A) → enumerate_from n (xs ++ x ∷ []) ≡ enumerate_from n xs ++ (n + length xs, x) ∷ []
enumerate-push n [] x = let e : n ≡ n + 0 = omega arith in ap (λ k. (k, x) ∷ []) e
enumerate-push n (y ∷ ys) x =
    ap (λ rest. (n, y) ∷ rest) (enumerate-push (n + 1) ys x ∙ ap (λ k. enumerate_from (n + 1) ys ++ (k, x) ∷ []) (shift (length ys)))
  where
    shift : (m : ℕ) → (n + 1) + m ≡ n + suc m
    shift m = omega arith

-- what the elements so far give, with what the next one gives
pub filter_map-push : {A B : Type 0} (f : A → Option B) (xs : List A) (i : ℕ) (d : A) (was now : List B) (o : Option B) → i < length xs → was ≡ filter_map f (take i xs) → o ≡ f (get_or xs i d)
    → now ≡ was ++ option_to_list o → now ≡ filter_map f (take (i + 1) xs)
filter_map-push f xs i d was now o below before is e =
    e ∙ ap₂ (λ a b. a ++ option_to_list b) before is ∙ sym (filter_map-next f xs i d below)
