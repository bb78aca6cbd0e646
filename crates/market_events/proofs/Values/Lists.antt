-- Tests, and sums, filters and counts of lists of one more element.
use Rattle.std.proofs.Common.{◌≡◌, ℕ, ◌+◌, ◌≤◌, Bool, true, false, cond, ◌&&◌, ◌||◌, not, List, [], ◌∷◌, ◌++◌, Option, map, filter, filter_map, sum_by, count_by, refl, ap, ◌∙◌, append-nil, arith}
use Rattle.std.specs.List.{list_any, list_all, flat_map}
use Rattle.std.proofs.lemmas.List.Concat.{flat_map-append}
use Rattle.std.proofs.lemmas.List.Elements.{filter_map-append}
use Rattle.std.proofs.lemmas.List.Folds.{list_any-append}
use Rattle.std.proofs.lemmas.List.Sums.{sum_by-cons}

-- and: both parts hold
pub and_both : (a b : Bool) → (a && b) ≡ true → (a ≡ true) × (b ≡ true)
and_both true b h = (refl, h)
and_both false b h = cc

-- or false changes nothing
pub or_false : (b : Bool) → (b || false) ≡ b
or_false true = refl
or_false false = refl

-- or: the second holds
pub or_true : (a b : Bool) → b ≡ true → (a || b) ≡ true
or_true true b h = refl
or_true false b h = h

-- or: the first holds
pub or_left : (a b : Bool) → a ≡ true → (a || b) ≡ true
or_left true b h = refl
or_left false b h = cc

-- or: the second holds, which is left out
pub or_right : (a : Bool) {b : Bool} → b ≡ true → (a || b) ≡ true
or_right true h = refl
or_right false h = h

-- and: both hold
pub and_from : (a b : Bool) → a ≡ true → b ≡ true → (a && b) ≡ true
and_from a b p q = rw (p, q)

-- and true changes nothing
pub and_true : (a : Bool) → (a && true) ≡ a
and_true true = refl
and_true false = refl

-- and false is false
pub and_false : (a : Bool) → (a && false) ≡ false
and_false true = refl
and_false false = refl

-- or that fails: both fail
pub or_parts : (a b : Bool) → (a || b) ≡ false → (a ≡ false) × (b ≡ false)
or_parts false b h = (refl, h)
or_parts true b h = cc

-- not holds: the test fails
pub not_true : (a : Bool) → not a ≡ true → a ≡ false
not_true false h = refl
not_true true h = cc

-- and not: the first holds and the second fails
pub and_not : (a b : Bool) → (a && not b) ≡ true → (a ≡ true) × (b ≡ false)
and_not true false h = (refl, refl)
and_not true true h = cc
and_not false b h = cc

-- a test that does not hold
pub false_from : (a : Bool) → (a ≡ true → false ≡ true) → a ≡ false
false_from true h = cc (h refl)
false_from false h = refl

-- a test that does not fail
pub true_from : (a : Bool) → (a ≡ false → false ≡ true) → a ≡ true
true_from true h = refl
true_from false h = cc (h refl)

-- a map after a map
pub map-map : {A B C : Type 0} (f : A → B) (g : B → C) (xs : List A) → map g (map f xs) ≡ map (λ x. g (f x)) xs
map-map f g [] = refl
map-map f g (x ∷ xs) = ap (λ ys. g (f x) ∷ ys) (map-map f g xs)

-- the lists that f gives, with that of one more element
pub flat_map-push : {A B : Type 0} (f : A → List B) (xs : List A) (x : A) → flat_map f (xs ++ x ∷ []) ≡ flat_map f xs ++ f x
flat_map-push f xs x = flat_map-append f xs (x ∷ []) ∙ ap (λ ys. flat_map f xs ++ ys) (append-nil (f x))

-- what one more element gives stands last
pub filter_map-push : {A B : Type 0} (f : A → Option B) (xs : List A) (x : A) → filter_map f (xs ++ x ∷ []) ≡ filter_map f xs ++ filter_map f (x ∷ [])
filter_map-push f xs x = filter_map-append f xs (x ∷ [])

-- an element passes, where one does or the last does
pub list_any-push : {A : Type 0} (test : A → Bool) (xs : List A) (x : A) → list_any test (xs ++ x ∷ []) ≡ (list_any test xs || test x)
list_any-push test xs x = list_any-append test xs (x ∷ []) ∙ ap (λ b. list_any test xs || b) (or_false (test x))

-- two terms that agree at each element have the same sum
pub sum_by_agree : {A : Type 0} (f g : A → ℕ) → ((x : A) → f x ≡ g x) → (xs : List A) → sum_by f xs ≡ sum_by g xs
sum_by_agree f g same xs = ap (λ h. sum_by h xs) (λ i x. same x i)

-- the sum of two terms
pub sum_by_plus : {A : Type 0} (f g : A → ℕ) (xs : List A) → sum_by (λ x. f x + g x) xs ≡ sum_by f xs + sum_by g xs
sum_by_plus f g [] = refl
sum_by_plus f g (x ∷ xs) = rw (sum_by-cons (λ x. f x + g x) x xs, sum_by-cons f x xs, sum_by-cons g x xs) (omega (arith, sum_by_plus f g xs))

-- where no element passes, none is counted
pub count-none : {A : Type 0} (test : A → Bool) (xs : List A) → list_any test xs ≡ false → count_by test xs ≡ 0
count-none test [] none = refl
count-none test (x ∷ xs) none =
    let both = or_parts (test x) (list_any test xs) none in
    sum_by-cons (λ x. cond (test x) 1 0) x xs ∙ rw both.0 (omega (arith, count-none test xs both.1))

-- where an element passes, at least one is counted
pub count-some : {A : Type 0} (test : A → Bool) (xs : List A) → list_any test xs ≡ true → 1 ≤ count_by test xs
count-some test [] any = cc
count-some test (x ∷ xs) any = rw (sum_by-cons (λ x. cond (test x) 1 0) x xs) (either (test x) refl (λ more. count-some test xs more))
  where
    either : (b : Bool) → test x ≡ b → (list_any test xs ≡ true → 1 ≤ count_by test xs) → 1 ≤ cond (test x) 1 0 + count_by test xs
    either true passes rest = rw passes (omega arith)
    either false passes rest = rw passes (omega (arith, rest (rw passes at any)))

-- a test that passes only where another does
pub any_weaker : {A : Type 0} (test weak : A → Bool) → ((x : A) → test x ≡ true → weak x ≡ true) → (xs : List A) → list_any test xs ≡ true → list_any weak xs ≡ true
any_weaker test weak weaker [] any = any
any_weaker test weak weaker (x ∷ xs) any = either (test x) refl (λ more. any_weaker test weak weaker xs more)
  where
    or_right : (a b : Bool) → b ≡ true → (a || b) ≡ true
    or_right true b h = refl
    or_right false b h = h

    either : (b : Bool) → test x ≡ b → (list_any test xs ≡ true → list_any weak xs ≡ true) → (weak x || list_any weak xs) ≡ true
    either true passes rest = rw (weaker x passes)
    either false passes rest = or_right (weak x) (list_any weak xs) (rest (rw passes at any))

-- where none is counted, none passes
pub any-none : {A : Type 0} (test : A → Bool) (xs : List A) → count_by test xs ≤ 0 → list_any test xs ≡ false
any-none test xs few = either (list_any test xs) refl
  where
    either : (b : Bool) → list_any test xs ≡ b → list_any test xs ≡ false
    either true any = absurd (omega (arith, count-some test xs any, few))
    either false any = any

-- of elements that all pass a test, one that passes another
pub all-any : {A : Type 0} (p q : A → Bool) (G : Type 0) → ((x : A) → p x ≡ true → q x ≡ true → G) → (xs : List A) → list_all p xs ≡ true → list_any q xs ≡ true → G
all-any p q G use_it [] all any = cc
all-any p q G use_it (x ∷ xs) all any =
    let both = and_both (p x) (list_all p xs) all in
    either (q x) refl any (λ more. all-any p q G use_it xs both.1 more) both.0
  where
    either : (b : Bool) → q x ≡ b → (b || list_any q xs) ≡ true → (list_any q xs ≡ true → G) → p x ≡ true → G
    either true is any rest passes = use_it x passes is
    either false is any rest passes = rest any

-- where no element passes, none of those that a filter keeps does
pub any_filter-none : {A : Type 0} (test keep : A → Bool) (xs : List A) → list_any test xs ≡ false → list_any test (filter keep xs) ≡ false
any_filter-none test keep [] none = refl
any_filter-none test keep (x ∷ xs) none =
    let both = or_parts (test x) (list_any test xs) none in
    either (keep x) (any_filter-none test keep xs both.1) both.0
  where
    either : (b : Bool) → list_any test (filter keep xs) ≡ false → test x ≡ false → list_any test (cond b (x ∷ filter keep xs) (filter keep xs)) ≡ false
    either true rest fails = rw fails rest
    either false rest fails = rest
