-- The order of a schedule: of some moves, the one that all others precede is put last.
use Rattle.std.proofs.Common.{◌≡◌, ℕ, ◌<◌, ◌==◌, ◌||◌, ◌&&◌, Bool, true, false, nat_lt, List, [], ◌∷◌, ◌++◌, if◌then◌else◌, refl, ap, sym, ◌∙◌, arith}
use Rattle.std.specs.Prelude.{fold}
use Rattle.std.specs.List.{AllByRecursion}
use Rattle.std.proofs.lemmas.Bool.Decides.{nat_tests}
use Rattle.std.proofs.lemmas.List.Sums.{fold-append}
use Rattle.market_history.specs.Schedule.{Moved, goes_before, put_in, in_order}
use Rattle.market_laws.proofs.Growth.Members.{all-front, all-back}

-- the first goes before the second, and the second not before the first
pub record Precedes (a b : Moved) : Type 0 where
  pub goes : goes_before a b ≡ true
  pub not_back : goes_before b a ≡ false

tests-clock : (p q : ℕ) (s t : Bool) → p < q → (nat_lt p q || s ≡ true) × (nat_lt q p || ((q == p) && t) ≡ false)
tests-clock p q s t lt =
    let a : nat_lt p q ≡ true = grind (arith, nat_tests) in
    let b : nat_lt q p ≡ false = grind (arith, nat_tests) in
    let c : (q == p) ≡ false = grind (arith, nat_tests) in
    (rw a refl, rw (b, c) refl)

pub precedes-clock : (a b : Moved) → a.clock < b.clock → Precedes a b
precedes-clock a b lt =
    let both = tests-clock a.clock b.clock ((a.clock == b.clock) && nat_lt a.node b.node) (nat_lt b.node a.node) lt in
    record { goes = both.0; not_back = both.1 }

tests-node : (p q x y : ℕ) → p ≡ q → x < y → (nat_lt p q || ((p == q) && nat_lt x y) ≡ true) × (nat_lt q p || ((q == p) && nat_lt y x) ≡ false)
tests-node p q x y e lt =
    let a : nat_lt p q ≡ false = grind (arith, nat_tests) in
    let b : nat_lt q p ≡ false = grind (arith, nat_tests) in
    let c : (p == q) ≡ true = grind (arith, nat_tests) in
    let d : (q == p) ≡ true = grind (arith, nat_tests) in
    let f : nat_lt x y ≡ true = grind (arith, nat_tests) in
    let g : nat_lt y x ≡ false = grind (arith, nat_tests) in
    (rw (a, c, f) refl, rw (b, d, g) refl)

pub precedes-node : (a b : Moved) → a.clock ≡ b.clock → a.node < b.node → Precedes a b
precedes-node a b e lt =
    let both = tests-node a.clock b.clock a.node b.node e lt in
    record { goes = both.0; not_back = both.1 }

-- where the moves that are there precede it
put_in-last : (m : Moved) (xs : List Moved) → AllByRecursion (λ (z : Moved). Precedes z m) xs → put_in m xs ≡ xs ++ m ∷ []
put_in-last m [] each = refl
put_in-last m (x ∷ xs) each = by (goes_before m x) each.0.not_back (put_in-last m xs each.1)
  where
    by : (test : Bool) → test ≡ false → put_in m xs ≡ xs ++ m ∷ [] → (if test then m ∷ x ∷ xs else x ∷ put_in m xs) ≡ x ∷ (xs ++ m ∷ [])
    by true is rest = let no : ⊥ = cc in absurd no
    by false is rest = ap (λ l. x ∷ l) rest

-- where it precedes the last
put_in-before : (y m : Moved) (xs : List Moved) → Precedes y m → put_in y (xs ++ m ∷ []) ≡ put_in y xs ++ m ∷ []
put_in-before y m [] before = by (goes_before y m) before.goes
  where
    by : (test : Bool) → test ≡ true → (if test then y ∷ m ∷ [] else m ∷ y ∷ []) ≡ y ∷ m ∷ []
    by true is = refl
    by false is = let no : ⊥ = cc in absurd no
put_in-before y m (x ∷ xs) before = by (goes_before y x) (put_in-before y m xs before)
  where
    by : (test : Bool) → put_in y (xs ++ m ∷ []) ≡ put_in y xs ++ m ∷ []
        → (if test then y ∷ x ∷ (xs ++ m ∷ []) else x ∷ put_in y (xs ++ m ∷ [])) ≡ (if test then y ∷ x ∷ xs else x ∷ put_in y xs) ++ m ∷ []
    by true rest = refl
    by false rest = ap (λ l. x ∷ l) rest

put_in-all : (P : Moved → Type 0) (m : Moved) (xs : List Moved) → P m → AllByRecursion P xs → AllByRecursion P (put_in m xs)
put_in-all P m [] one each = (one, tt)
put_in-all P m (x ∷ xs) one each = by (goes_before m x) (put_in-all P m xs one each.1)
  where
    by : (test : Bool) → AllByRecursion P (put_in m xs) → AllByRecursion P (if test then m ∷ x ∷ xs else x ∷ put_in m xs)
    by true rest = (one, (each.0, each.1))
    by false rest = (each.0, rest)

abbrev put : List Moved → Moved → List Moved
put ordered m = put_in m ordered

put-all : (P : Moved → Type 0) (acc xs : List Moved) → AllByRecursion P acc → AllByRecursion P xs → AllByRecursion P (fold put acc xs)
put-all P acc [] front each = front
put-all P acc (x ∷ xs) front each = put-all P (put_in x acc) xs (put_in-all P x acc each.0 front) each.1

put-before : (m : Moved) (acc ys : List Moved) → AllByRecursion (λ (z : Moved). Precedes z m) ys → fold put (acc ++ m ∷ []) ys ≡ fold put acc ys ++ m ∷ []
put-before m acc [] each = refl
put-before m acc (y ∷ ys) each = ap (λ l. fold put l ys) (put_in-before y m acc each.0) ∙ put-before m (put_in y acc) ys each.1

-- the one that all others precede is last, wherever it stood
pub in_order-last : (xs : List Moved) (m : Moved) (ys : List Moved) → AllByRecursion (λ (z : Moved). Precedes z m) (xs ++ ys) → in_order (xs ++ m ∷ ys) ≡ in_order (xs ++ ys) ++ m ∷ []
in_order-last xs m ys each =
    let before : List Moved = fold put [] xs in
    let front = put-all (λ (z : Moved). Precedes z m) [] xs tt (all-front (λ (z : Moved). Precedes z m) xs ys each) in
    fold-append put [] xs (m ∷ ys) ∙ ap (λ l. fold put l ys) (put_in-last m (fold put [] xs) front)
    ∙ put-before m (fold put [] xs) ys (all-back (λ (z : Moved). Precedes z m) xs ys each) ∙ ap (λ l. l ++ m ∷ []) (sym (fold-append put [] xs ys))
