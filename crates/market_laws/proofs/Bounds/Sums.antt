-- Sums over the first numbers.
use Rattle.std.proofs.Common.{◌≡◌, ◌≢◌, ℕ, zero, suc, ◌+◌, ◌*◌, ◌<◌, ◌≤◌, ◌==◌, Bool, true, false, List, [], ◌∷◌, length, eqb-true, refl, ap, ◌∙◌, subst, arith}
use Rattle.std.specs.Prelude.{slice_index_or}
use Rattle.std.proofs.Math.Nat.{suc-mul}
use Rattle.std.specs.List.{sum_by, list_all, range_with_len}
use Rattle.std.proofs.lemmas.Bool.{and_parts, eqb-false}
use Rattle.std.proofs.lemmas.Bool.Decides.{nat_tests}
use Rattle.std.proofs.lemmas.List.Sums.{sum_by-cons}

-- f 0, f 1 and so on, n of them
unfoldable pub sum_to : (ℕ → ℕ) → ℕ → ℕ
sum_to f zero = 0
sum_to f (suc n) = f 0 + sum_to (λ k. f (suc k)) n

pub sum_to-le : (f g : ℕ → ℕ) (n : ℕ) → ((k : ℕ) → k < n → f k ≤ g k) → sum_to f n ≤ sum_to g n
unfolding sum_to
sum_to-le f g zero le = omega arith
sum_to-le f g (suc n) le = omega (arith, le 0 (omega arith), sum_to-le (λ k. f (suc k)) (λ k. g (suc k)) n (λ k lt. le (suc k) (omega arith)))

pub sum_to-plus : (f g : ℕ → ℕ) (n : ℕ) → sum_to (λ k. f k + g k) n ≡ sum_to f n + sum_to g n
unfolding sum_to
sum_to-plus f g zero = omega arith
sum_to-plus f g (suc n) = omega (arith, sum_to-plus (λ k. f (suc k)) (λ k. g (suc k)) n)

pub sum_to-most : (f : ℕ → ℕ) (n most : ℕ) → ((k : ℕ) → k < n → f k ≤ most) → sum_to f n ≤ n * most
unfolding sum_to
sum_to-most f zero most le = omega arith
sum_to-most f (suc n) most le =
    let first = le 0 (omega arith) in
    let rest = sum_to-most (λ k. f (suc k)) n most (λ k lt. le (suc k) (omega arith)) in
    let split : suc n * most ≡ n * most + most = suc-mul n most in
    omega (arith, first, rest, split)

-- a term that is there
pub sum_to-part : (f : ℕ → ℕ) (n k : ℕ) → k < n → f k ≤ sum_to f n
unfolding sum_to
sum_to-part f zero k lt = absurd (omega arith)
sum_to-part f (suc n) zero lt = omega arith
sum_to-part f (suc n) (suc k) lt = omega (arith, sum_to-part (λ i. f (suc i)) n k (omega arith))

-- where all is nothing
pub sum_to-none : (f : ℕ → ℕ) (n : ℕ) → ((k : ℕ) → k < n → f k ≡ 0) → sum_to f n ≡ 0
unfolding sum_to
sum_to-none f zero none = refl
sum_to-none f (suc n) none = omega (arith, none 0 (omega arith), sum_to-none (λ k. f (suc k)) n (λ k lt. none (suc k) (omega arith)))

-- where all is nothing but one term
pub sum_to-one : (f : ℕ → ℕ) (n k : ℕ) → ((i : ℕ) → i < n → i ≢ k → f i ≡ 0) → sum_to f n ≤ f k
unfolding sum_to
sum_to-one f zero k none = omega arith
sum_to-one f (suc n) zero none =
    omega (arith, sum_to-none (λ k. f (suc k)) n (λ i lt. none (suc i) (omega arith) (λ e. omega arith)))
sum_to-one f (suc n) (suc k) none =
    omega (arith, none 0 (omega arith) (λ e. omega arith), sum_to-one (λ i. f (suc i)) n k (λ i lt differs. none (suc i) (omega arith) (λ e. differs (omega arith))))

-- the sum over a list is one over its places
pub sum_to-list : {A : Type 0} (f : A → ℕ) (xs : List A) (d : A) → sum_by f xs ≡ sum_to (λ k. f (slice_index_or xs k d)) (length xs)
unfolding sum_to
sum_to-list f [] d = refl
sum_to-list f (x ∷ xs) d = sum_by-cons f x xs ∙ ap (λ k. f x + k) (sum_to-list f xs d)

-- a test of every number of a range
pub all_of_range : (p : ℕ → Bool) (a n : ℕ) → list_all p (range_with_len a n) ≡ true → (k : ℕ) → a ≤ k → k < a + n → p k ≡ true
all_of_range p a zero all k low high = absurd (omega arith)
all_of_range p a (suc n) all k low high =
    let both = and_parts (p a) (list_all p (range_with_len (a + 1) n)) all in
    by (a == k) refl both.0 (λ above. all_of_range p (a + 1) n both.1 k above (omega arith))
  where
    by : (test : Bool) → (a == k) ≡ test → p a ≡ true → (a + 1 ≤ k → p k ≡ true) → p k ≡ true
    by true is here rest = subst (λ i. p i ≡ true) (eqb-true a k is) here
    by false is here rest = rest (let differs = eqb-false a k is in grind (arith, nat_tests))
