-- Lists that are gathered by an option, and joined. The last and the sums of what is gathered are those of the list (last-gathered,
-- sum-gathered), where they are for each element. A sum is that of the elements that pass and that of the others (sum-parts), and
-- where a test tells whether others are kept, one that passes it is kept by that (any-kept). What agrees at each member gathers,
-- joins and sums the same (gathered-members, joined-members, sum-members).
use Rattle.std.proofs.Common.{◌≡◌, ℕ, ◌+◌, Bool, true, false, cond, ◌&&◌, ◌||◌, not, List, [], ◌∷◌, Option, Some, None, filter, filter_map, if◌then◌else◌, sum_by, inl, inr, refl, sym, ◌∙◌, arith, is_some, map, ap, ◌++◌}
use Rattle.std.specs.List.{cons_option, list_any, flat_map}
use Rattle.std.specs.Option.{option_or}
use Rattle.std.proofs.lemmas.List.Elements.{filter_map-append}
use Rattle.std.proofs.lemmas.List.Sums.{sum_by-cons}
use Rattle.market_events.specs.Copies.{last_some}
use Rattle.market_events.proofs.Values.Lists.{sum_by_agree, sum_by_plus}
use Rattle.market_laws.specs.Runs.{Member}
use Rattle.market_laws.proofs.Moments.ReservationSums.{sum-kept}

pub last-gathered : {A B C : Type 0} (f : A → Option C) (gather : A → Option B) (g : B → Option C) → ((x : A) → f x ≡ last_some g (cons_option (gather x) [])) → (xs : List A) → last_some f xs ≡ last_some g (filter_map gather xs)
last-gathered f gather g each [] = refl
last-gathered {B = B} {C = C} f gather g each (x ∷ xs) = (λ i. option_or (last-gathered f gather g each xs i) (each x i)) ∙ by (gather x) (filter_map gather xs)
  where
    none : (o : Option C) → option_or o None ≡ o
    none None = refl
    none (Some y) = refl

    by : (o : Option B) (ys : List B) → option_or (last_some g ys) (last_some g (cons_option o [])) ≡ last_some g (cons_option o ys)
    by None ys = none (last_some g ys)
    by (Some y) ys = refl

pub sum-gathered : {A B : Type 0} (f : A → ℕ) (gather : A → Option B) (g : B → ℕ) (xs : List A) → ((x : A) → Member x xs → f x ≡ sum_by g (cons_option (gather x) [])) → sum_by f xs ≡ sum_by g (filter_map gather xs)
sum-gathered f gather g [] each = refl
sum-gathered {B = B} f gather g (x ∷ xs) each =
    let here = each x (inl refl) in
    let rest = sum-gathered f gather g xs (λ y later. each y (inr later)) in
    let both = by (gather x) (filter_map gather xs) in
    omega (arith, sum_by-cons f x xs, here, rest, both)
  where
    by : (o : Option B) (ys : List B) → sum_by g (cons_option o ys) ≡ sum_by g (cons_option o []) + sum_by g ys
    by None ys = omega arith
    by (Some y) ys = omega (arith, sum_by-cons g y ys, sum_by-cons g y [])

-- two terms that agree at each member have the same sum
pub sum-members : {A : Type 0} (f g : A → ℕ) (xs : List A) → ((x : A) → Member x xs → f x ≡ g x) → sum_by f xs ≡ sum_by g xs
sum-members f g [] each = refl
sum-members f g (x ∷ xs) each =
    let here = each x (inl refl) in
    let rest = sum-members f g xs (λ y later. each y (inr later)) in
    omega (arith, sum_by-cons f x xs, sum_by-cons g x xs, here, rest)

pub sum-parts : {A : Type 0} (keep : A → Bool) (f : A → ℕ) (xs : List A) → sum_by f xs ≡ sum_by f (filter keep xs) + sum_by f (filter (λ x. not (keep x)) xs)
sum-parts {A = A} keep f xs =
    let kept = sum-kept keep f xs in
    let others = sum-kept (λ x. not (keep x)) f xs in
    let all = sum_by_agree f (λ x. (if keep x then f x else 0) + (if not (keep x) then f x else 0)) (λ x. one (keep x) (f x)) xs in
    let both = sum_by_plus (λ x. if keep x then f x else 0) (λ x. if not (keep x) then f x else 0) xs in
    omega (arith, kept, others, all, both)
  where
    one : (b : Bool) (n : ℕ) → n ≡ (if b then n else 0) + (if not b then n else 0)
    one true n = omega arith
    one false n = omega arith

pub any-kept : {A : Type 0} (test keep : A → Bool) (b : Bool) → ((x : A) → test x ≡ true → keep x ≡ b) → (xs : List A) → list_any test (filter keep xs) ≡ (list_any test xs && b)
any-kept test keep b each [] = refl
any-kept {A = A} test keep b each (x ∷ xs) = by (test x) (keep x) refl refl (any-kept test keep b each xs)
  where
    by : (t k : Bool) → test x ≡ t → keep x ≡ k → list_any test (filter keep xs) ≡ (list_any test xs && b) → list_any test (cond (keep x) (x ∷ filter keep xs) (filter keep xs)) ≡ ((test x || list_any test xs) && b)
    by true true passes kept rest =
        let same : b ≡ true = sym (each x passes) ∙ kept in
        rw (kept, same) (rw passes refl)
    by true false passes kept rest =
        let same : b ≡ false = sym (each x passes) ∙ kept in
        rw kept (rw rest (rw same (none (list_any test xs) (test x || list_any test xs))))
      where
        none : (a c : Bool) → (a && false) ≡ (c && false)
        none true true = refl
        none true false = refl
        none false true = refl
        none false false = refl
    by false true fails kept rest = rw (kept, fails) rest
    by false false fails kept rest = rw (kept, fails) rest

-- what gives nothing may be left out
pub gathered-kept : {A B : Type 0} (f : A → Option B) (xs : List A) → filter_map f (filter (λ x. is_some (f x)) xs) ≡ filter_map f xs
gathered-kept f [] = refl
gathered-kept {B = B} f (x ∷ xs) = by (f x) refl (gathered-kept f xs)
  where
    by : (o : Option B) → f x ≡ o → filter_map f (filter (λ y. is_some (f y)) xs) ≡ filter_map f xs
        → filter_map f (cond (is_some o) (x ∷ filter (λ y. is_some (f y)) xs) (filter (λ y. is_some (f y)) xs)) ≡ cons_option o (filter_map f xs)
    by None is rest = rest
    by (Some y) is rest = (λ i. cons_option (is i) (rest i))

-- what agrees at each member gathers the same
pub gathered-members : {A B : Type 0} (f g : A → Option B) (xs : List A) → ((x : A) → Member x xs → f x ≡ g x) → filter_map f xs ≡ filter_map g xs
gathered-members f g [] same = refl
gathered-members f g (x ∷ xs) same = λ i. cons_option (same x (inl refl) i) (gathered-members f g xs (λ y here. same y (inr here)) i)

pub joined-members : {A B : Type 0} (f g : A → List B) (xs : List A) → ((x : A) → Member x xs → f x ≡ g x) → flat_map f xs ≡ flat_map g xs
joined-members f g [] same = refl
joined-members f g (x ∷ xs) same = λ i. same x (inl refl) i ++ joined-members f g xs (λ y here. same y (inr here)) i

-- what is gathered of joined lists
pub gathered-joined : {A B C : Type 0} (f : B → Option C) (g : A → List B) (xs : List A) → filter_map f (flat_map g xs) ≡ flat_map (λ x. filter_map f (g x)) xs
gathered-joined f g [] = refl
gathered-joined f g (x ∷ xs) = filter_map-append f (g x) (flat_map g xs) ∙ ap (λ l. filter_map f (g x) ++ l) (gathered-joined f g xs)

-- what is joined of those that are kept
pub joined-kept : {A B : Type 0} (keep : A → Bool) (f : A → List B) (xs : List A) → flat_map (λ x. if keep x then f x else []) xs ≡ flat_map f (filter keep xs)
joined-kept keep f [] = refl
joined-kept {A = A} keep f (x ∷ xs) = by (keep x) (joined-kept keep f xs)
  where
    by : (b : Bool) → flat_map (λ y. if keep y then f y else []) xs ≡ flat_map f (filter keep xs) → (if b then f x else []) ++ flat_map (λ y. if keep y then f y else []) xs ≡ flat_map f (cond b (x ∷ filter keep xs) (filter keep xs))
    by true rest = ap (λ l. f x ++ l) rest
    by false rest = rest

-- what is gathered of a mapped list
pub gathered-mapped : {A B C : Type 0} (f : B → Option C) (g : A → B) (xs : List A) → filter_map f (map g xs) ≡ filter_map (λ x. f (g x)) xs
gathered-mapped f g [] = refl
gathered-mapped f g (x ∷ xs) = ap (λ l. cons_option (f (g x)) l) (gathered-mapped f g xs)

-- where nothing is given
pub gathered-none : {A B : Type 0} (f : A → Option B) → ((x : A) → f x ≡ None) → (xs : List A) → filter_map f xs ≡ []
gathered-none f none [] = refl
gathered-none f none (x ∷ xs) = (λ i. cons_option (none x i) (filter_map f xs)) ∙ gathered-none f none xs

-- a filter that keeps all
pub keeps-all : {A : Type 0} (keep : A → Bool) (xs : List A) → ((x : A) → Member x xs → keep x ≡ true) → filter keep xs ≡ xs
keeps-all keep [] all = refl
keeps-all keep (x ∷ xs) all =
    ap (λ b. cond b (x ∷ filter keep xs) (filter keep xs)) (all x (inl refl)) ∙ ap (λ l. x ∷ l) (keeps-all keep xs (λ y here. all y (inr here)))
