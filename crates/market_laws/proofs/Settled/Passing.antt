-- What passes a test of lists: members that pass are kept (member-kept, filter-kept, count-kept), one that passes alone is all that
-- does (single), and what is joined is joined of those that pass (joined-passing, filter-joined).
use Rattle.std.proofs.Common.{◌≡◌, Bool, true, false, List, [], ◌∷◌, ◌++◌, length, filter, if◌then◌else◌, count_by, inl, inr, refl, ap, sym, ◌∙◌, arith}
use Rattle.std.specs.List.{flat_map}
use Rattle.std.proofs.lemmas.List.Elements.{filter-append}
use Rattle.std.proofs.lemmas.List.Sums.{length-filter}
use Rattle.market_events.proofs.Values.Lists.{false_from}
use Rattle.market_laws.specs.Runs.{Member}

-- a member that passes is kept
pub member-kept : {A : Type 0} (test : A → Bool) (x : A) (xs : List A) → Member x xs → test x ≡ true → Member x (filter test xs)
member-kept test x [] here passes = here
member-kept test x (y ∷ ys) (inl same) passes = rw (ap test (sym same) ∙ passes) (inl same)
member-kept test x (y ∷ ys) (inr later) passes = by (test y) (member-kept test x ys later passes)
  where
    by : (b : Bool) → Member x (filter test ys) → Member x (if b then y ∷ filter test ys else filter test ys)
    by true rest = inr rest
    by false rest = rest

-- where what passes is kept, the same passes of what is kept
pub filter-kept : {A : Type 0} (test keep : A → Bool) → ((x : A) → test x ≡ true → keep x ≡ true) → (xs : List A) → filter test (filter keep xs) ≡ filter test xs
filter-kept test keep each [] = refl
filter-kept test keep each (x ∷ xs) = by (keep x) refl (filter-kept test keep each xs)
  where
    by : (b : Bool) → keep x ≡ b → filter test (filter keep xs) ≡ filter test xs → filter test (if b then x ∷ filter keep xs else filter keep xs) ≡ filter test (x ∷ xs)
    by true is rest = rw rest refl
    by false is rest =
        let unpassed : test x ≡ false = false_from (test x) (λ passes. sym is ∙ each x passes) in
        rw unpassed rest

-- and as many
pub count-kept : {A : Type 0} (test keep : A → Bool) → ((x : A) → test x ≡ true → keep x ≡ true) → (xs : List A) → count_by test (filter keep xs) ≡ count_by test xs
count-kept test keep each xs = sym (length-filter test (filter keep xs)) ∙ ap length (filter-kept test keep each xs) ∙ length-filter test xs

-- a member of a list of one is this one
only : {A : Type 0} (x : A) (xs : List A) → length xs ≡ 1 → Member x xs → xs ≡ x ∷ []
only x [] one here = absurd here
only x (y ∷ []) one (inl same) = ap (λ z. z ∷ []) (sym same)
only x (y ∷ []) one (inr never) = absurd never
only x (y ∷ z ∷ zs) one here = absurd (omega (arith, one))

-- where one passes, a member that passes is all that passes
pub single : {A : Type 0} (test : A → Bool) (x : A) (xs : List A) → count_by test xs ≡ 1 → Member x xs → test x ≡ true → filter test xs ≡ x ∷ []
single test x xs one here passes = only x (filter test xs) (length-filter test xs ∙ one) (member-kept test x xs here passes)

-- what is joined of those that pass, where nothing is of the others
pub joined-passing : {A B : Type 0} (test : A → Bool) (f : A → List B) → ((x : A) → test x ≡ false → f x ≡ []) → (xs : List A) → flat_map f xs ≡ flat_map f (filter test xs)
joined-passing test f none [] = refl
joined-passing test f none (x ∷ xs) = by (test x) refl (joined-passing test f none xs)
  where
    by : (b : Bool) → test x ≡ b → flat_map f xs ≡ flat_map f (filter test xs) → f x ++ flat_map f xs ≡ flat_map f (if b then x ∷ filter test xs else filter test xs)
    by true is rest = ap (λ l. f x ++ l) rest
    by false is rest = ap (λ l. l ++ flat_map f xs) (none x is) ∙ rest

-- what passes of what is joined
pub filter-joined : {A B : Type 0} (keep : B → Bool) (f : A → List B) (xs : List A) → filter keep (flat_map f xs) ≡ flat_map (λ x. filter keep (f x)) xs
filter-joined keep f [] = refl
filter-joined keep f (x ∷ xs) = filter-append keep (f x) (flat_map f xs) ∙ ap (λ l. filter keep (f x) ++ l) (filter-joined keep f xs)
