-- Lists that begin with a list, tests of lists, and windows of lists.
use Rattle.std.proofs.Common.{◌≡◌, ℕ, zero, suc, ◌+◌, ◌-◌, ◌<◌, ◌≤◌, Bool, true, List, [], ◌∷◌, ◌++◌, length, take, drop, length-append, inl, inr, refl, ap, subst, sym, ◌∙◌, arith}
use Rattle.std.specs.List.{AllByRecursion, list_all}
use Rattle.std.proofs.lemmas.Bool.{and_parts}
use Rattle.std.proofs.lemmas.List.{append-nil, drop-drop}
use Rattle.market_history.specs.Sent.{IsPrefixOf}
use Rattle.market_laws.specs.Runs.{Member}

none_of : {A : Type 0} (xs : List A) → length xs ≤ 0 → xs ≡ []
none_of [] few = refl
none_of (x ∷ xs) few = absurd (omega arith)

-- a list that begins with another one, and is no longer, is that one
pub no_longer : {A : Type 0} (xs ys : List A) → IsPrefixOf xs ys → length ys ≤ length xs → ys ≡ xs
no_longer xs ys (more, is) few =
    let long : length ys ≡ length xs + length more = ap (λ l. length l) is ∙ length-append xs more in
    is ∙ ap (λ l. xs ++ l) (none_of more (omega (arith, long, few))) ∙ append-nil xs

pub prefix_short : {A : Type 0} (xs ys : List A) → IsPrefixOf xs ys → length xs ≤ length ys
prefix_short xs ys (more, is) =
    let long : length ys ≡ length xs + length more = ap (λ l. length l) is ∙ length-append xs more in omega (arith, long)

-- tests of all elements
pub each_passes : {A : Type 0} (p : A → Bool) (xs : List A) → list_all p xs ≡ true → AllByRecursion (λ x. p x ≡ true) xs
each_passes p [] all = tt
each_passes p (x ∷ xs) all = let both = and_parts (p x) (list_all p xs) all in (both.0, each_passes p xs both.1)

pub all_pass : {A : Type 0} (p : A → Bool) (xs : List A) → AllByRecursion (λ x. p x ≡ true) xs → list_all p xs ≡ true
all_pass p [] each = refl
all_pass p (x ∷ xs) each = rw each.0 (all_pass p xs each.1)

-- what holds of each holds of a member
pub of_member : {A : Type 0} (P : A → Type 0) (x : A) (xs : List A) → AllByRecursion P xs → Member x xs → P x
of_member P x (y ∷ ys) each (inl same) = subst P (sym same) each.0
of_member P x (y ∷ ys) each (inr there) = of_member P x ys each.1 there
of_member P x [] each never = absurd never

-- the element past a front stands in what is next
in_front : {A : Type 0} (d most : ℕ) (xs : List A) (x : A) (rest : List A) → d < most → drop d xs ≡ x ∷ rest → Member x (take most xs)
in_front zero zero xs x rest low is = absurd (omega arith)
in_front zero (suc most) [] x rest low is = let no : ⊥ = cc in absurd no
in_front zero (suc most) (y ∷ ys) x rest low is = inl (let same : y ≡ x = cc in sym same)
in_front (suc d) zero xs x rest low is = absurd (omega arith)
in_front (suc d) (suc most) [] x rest low is = let no : ⊥ = cc in absurd no
in_front (suc d) (suc most) (y ∷ ys) x rest low is = inr (in_front d most ys x rest (omega arith) is)

-- the first after some stands among the next seven after fewer
pub in_window : {A : Type 0} (a t most : ℕ) (xs : List A) (x : A) (rest : List A) → a ≤ t → t < a + most → drop t xs ≡ x ∷ rest → Member x (take most (drop a xs))
in_window a t most xs x rest from below is =
    let at : a + (t - a) ≡ t = omega (arith, from) in
    in_front (t - a) most (drop a xs) x rest (omega (arith, from, below))
    (drop-drop (t - a) a xs ∙ ap (λ n. drop n xs) at ∙ is)

-- what follows a front is past it
pub past_front : {A : Type 0} (t : ℕ) (xs : List A) (x : A) (rest : List A) → drop t xs ≡ x ∷ rest → t < length xs
past_front zero [] x rest is = let no : ⊥ = cc in absurd no
past_front zero (y ∷ ys) x rest is = omega arith
past_front (suc t) [] x rest is = let no : ⊥ = cc in absurd no
past_front (suc t) (y ∷ ys) x rest is = let low = past_front t ys x rest is in omega (arith, low)
