-- Places in lists: which of two comes first, where a mapped or gathered list is cut, and tests of members.
use Rattle.std.proofs.Common.{◌≡◌, ℕ, ◌≤◌, Bool, true, false, ◌||◌, cond, List, [], ◌∷◌, ◌++◌, Option, Some, map, filter_map, count_by, inl, inr, refl, ap, sym, ◌∙◌, append_assoc, arith}
use Rattle.std.specs.List.{list_any, cons_option}
use Rattle.std.proofs.lemmas.List.Elements.{filter_map-append}
use Rattle.std.proofs.lemmas.List.Sums.{sum_by-append, sum_by-cons}
use Rattle.market_events.proofs.Values.Lists.{any-none, or_left, or_right}
use Rattle.market_laws.specs.Cuts.{StandsIn}
use Rattle.market_laws.specs.Runs.{Member}

-- it stands in a longer list too
pub stands-more : {A : Type 0} (before : List A) (x : A) (xs ys : List A) → StandsIn before x xs → StandsIn before x (xs ++ ys)
stands-more before x xs ys s =
    record { after = s.after ++ ys; is = ap (λ l. l ++ ys) s.is ∙ append_assoc before (x ∷ s.after) ys }

-- and in a list in which its list stands before another element
pub stands-within : {A : Type 0} (before : List A) (x : A) (middle : List A) (y : A) (xs : List A) → StandsIn before x middle → StandsIn middle y xs → StandsIn before x xs
stands-within before x middle y xs s t =
    record { after = s.after ++ y ∷ t.after; is = t.is ∙ ap (λ l. l ++ y ∷ t.after) s.is ∙ append_assoc before (x ∷ s.after) (y ∷ t.after) }

-- of two places of a list one comes first, or they are the same
pub data Order {A : Type 0} (us : List A) (x : A) (ws : List A) (y : A) : Type 0 where
  first : (rest : List A) → ws ≡ us ++ x ∷ rest → Order us x ws y
  equal : us ≡ ws → x ≡ y → Order us x ws y
  second : (rest : List A) → us ≡ ws ++ y ∷ rest → Order us x ws y

pub two_places : {A : Type 0} (us : List A) (x : A) (vs ws : List A) (y : A) (zs : List A) → us ++ x ∷ vs ≡ ws ++ y ∷ zs → Order us x ws y
two_places [] x vs [] y zs e = let same : x ≡ y = cc in equal refl same
two_places [] x vs (w ∷ ws) y zs e = let same : w ≡ x = cc in first ws (ap (λ z. z ∷ ws) same)
two_places (u ∷ us) x vs [] y zs e = let same : u ≡ y = cc in second us (ap (λ z. z ∷ us) same)
two_places (u ∷ us) x vs (w ∷ ws) y zs e =
    let head : u ≡ w = cc in
    let rest : us ++ x ∷ vs ≡ ws ++ y ∷ zs = cc in
    lift head (two_places us x vs ws y zs rest)
  where
    lift : u ≡ w → Order us x ws y → Order (u ∷ us) x (w ∷ ws) y
    lift head (first rest is) = first rest (λ i. sym head i ∷ is i)
    lift head (equal is same) = equal (λ i. head i ∷ is i) same
    lift head (second rest is) = second rest (λ i. head i ∷ is i)

-- nothing has no place
pub no_place : {A : Type 0} (us : List A) (x : A) (vs : List A) → [] ≡ us ++ x ∷ vs → ⊥
no_place [] x vs e = cc
no_place (u ∷ us) x vs e = cc

-- a place of a mapped list
pub record MapSplit {A B : Type 0} (f : A → B) (xs : List A) (us : List B) (y : B) : Type 0 where
  pub front : List A
  pub at : A
  pub back : List A
  pub is : xs ≡ front ++ at ∷ back
  pub front_is : map f front ≡ us
  pub at_is : f at ≡ y

pub map-split : {A B : Type 0} (f : A → B) (xs : List A) (us : List B) (y : B) (vs : List B) → map f xs ≡ us ++ y ∷ vs → MapSplit f xs us y
map-split f [] us y vs e = absurd (no_place us y vs e)
map-split f (x ∷ xs) [] y vs e =
    let same : f x ≡ y = cc in record { front = []; at = x; back = xs; is = refl; front_is = refl; at_is = same }
map-split f (x ∷ xs) (u ∷ us) y vs e =
    let head : f x ≡ u = cc in
    let rest : map f xs ≡ us ++ y ∷ vs = cc in
    put head (map-split f xs us y vs rest)
  where
    put : f x ≡ u → MapSplit f xs us y → MapSplit f (x ∷ xs) (u ∷ us) y
    put head s = record {
      front = x ∷ s.front;
      at = s.at;
      back = s.back;
      is = ap (λ l. x ∷ l) s.is;
      front_is = λ i. head i ∷ s.front_is i;
      at_is = s.at_is;
    }

-- what is gathered of a list, at one of its elements
pub gathered-here : {A B : Type 0} (f : A → Option B) (before : List A) (x : A) (after : List A) (y : B) → f x ≡ Some y → filter_map f (before ++ x ∷ after) ≡ filter_map f before ++ y ∷ filter_map f after
gathered-here f before x after y is =
    filter_map-append f before (x ∷ after) ∙ ap (λ o. filter_map f before ++ cons_option o (filter_map f after)) is

-- a member that passes a test, and what passes
pub any_of_member : {A : Type 0} (test : A → Bool) (x : A) (xs : List A) → Member x xs → test x ≡ true → list_any test xs ≡ true
any_of_member test x [] here passes = absurd here
any_of_member test x (y ∷ ys) (inl same) passes = or_left (test y) (list_any test ys) (ap test (sym same) ∙ passes)
any_of_member test x (y ∷ ys) (inr more) passes = or_right (test y) (any_of_member test x ys more passes)

pub member_of_any : {A : Type 0} (test : A → Bool) (xs : List A) → list_any test xs ≡ true → (x : A) × Member x xs × (test x ≡ true)
member_of_any test [] any = let no : ⊥ = cc in absurd no
member_of_any {A = A} test (y ∷ ys) any = by (test y) refl any (λ later. member_of_any test ys later)
  where
    by : (t : Bool) → test y ≡ t → (t || list_any test ys) ≡ true → (list_any test ys ≡ true → (x : A) × Member x ys × (test x ≡ true)) → (x : A) × Member x (y ∷ ys) × (test x ≡ true)
    by true is any later = (y, inl refl, is)
    by false is any later = let found = later any in (found.0, inr found.1, found.2)

-- a member of a mapped list
pub member-map : {A B : Type 0} (f : A → B) (x : A) (xs : List A) → Member x xs → Member (f x) (map f xs)
member-map f x [] here = here
member-map f x (y ∷ ys) (inl same) = inl (ap f same)
member-map f x (y ∷ ys) (inr more) = inr (member-map f x ys more)

-- where one at most passes, and this one does, none before it does
pub none_before : {A : Type 0} (test : A → Bool) (us : List A) (x : A) (vs : List A) → count_by test (us ++ x ∷ vs) ≤ 1 → test x ≡ true → list_any test us ≡ false
none_before test us x vs few passes =
    let joined = sum_by-append (λ y. cond (test y) 1 0) us (x ∷ vs) in
    let split = sum_by-cons (λ y. cond (test y) 1 0) x vs in
    let one : ◌≡◌ {A = ℕ} (cond (test x) 1 0) 1 = rw passes refl in
    let none : count_by test us ≤ 0 = omega (arith, few, joined, split, one) in
    any-none test us none
