-- What holds of each element of a list.
use Rattle.std.proofs.Common.{◌≡◌, Bool, true, false, List, [], ◌∷◌, ◌++◌, Option, Some, None, length, filter_map, cond, refl, ap, ◌∙◌, subst}
use Rattle.std.specs.Prelude.{find, slice_get}
use Rattle.std.specs.List.{AllByRecursion, cons_option}

pub all-append : {A : Type 0} (P : A → Type 0) (xs ys : List A) → AllByRecursion P xs → AllByRecursion P ys → AllByRecursion P (xs ++ ys)
all-append P [] ys front back = back
all-append P (x ∷ xs) ys front back = (front.0, all-append P xs ys front.1 back)

pub all-front : {A : Type 0} (P : A → Type 0) (xs ys : List A) → AllByRecursion P (xs ++ ys) → AllByRecursion P xs
all-front P [] ys each = tt
all-front P (x ∷ xs) ys each = (each.0, all-front P xs ys each.1)

pub all-back : {A : Type 0} (P : A → Type 0) (xs ys : List A) → AllByRecursion P (xs ++ ys) → AllByRecursion P ys
all-back P [] ys each = each
all-back P (x ∷ xs) ys each = all-back P xs ys each.1

pub all-at : {A : Type 0} (P : A → Type 0) (xs : List A) (x : A) (ys : List A) → AllByRecursion P (xs ++ x ∷ ys) → P x
all-at P [] x ys each = each.0
all-at P (z ∷ zs) x ys each = all-at P zs x ys each.1

pub all-weaker : {A : Type 0} (P Q : A → Type 0) → ((x : A) → P x → Q x) → (xs : List A) → AllByRecursion P xs → AllByRecursion Q xs
all-weaker P Q weaker [] each = tt
all-weaker P Q weaker (x ∷ xs) each = (weaker x each.0, all-weaker P Q weaker xs each.1)

-- what is gathered of each, where what is gathered of one holds
pub all-gathered : {A B : Type 0} (f : A → Option B) (P : A → Type 0) (Q : B → Type 0) → ((x : A) (y : B) → f x ≡ Some y → P x → Q y) → (xs : List A) → AllByRecursion P xs → AllByRecursion Q (filter_map f xs)
all-gathered f P Q one [] each = tt
all-gathered {B = B} f P Q one (x ∷ xs) each = by (f x) refl (all-gathered f P Q one xs each.1)
  where
    by : (o : Option B) → f x ≡ o → AllByRecursion Q (filter_map f xs) → AllByRecursion Q (cons_option o (filter_map f xs))
    by None is rest = rest
    by (Some y) is rest = (one x y is each.0, rest)

-- an element of what is gathered comes of an element
pub record GatheredAt {A B : Type 0} (f : A → Option B) (xs : List A) (front : List B) (y : B) (back : List B) : Type 0 where
  pub before : List A
  pub at : A
  pub after : List A
  pub is : xs ≡ before ++ at ∷ after
  pub gives : f at ≡ Some y
  pub front_is : filter_map f before ≡ front
  pub back_is : filter_map f after ≡ back

pub gathered-at : {A B : Type 0} (f : A → Option B) (xs : List A) (front : List B) (y : B) (back : List B) → filter_map f xs ≡ front ++ y ∷ back → GatheredAt f xs front y back
gathered-at f [] [] y back e = let no : ⊥ = cc in absurd no
gathered-at f [] (z ∷ front) y back e = let no : ⊥ = cc in absurd no
gathered-at {A = A} {B = B} f (x ∷ xs) front y back e = by (f x) refl front e (λ front e. gathered-at f xs front y back e)
  where
    put : (z : Option B) → f x ≡ z → (front rest : List B) → cons_option z rest ≡ front → GatheredAt f xs rest y back → GatheredAt f (x ∷ xs) front y back
    put z is front rest joined g = record {
      before = x ∷ g.before;
      at = g.at;
      after = g.after;
      is = ap (λ l. x ∷ l) g.is;
      gives = g.gives;
      front_is = rw is (ap (cons_option z) g.front_is ∙ joined);
      back_is = g.back_is;
    }

    by : (o : Option B) → f x ≡ o → (front : List B) → cons_option o (filter_map f xs) ≡ front ++ y ∷ back
        → ((front : List B) → filter_map f xs ≡ front ++ y ∷ back → GatheredAt f xs front y back) → GatheredAt f (x ∷ xs) front y back
    by None is front e rest = put None is front front refl (rest front e)
    by (Some z) is [] e rest =
        let same : z ≡ y = cc in
        let more : filter_map f xs ≡ back = cc in
        record { before = []; at = x; after = xs; is = refl; gives = is ∙ ap Some same; front_is = refl; back_is = more }
    by (Some z) is (w ∷ front) e rest =
        let same : z ≡ w = cc in
        let more : filter_map f xs ≡ front ++ y ∷ back = cc in
        put (Some z) is (w ∷ front) front (ap (λ v. v ∷ front) same) (rest front more)

-- an element that is found stands in the list, and passes
pub record FoundAt {A : Type 0} (p : A → Bool) (xs : List A) (x : A) : Type 0 where
  pub before : List A
  pub after : List A
  pub is : xs ≡ before ++ x ∷ after
  pub passes : p x ≡ true

pub find-at : {A : Type 0} (p : A → Bool) (xs : List A) (x : A) → find p xs ≡ Some x → FoundAt p xs x
find-at p [] x e = let no : ⊥ = cc in absurd no
find-at p (y ∷ ys) x e = by (p y) refl e (λ e. find-at p ys x e)
  where
    by : (test : Bool) → p y ≡ test → cond test (Some y) (find p ys) ≡ Some x → (find p ys ≡ Some x → FoundAt p ys x) → FoundAt p (y ∷ ys) x
    by true is e rest =
        let same : y ≡ x = cc in
        record { before = []; after = ys; is = ap (λ z. z ∷ ys) same; passes = subst (λ z. p z ≡ true) same is }
    by false is e rest =
        let there = rest e in
        record { before = y ∷ there.before; after = there.after; is = ap (λ l. y ∷ l) there.is; passes = there.passes }

-- the element after the first of a list
pub slice_get-at : {A : Type 0} (xs : List A) (x : A) (ys : List A) → slice_get (xs ++ x ∷ ys) (length xs) ≡ Some x
slice_get-at [] x ys = refl
slice_get-at (z ∷ zs) x ys = slice_get-at zs x ys

-- what holds of each element by its place
pub all-by : {A : Type 0} (P : A → Type 0) (xs : List A) → ((before : List A) (x : A) (after : List A) → xs ≡ before ++ x ∷ after → P x) → AllByRecursion P xs
all-by P [] each = tt
all-by P (x ∷ xs) each = (each [] x xs refl, all-by P xs (λ before y after e. each (x ∷ before) y after (ap (λ l. x ∷ l) e)))
