-- What lists of pairs have at a number.
use Rattle.std.proofs.Common.{◌≡◌, ℕ, ◌+◌, ◌<◌, ◌≤◌, Bool, true, false, cond, ◌==◌, ◌||◌, List, [], ◌∷◌, ◌++◌, Option, Some, None, length, take, get_or, filter, add-one, if◌then◌else◌, refl, ap, sym, ◌∙◌, arith}
use Rattle.std.specs.Map.{keys_of}
use Rattle.std.specs.List.{AllByRecursion}
use Rattle.std.specs.List.Sorted.{IsStrictlySortedBy}
use Rattle.std.specs.Ordering.{nat_cmp, is_eq}
use Rattle.std.specs.declared.cmp.Ordering.TheVariants.{Less}
use Rattle.std.proofs.lemmas.Bool.{eqb-true, eq-eqb}
use Rattle.std.proofs.lemmas.Bool.Decides.{nat_tests}
use Rattle.std.proofs.Math.Seq.{take-suc}
use Rattle.market_events.proofs.Values.Lists.{list_any-push}
use Rattle.market_events.specs.Entries.{entry_at}
use Rattle.shipment_service.specs.Tables.{put_at, has_number}

-- the test of two numbers, as a map makes it
pub at_test : (n k : ℕ) → is_eq (nat_cmp n k) ≡ (k == n)
at_test n k = grind (arith, nat_tests)

-- what stands at a number, where one pair more stands in front
pub entry_at-cons : {X : Type 0} (e : ℕ × X) (es : List (ℕ × X)) (n : ℕ) → entry_at (e ∷ es) n ≡ (if e.0 == n then Some e.1 else entry_at es n)
entry_at-cons e es n = ap (λ b. cond b (Some e.1) (entry_at es n)) (at_test n e.0)

-- no number of these is n
abbrev pub NoneAt : {X : Type 0} → List (ℕ × X) → ℕ → Type 0
NoneAt es n = entry_at es n ≡ None

-- all numbers are above this one
abbrev pub Above : {X : Type 0} → ℕ → List (ℕ × X) → Type 0
Above {X = X} n es = AllByRecursion (λ (k : ℕ). nat_cmp n k ≡ Less) (keys_of es)

-- pairs by rising number, the first and the others
pub rising_head : {X : Type 0} (e : ℕ × X) (es : List (ℕ × X)) → IsStrictlySortedBy nat_cmp (keys_of (e ∷ es)) → Above e.0 es
unfolding IsStrictlySortedBy
rising_head e es rise = rise.0

pub rising_tail : {X : Type 0} (e : ℕ × X) (es : List (ℕ × X)) → IsStrictlySortedBy nat_cmp (keys_of (e ∷ es)) → IsStrictlySortedBy nat_cmp (keys_of es)
unfolding IsStrictlySortedBy
rising_tail e es rise = rise.1

pub rising_cons : {X : Type 0} (e : ℕ × X) (es : List (ℕ × X)) → Above e.0 es → IsStrictlySortedBy nat_cmp (keys_of es) → IsStrictlySortedBy nat_cmp (keys_of (e ∷ es))
unfolding IsStrictlySortedBy
rising_cons e es above rise = (above, rise)

-- a number that is not above any is not there
pub above-none : {X : Type 0} (n k : ℕ) (es : List (ℕ × X)) → k ≤ n → Above n es → entry_at es k ≡ None
above-none n k [] small above = refl
above-none n k (e ∷ es) small above =
    let apart : (e.0 == k) ≡ false = apart_from e.0 above.0 in
    entry_at-cons e es k ∙ ap (λ b. cond b (Some e.1) (entry_at es k)) apart ∙ above-none n k es small above.1
  where
    apart_from : (m : ℕ) → nat_cmp n m ≡ Less → (m == k) ≡ false
    apart_from m h = grind (arith, nat_tests)

pub above-le : {X : Type 0} (n m : ℕ) (es : List (ℕ × X)) → n ≤ m → Above m es → Above n es
above-le n m [] small above = tt
above-le n m (e ∷ es) small above = (lower e.0 above.0, above-le n m es small above.1)
  where
    lower : (k : ℕ) → nat_cmp m k ≡ Less → nat_cmp n k ≡ Less
    lower k h = grind (arith, nat_tests)

-- a filter leaves them above, and rising
pub above-filter : {X : Type 0} (n : ℕ) (test : ℕ × X → Bool) (es : List (ℕ × X)) → Above n es → Above n (filter test es)
above-filter n test [] above = tt
above-filter n test (e ∷ es) above = either (test e) (above-filter n test es above.1)
  where
    either : (b : Bool) → Above n (filter test es) → Above n (cond b (e ∷ filter test es) (filter test es))
    either true rest = (above.0, rest)
    either false rest = rest

pub rising-filter : {X : Type 0} (test : ℕ × X → Bool) (es : List (ℕ × X)) → IsStrictlySortedBy nat_cmp (keys_of es) → IsStrictlySortedBy nat_cmp (keys_of (filter test es))
rising-filter test [] rise = rise
rising-filter {X = X} test (e ∷ es) rise = either (test e) (rising-filter test es (rising_tail e es rise))
  where
    either : (b : Bool) → IsStrictlySortedBy nat_cmp (keys_of (filter test es)) → IsStrictlySortedBy nat_cmp (keys_of (cond b (e ∷ filter test es) (filter test es)))
    either true rest = rising_cons e (filter test es) (above-filter e.0 test es (rising_head e es rise)) rest
    either false rest = rest

-- what a filter leaves at a number
abbrev pub kept_if : {X : Type 0} → (X → Bool) → Option X → Option X
kept_if test None = None
kept_if test (Some x) = if test x then Some x else None

pub entry_at-filter : {X : Type 0} (test : ℕ × X → Bool) (es : List (ℕ × X)) → IsStrictlySortedBy nat_cmp (keys_of es) → (n : ℕ) → entry_at (filter test es) n ≡ kept_if (λ x. test (n, x)) (entry_at es n)
entry_at-filter test [] rise n = refl
entry_at-filter {X = X} test (e ∷ es) rise n =
    either (entry_at-filter test es (rising_tail e es rise) n) (test e) refl (e.0 == n) refl ∙ sym (ap (kept_if (λ x. test (n, x))) (entry_at-cons e es n))
  where
    here : (e.0 == n) ≡ true → test (n, e.1) ≡ test e
    here is = ap (λ k. test (k, e.1)) (sym (eqb-true e.0 n is))

    gone : (e.0 == n) ≡ true → entry_at es n ≡ None
    gone is = above-none e.0 n es (le is) (rising_head e es rise)
      where
        le : (e.0 == n) ≡ true → n ≤ e.0
        le is = omega (arith, eqb-true e.0 n is)

    either : entry_at (filter test es) n ≡ kept_if (λ x. test (n, x)) (entry_at es n) → (b : Bool) → test e ≡ b → (c : Bool) → (e.0 == n) ≡ c
        → entry_at (cond b (e ∷ filter test es) (filter test es)) n ≡ kept_if (λ x. test (n, x)) (cond c (Some e.1) (entry_at es n))
    either rest true passes c is = entry_at-cons e (filter test es) n ∙ ap (λ d. cond d (Some e.1) (entry_at (filter test es) n)) is ∙ by c is
      where
        by : (c : Bool) → (e.0 == n) ≡ c → cond c (Some e.1) (entry_at (filter test es) n) ≡ kept_if (λ x. test (n, x)) (cond c (Some e.1) (entry_at es n))
        by true is = sym (ap (λ d. cond d (Some e.1) None) (here is ∙ passes))
        by false is = rest
    either rest false fails true is = rest ∙ ap (kept_if (λ x. test (n, x))) (gone is) ∙ sym (ap (λ d. cond d (Some e.1) None) (here is ∙ fails))
    either rest false fails false is = rest

-- what a longer list has at a number
abbrev pub or_else : {X : Type 0} → Option X → Option X → Option X
or_else None b = b
or_else (Some x) b = Some x

pub entry_at-append : {X : Type 0} (es fs : List (ℕ × X)) (n : ℕ) → entry_at (es ++ fs) n ≡ or_else (entry_at es n) (entry_at fs n)
entry_at-append [] fs n = refl
entry_at-append (e ∷ es) fs n = by (entry_at-append es fs n) (is_eq (nat_cmp n e.0))
  where
    by : entry_at (es ++ fs) n ≡ or_else (entry_at es n) (entry_at fs n) → (b : Bool) → cond b (Some e.1) (entry_at (es ++ fs) n) ≡ or_else (cond b (Some e.1) (entry_at es n)) (entry_at fs n)
    by rest true = refl
    by rest false = rest

-- a number is there exactly where something stands at it
pub has_number-none : {X : Type 0} (es : List (ℕ × X)) (n : ℕ) → entry_at es n ≡ None → has_number es n ≡ false
has_number-none [] n none = refl
has_number-none (e ∷ es) n none = by (λ none. has_number-none es n none) (e.0 == n) refl (sym (entry_at-cons e es n) ∙ none)
  where
    by : (entry_at es n ≡ None → has_number es n ≡ false) → (b : Bool) → (e.0 == n) ≡ b → cond b (Some e.1) (entry_at es n) ≡ None → ((e.0 == n) || has_number es n) ≡ false
    by rest true is none = cc
    by rest false is none = rw is (rest none)

pub has_number-some : {X : Type 0} (es : List (ℕ × X)) (n : ℕ) (x : X) → entry_at es n ≡ Some x → has_number es n ≡ true
has_number-some [] n x some = cc
has_number-some (e ∷ es) n x some = by (λ some. has_number-some es n x some) (e.0 == n) refl (sym (entry_at-cons e es n) ∙ some)
  where
    by : (entry_at es n ≡ Some x → has_number es n ≡ true) → (b : Bool) → (e.0 == n) ≡ b → cond b (Some e.1) (entry_at es n) ≡ Some x → ((e.0 == n) || has_number es n) ≡ true
    by rest true is some = rw is refl
    by rest false is some = rw is (rest some)

-- numbers that are put, one list after the other
pub put_at-append : {X : Type 0} (n : ℕ) (o : Option X) (es fs : List (ℕ × X)) → put_at n o (es ++ fs) ≡ put_at n (put_at n o es) fs
put_at-append n o [] fs = refl
put_at-append n o (e ∷ es) fs = put_at-append n (if e.0 == n then Some e.1 else o) es fs

-- pairs by rising number, put
pub put_at-rising : {X : Type 0} (n : ℕ) (o : Option X) (es : List (ℕ × X)) → IsStrictlySortedBy nat_cmp (keys_of es) → put_at n o es ≡ or_else (entry_at es n) o
put_at-rising n o [] rise = refl
put_at-rising {X = X} n o (e ∷ es) rise = by (λ o. put_at-rising n o es (rising_tail e es rise)) (e.0 == n) refl ∙ ap (λ b. or_else b o) (sym (entry_at-cons e es n))
  where
    gone : (e.0 == n) ≡ true → entry_at es n ≡ None
    gone is = let le : n ≤ e.0 = omega (arith, eqb-true e.0 n is) in above-none e.0 n es le (rising_head e es rise)

    by : ((o : Option X) → put_at n o es ≡ or_else (entry_at es n) o) → (b : Bool) → (e.0 == n) ≡ b
        → put_at n (if e.0 == n then Some e.1 else o) es ≡ or_else (cond b (Some e.1) (entry_at es n)) o
    by rest true is = ap (λ b. put_at n (cond b (Some e.1) o) es) is ∙ rest (Some e.1) ∙ ap (λ p. or_else p (Some e.1)) (gone is)
    by rest false is = ap (λ b. put_at n (cond b (Some e.1) o) es) is ∙ rest o

-- what stands at the first number
pub first_at : {X : Type 0} (e : ℕ × X) (es : List (ℕ × X)) → entry_at (e ∷ es) e.0 ≡ Some e.1
first_at e es = entry_at-cons e es e.0 ∙ ap (λ b. cond b (Some e.1) (entry_at es e.0)) (eq-eqb e.0 e.0 refl)

first_gone : {X : Type 0} (e : ℕ × X) (es : List (ℕ × X)) → entry_at (e ∷ es) e.0 ≡ None → ⊥
first_gone e es none = let no : Some e.1 ≡ None = sym (first_at e es) ∙ none in cc

same_value : {X : Type 0} (x y : X) → Some x ≡ Some y → x ≡ y
same_value x y e = cc

-- the first number of one is not below that of the other
not_below : {X : Type 0} (e f : ℕ × X) (es fs : List (ℕ × X)) → IsStrictlySortedBy nat_cmp (keys_of (f ∷ fs)) → ((n : ℕ) → entry_at (e ∷ es) n ≡ entry_at (f ∷ fs) n) → e.0 < f.0 → ⊥
not_below e f es fs rise same low =
    first_gone e es (same e.0 ∙ entry_at-cons f fs e.0 ∙ ap (λ b. cond b (Some f.1) (entry_at fs e.0)) differ ∙ above-none f.0 e.0 fs le (rising_head f fs rise))
  where
    differ : (f.0 == e.0) ≡ false
    differ = grind (arith, nat_tests)

    le : e.0 ≤ f.0
    le = omega arith

first_same : {X : Type 0} (e f : ℕ × X) (es fs : List (ℕ × X)) → IsStrictlySortedBy nat_cmp (keys_of (e ∷ es)) → IsStrictlySortedBy nat_cmp (keys_of (f ∷ fs))
    → ((n : ℕ) → entry_at (e ∷ es) n ≡ entry_at (f ∷ fs) n) → e.0 ≡ f.0
first_same e f es fs rise also same = neither (not_below e f es fs also same) (not_below f e fs es rise (λ n. sym (same n)))
  where
    neither : (e.0 < f.0 → ⊥) → (f.0 < e.0 → ⊥) → e.0 ≡ f.0
    neither a b = omega arith

others : {X : Type 0} (e f : ℕ × X) (es fs : List (ℕ × X)) → IsStrictlySortedBy nat_cmp (keys_of (e ∷ es)) → IsStrictlySortedBy nat_cmp (keys_of (f ∷ fs)) → e.0 ≡ f.0
    → ((n : ℕ) → entry_at (e ∷ es) n ≡ entry_at (f ∷ fs) n) → (n : ℕ) → entry_at es n ≡ entry_at fs n
others e f es fs rise also key same n = by (e.0 == n) refl
  where
    by : (b : Bool) → (e.0 == n) ≡ b → entry_at es n ≡ entry_at fs n
    by true is =
        let le : n ≤ e.0 = omega (arith, eqb-true e.0 n is) in
        let le' : n ≤ f.0 = omega (arith, eqb-true e.0 n is) in
        above-none e.0 n es le (rising_head e es rise) ∙ sym (above-none f.0 n fs le' (rising_head f fs also))
    by false is =
        sym (entry_at-cons e es n ∙ ap (λ b. cond b (Some e.1) (entry_at es n)) is) ∙ same n
        ∙ (entry_at-cons f fs n ∙ ap (λ b. cond b (Some f.1) (entry_at fs n)) (ap (λ k. k == n) (sym key) ∙ is))

-- two lists of pairs by rising number that have the same at each number are the same
pub same_entries : {X : Type 0} (es fs : List (ℕ × X)) → IsStrictlySortedBy nat_cmp (keys_of es) → IsStrictlySortedBy nat_cmp (keys_of fs)
    → ((n : ℕ) → entry_at es n ≡ entry_at fs n) → es ≡ fs
same_entries [] [] rise also same = refl
same_entries [] (f ∷ fs) rise also same = absurd (first_gone f fs (sym (same f.0)))
same_entries (e ∷ es) [] rise also same = absurd (first_gone e es (same e.0))
same_entries (e ∷ es) (f ∷ fs) rise also same =
    let key : e.0 ≡ f.0 = first_same e f es fs rise also same in
    let value : Some e.1 ≡ Some f.1 = sym (first_at e es) ∙ same e.0 ∙ ap (entry_at (f ∷ fs)) key ∙ first_at f fs in
    let rest : es ≡ fs = same_entries es fs (rising_tail e es rise) (rising_tail f fs also) (λ n. others e f es fs rise also key same n) in
    λ i. (key i, same_value e.1 f.1 value i) ∷ rest i

-- the pairs up to the next place
take_next : {X : Type 0} (xs : List X) (i : ℕ) (d : X) → i < length xs → take (i + 1) xs ≡ take i xs ++ get_or xs i d ∷ []
take_next xs i d below = rw add-one (take-suc xs i d below)

pub has_number-more : {X : Type 0} (xs : List (ℕ × X)) (i : ℕ) (d : ℕ × X) (n : ℕ) → i < length xs → has_number (take (i + 1) xs) n ≡ (has_number (take i xs) n || ((get_or xs i d).0 == n))
has_number-more {X = X} xs i d n below =
    ap (λ ys. has_number ys n) (take_next xs i d below) ∙ list_any-push (λ (p : ℕ × X). p.0 == n) (take i xs) (get_or xs i d)

pub put_at-more : {X : Type 0} (n : ℕ) (o : Option X) (xs : List (ℕ × X)) (i : ℕ) (d : ℕ × X) → i < length xs
    → put_at n o (take (i + 1) xs) ≡ (if (get_or xs i d).0 == n then Some (get_or xs i d).1 else put_at n o (take i xs))
put_at-more n o xs i d below = ap (put_at n o) (take_next xs i d below) ∙ put_at-append n o (take i xs) (get_or xs i d ∷ [])

-- one number more is taken away, and one more is put
pub one_taken : {X : Type 0} (k n : ℕ) (a : Bool) (now was old : Option X) → now ≡ cond (k == n) None was → was ≡ cond a None old → now ≡ cond (a || (k == n)) None old
one_taken {X = X} k n a now was old e h = e ∙ by (k == n) a h
  where
    by : (b a : Bool) → was ≡ cond a None old → cond {A = Option X} b None was ≡ cond (a || b) None old
    by true true h = refl
    by true false h = refl
    by false true h = h
    by false false h = h

pub one_put : {X : Type 0} (k n : ℕ) (x : X) (now was : Option X) → now ≡ cond (is_eq (nat_cmp k n)) (Some x) was → now ≡ cond (k == n) (Some x) was
one_put k n x now was e = let test : is_eq (nat_cmp k n) ≡ (k == n) = grind (arith, nat_tests) in e ∙ ap (λ b. cond b (Some x) was) test
