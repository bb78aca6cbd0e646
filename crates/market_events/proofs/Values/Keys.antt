-- The orders of keys and of ids, and lists of entries in them.
use Rattle.std.proofs.Common.{◌≡◌, ℕ, Bool, true, false, cond, ◌&&◌, ◌==◌, T, List, [], ◌∷◌, Some, Ordering, Less, Equal, Greater, is_eq, is_lt, nat_cmp, refl, ap, sym, subst, ◌∙◌, arith}
use Rattle.std.proofs.lemmas.Bool.Decides.{nat_tests}
use Rattle.std.proofs.lemmas.Cmp.{then_total, on_total, nat_cmp_total}
use Rattle.std.specs.Cmp.{IsTotalOrder}
use Rattle.std.specs.Ordering.{eq_by_cmp, ordering_then, match_ordering}
use Rattle.std.specs.List.{AllByRecursion}
use Rattle.std.specs.List.Sorted.{IsStrictlySortedBy}
use Rattle.std.specs.Map.{keys_of, lookup}
use Rattle.std.specs.BTreeMap.{is_at, insert_entry}
use Rattle.std.specs.FinMap.Entries as entries
use Rattle.market_amounts.specs.declared.keys.ProductKey.{ProductKey}
use Rattle.market_amounts.specs.declared.keys.RequestId.{RequestId}
use Rattle.market_events.specs.Requests.{same_key, same_id}
use Rattle.market_events.specs.Steps.{key_cmp, id_cmp}
use Rattle.market_events.proofs.Values.Same.{same_key-true}

-- pairs of numbers compare equal where both numbers are equal
is_eq-pair : (a b x y : ℕ) → is_eq (ordering_then (nat_cmp a x) (nat_cmp b y)) ≡ ((a == x) && (b == y))
is_eq-pair a b x y = grind (arith, nat_tests)

-- keys that compare equal are the same
pub eq_by_key_cmp : (a b : ProductKey) → eq_by_cmp key_cmp a b ≡ same_key a b
eq_by_key_cmp a b = is_eq-pair a.seller a.product b.seller b.product

-- ids that compare equal are the same
pub eq_by_id_cmp : (a b : RequestId) → eq_by_cmp id_cmp a b ≡ same_id a b
eq_by_id_cmp a b = is_eq-pair a.caller a.number b.caller b.number

-- keys that compare equal are equal
pub key_cmp-Equal : (a b : ProductKey) → key_cmp a b ≡ Equal → a ≡ b
key_cmp-Equal a b is = same_key-true a b (sym (eq_by_key_cmp a b) ∙ ap is_eq is)

-- keys are totally ordered
pub key_cmp_total : IsTotalOrder key_cmp
key_cmp_total = then_total (on_total (λ (k : ProductKey). k.seller) nat_cmp_total) (on_total (λ (k : ProductKey). k.product) nat_cmp_total)

-- what a map's look-up finds is what `find` does
pub find-lookup : {K X : Type 0} (R : K → K → Ordering) (q : K) (es : List (K × X)) → entries.find R q es ≡ lookup (is_at (R q)) es
find-lookup R q [] = refl
find-lookup R q (e ∷ es) = ap (cond (eq_by_cmp R q e.0) (Some e.1)) (find-lookup R q es)

-- a map's insertion is `put`
pub put-insert_entry : {K X : Type 0} (R : K → K → Ordering) (k : K) (v : X) (es : List (K × X)) → entries.put R k v es ≡ insert_entry R es k v
put-insert_entry R k v [] = refl
put-insert_entry {K = K} {X = X} R k v (e ∷ es) = by_order (R k e.0) (put-insert_entry R k v es)
  where
    by_order : (o : Ordering) {xs ys : List (K × X)} → xs ≡ ys → entries.by_order o ((k, v) ∷ e ∷ es) ((e.0, v) ∷ es) (e ∷ xs) ≡ match_ordering o ((k, v) ∷ e ∷ es) ((e.0, v) ∷ es) (e ∷ ys)
    by_order Less same = refl
    by_order Equal same = refl
    by_order Greater same = ap (λ zs. e ∷ zs) same

-- a map's entries are sorted
pub is_sorted-of : {K X : Type 0} (R : K → K → Ordering) (es : List (K × X)) → IsStrictlySortedBy R (keys_of es) → T (entries.is_sorted R es)
unfolding IsStrictlySortedBy
is_sorted-of R [] sorted = tt
is_sorted-of {K = K} {X = X} R (e ∷ es) sorted = both (entries.below_all R e.0 es) (entries.is_sorted R es) (below e.0 es sorted.0) (is_sorted-of R es sorted.1)
  where
    both : (a b : Bool) → T a → T b → T (a && b)
    both true b p q = q
    both false b p q = p

    below : (x : K) (es : List (K × X)) → AllByRecursion (λ y. R x y ≡ Less) (keys_of es) → T (entries.below_all R x es)
    below x [] all = tt
    below x (e ∷ es) all = both (is_lt (R x e.0)) (entries.below_all R x es) (subst (λ o. T (is_lt o)) (sym all.0) tt) (below x es all.1)

-- entries whose keys rise are those of a map
pub sorted-of : {K X : Type 0} (R : K → K → Ordering) (es : List (K × X)) → T (entries.is_sorted R es) → IsStrictlySortedBy R (keys_of es)
unfolding IsStrictlySortedBy
sorted-of R [] sorted = tt
sorted-of {K = K} {X = X} R (e ∷ es) sorted = (below e.0 es (first (entries.below_all R e.0 es) (entries.is_sorted R es) sorted), sorted-of R es (second (entries.below_all R e.0 es) (entries.is_sorted R es) sorted))
  where
    first : (a b : Bool) → T (a && b) → T a
    first true b p = tt
    first false b p = p

    second : (a b : Bool) → T (a && b) → T b
    second true b p = p
    second false b p = absurd p

    less : (o : Ordering) → T (is_lt o) → o ≡ Less
    less Less p = refl
    less Equal p = absurd p
    less Greater p = absurd p

    below : (x : K) (es : List (K × X)) → T (entries.below_all R x es) → AllByRecursion (λ y. R x y ≡ Less) (keys_of es)
    below x [] p = tt
    below x (e ∷ es) p = (less (R x e.0) (first (is_lt (R x e.0)) (entries.below_all R x es) p), below x es (second (is_lt (R x e.0)) (entries.below_all R x es) p))
