-- Names that are put one after the other.
use Rattle.std.proofs.Common.{◌≡◌, ◌+◌, ◌≤◌, Bool, true, false, ◌||◌, List, [], ◌∷◌, length, refl, ap, sym, ◌∙◌, arith}
use Rattle.std.specs.BTreeSet.{insert_key}
use Rattle.std.specs.List.{IsDistinct}
use Rattle.std.specs.List.Sorted.{IsStrictlySortedBy}
use Rattle.std.specs.Ordering.{match_ordering}
use Rattle.std.specs.declared.cmp.Ordering.{Ordering}
use Rattle.std.specs.declared.cmp.Ordering.TheVariants.{Less, Equal, Greater}
use Rattle.std.proofs.lemmas.Map.Keys.{IsDistinct-from_sorted}
use Rattle.market_events.specs.declared.cells.CellName.{CellName}
use Rattle.market_events.specs.Cells.{name_cmp}
use Rattle.market_events.specs.Standing.{same_name, is_named}
use Rattle.market_events.proofs.NamedCells.Named.{name_exact}

-- a name that is put is among them
pub named_put : (k : CellName) (keys : List CellName) (other : CellName) → is_named (insert_key name_cmp keys k) other ≡ (same_name other k || is_named keys other)
named_put k [] other = refl
named_put k (x ∷ xs) other = by (named_put k xs other) (name_cmp k x) refl
  where
    same : (b r : Bool) → (b || r) ≡ (b || (b || r))
    same true r = refl
    same false r = refl

    swap : (a b r : Bool) → (a || (b || r)) ≡ (b || (a || r))
    swap true true r = refl
    swap true false r = refl
    swap false true r = refl
    swap false false r = refl

    by : is_named (insert_key name_cmp xs k) other ≡ (same_name other k || is_named xs other) → (o : Ordering) → name_cmp k x ≡ o
        → is_named (match_ordering o (k ∷ x ∷ xs) (x ∷ xs) (x ∷ insert_key name_cmp xs k)) other ≡ (same_name other k || (same_name other x || is_named xs other))
    by rest Less e = refl
    by rest Equal e =
        same (same_name other x) (is_named xs other)
        ∙ ap (λ n. same_name other n || (same_name other x || is_named xs other)) (sym (name_exact k x e))
    by rest Greater e =
        ap (λ b. same_name other x || b) rest ∙ swap (same_name other x) (same_name other k) (is_named xs other)

-- there is one more at most
pub few_put : (k : CellName) (keys : List CellName) → length (insert_key name_cmp keys k) ≤ length keys + 1
few_put k [] = omega arith
few_put k (x ∷ xs) = by (few_put k xs) (name_cmp k x)
  where
    by : length (insert_key name_cmp xs k) ≤ length xs + 1 → (o : Ordering) → length (match_ordering o (k ∷ x ∷ xs) (x ∷ xs) (x ∷ insert_key name_cmp xs k)) ≤ length (x ∷ xs) + 1
    by rest Less = omega arith
    by rest Equal = omega arith
    by rest Greater = omega (arith, rest)

-- names that rise differ
pub rising_differ : (names : List CellName) → IsStrictlySortedBy name_cmp names → IsDistinct same_name names
rising_differ names rise = IsDistinct-from_sorted name_cmp names rise
