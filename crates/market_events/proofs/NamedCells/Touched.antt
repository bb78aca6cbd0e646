-- A name that is put among those of touched cells is of a table that the input may change.
use Rattle.std.proofs.Common.{◌≡◌, Bool, true, false, ◌||◌, List, [], ◌∷◌, map, ap, sym, ◌∙◌, refl}
use Rattle.std.specs.List.{list_any}
use Rattle.market_events.specs.declared.bodies.Body.{Body}
use Rattle.market_events.specs.declared.cells.CellName.{CellName}
use Rattle.market_events.specs.Services.{Role}
use Rattle.market_events.specs.Standing.{same_name, is_named, may_change}
use Rattle.market_events.proofs.NamedCells.Named.{same_name-true}

-- no name is among none
pub named_none : {C : Type 0} (name : CellName) → is_named [] name ≡ true → C
named_none name here = absurd (never here)
  where
    never : false ≡ true → ⊥
    never e = cc

module _ (role : Role) (b : Body) where
  -- the name is the same as one of such a table
  pub same_may_change : (name other : CellName) → may_change role b other ≡ true → same_name name other ≡ true → may_change role b name ≡ true
  same_may_change name other may same = ap (may_change role b) (same_name-true name other same) ∙ may

  -- it is this one, or among others of such tables
  pub or_may_change : (name other : CellName) (rest : Bool) → may_change role b other ≡ true
      → (rest ≡ true → may_change role b name ≡ true) → (same_name name other || rest) ≡ true → may_change role b name ≡ true
  or_may_change name other rest may more = by (same_name name other) (same_may_change name other may)
    where
      by : (here : Bool) → (here ≡ true → may_change role b name ≡ true) → (here || rest) ≡ true → may_change role b name ≡ true
      by true first e = first refl
      by false first e = more e

  -- it is the only one
  pub one_may_change : (other : CellName) → may_change role b other ≡ true → (name : CellName) → is_named (other ∷ []) name ≡ true → may_change role b name ≡ true
  one_may_change other may name = or_may_change name other false may (λ e. named_none name e)

  -- it is the name of one of these
  pub any_may_change : {A : Type 0} (f : A → CellName) → ((x : A) → may_change role b (f x) ≡ true)
      → (name : CellName) (xs : List A) → list_any (λ (x : A). same_name name (f x)) xs ≡ true → may_change role b name ≡ true
  any_may_change f may name [] e = named_none name e
  any_may_change f may name (x ∷ xs) e =
      or_may_change name (f x) (list_any (λ y. same_name name (f y)) xs) (may x) (any_may_change f may name xs) e

  pub map_may_change : {A : Type 0} (f : A → CellName) → ((x : A) → may_change role b (f x) ≡ true)
      → (name : CellName) (xs : List A) → is_named (map f xs) name ≡ true → may_change role b name ≡ true
  map_may_change f may name [] e = named_none name e
  map_may_change f may name (x ∷ xs) e = or_may_change name (f x) (is_named (map f xs) name) (may x) (map_may_change f may name xs) e

  -- of names that are these
  pub none_touched : (names : List CellName) → names ≡ [] → (name : CellName) → is_named names name ≡ true → may_change role b name ≡ true
  none_touched names none name here = named_none name (sym (ap (λ ns. is_named ns name) none) ∙ here)

  pub one_touched : (names : List CellName) (other : CellName) → names ≡ other ∷ [] → may_change role b other ≡ true
      → (name : CellName) → is_named names name ≡ true → may_change role b name ≡ true
  one_touched names other one may name here = one_may_change other may name (sym (ap (λ ns. is_named ns name) one) ∙ here)
