-- A list of lists, of which one is written.
use Rattle.std.proofs.Common.{◌≡◌, ◌≢◌, ℕ, zero, suc, ◌+◌, ◌<◌, ◌≤◌, List, [], ◌∷◌, All, length, map, set, get_or, sym, ◌∙◌, ap, subst, Result, Ok, Err, OnErr, arith}
use Rattle.market_edges.specs.declared.shelves.Row.{Row}
use Rattle.market_edges.specs.Shelves.{ContinueFrom, most_rows}
use Rattle.std.proofs.lemmas.List.{map-set, length-map, set-get_or, get_or-set_same, get_or-set_other}

module _ {X Y : Type 0} (f : X → Y) (rows : List X) (i : ℕ) where
  -- what is written shows the same as what was there, so the list does
  pub map-set_same : (new d : X) → f new ≡ f (get_or rows i d) → map f (set rows i new) ≡ map f rows
  map-set_same new d same =
      map-set f rows i new ∙ ap (λ (y : Y). set (map f rows) i y) same ∙ sym (map-set f rows i (get_or rows i d)) ∙ ap (λ (xs : List X). map f xs) (set-get_or rows i d)

  -- what is at the place afterwards
  pub get_or-map-set : (new : X) (e : Y) → i < length rows → get_or (map f (set rows i new)) i e ≡ f new
  get_or-map-set new e below =
      ap (λ (ys : List Y). get_or ys i e) (map-set f rows i new) ∙ get_or-set_same (map f rows) i (f new) e (subst (λ (n : ℕ). i < n) (sym (length-map rows f)) below)

  -- what is at another place
  pub get_or-map-set_other : (new : X) (e : Y) (j : ℕ) → j ≢ i → get_or (map f (set rows i new)) j e ≡ get_or (map f rows) j e
  get_or-map-set_other new e j other =
      ap (λ (ys : List Y). get_or ys j e) (map-set f rows i new) ∙ get_or-set_other (map f rows) i j (f new) e other

-- what holds anyway holds of an error
pub on_err : {T E P : Type 0} (r : Result T E) → P → OnErr r P
on_err (Ok x) p = tt
on_err (Err e) p = p

-- lists that are not too long are shown so at each place
pub few_at : {X Z : Type 0} (f : X → List Z) (m : ℕ) (rows : List X) → All (λ x. length (f x) ≤ m) rows → (n : ℕ) → length (get_or (map f rows) n []) ≤ m
few_at f m [] few n = omega arith
few_at f m (x ∷ xs) few zero = few 0 x (omega arith)
few_at f m (x ∷ xs) few (suc n) = few_at f m xs (λ k d below. few (suc k) d (omega arith)) n

-- rows whose places go on from here and are in range leave no more than the most rows
pub rows_within : (rows : List Row) (place : ℕ) → ContinueFrom place rows → All (λ (row : Row). row.place < most_rows) rows → place ≤ most_rows
    → place + length rows ≤ most_rows
rows_within [] place goes_on below within = omega arith
rows_within (row ∷ rows) place goes_on below within =
    let first : row.place < most_rows = below 0 row (omega arith) in
    let later = rows_within rows (place + 1) goes_on.1 (λ k d inside. below (suc k) d (omega arith)) (omega (arith, goes_on.0, first)) in
    omega (arith, later)
