-- What stands at the slots of a node: some of it changed, and the rest as it was.
use Rattle.std.proofs.Common.{◌≡◌, ℕ, suc, ◌+◌, ◌-◌, ◌<◌, ◌≤◌, Bool, true, false, ltb, List, ◌∷◌, ◌++◌, Option, Some, None, length, map, take, drop, refl, ap, ◌∙◌, arith, length-append}
use Rattle.std.specs.List.{slice_set, slice_index_or}
use Rattle.std.proofs.lemmas.Bool.Decides.{nat_tests}
use Rattle.std.proofs.lemmas.List.{length-map, length-take, length-drop, get_or-append_right, get_or_default, get_or-drop}
use Rattle.std.proofs.lemmas.List.Edits.{map_over_more}
use Rattle.std.proofs.Math.ListN.{get_or-eq_default}
use Rattle.std.proofs.Math.Seq.{drop-cons}

module _ {X : Type 0} where
  -- only a slot of the list has something
  pub there_below : (xs : List (Option X)) (slot : ℕ) (x : X) → slice_index_or xs slot None ≡ Some x → slot < length xs
  there_below xs slot x there = by_test (ltb slot (length xs)) refl
    where
      by_test : (b : Bool) → ltb slot (length xs) ≡ b → slot < length xs
      by_test true test = grind (arith, nat_tests)
      by_test false test =
          let past : length xs ≤ slot = grind (arith, nat_tests) in
          let none : slice_index_or xs slot None ≡ None = get_or-eq_default xs None past in
          let no : ⊥ = cc in absurd no

-- what is left begins with the next
pub drop_one : {X : Type 0} (xs : List X) (i : ℕ) (d : X) → i < length xs → drop i xs ≡ slice_index_or xs i d ∷ drop (i + 1) xs
drop_one xs i d below =
    let more : suc i ≡ i + 1 = omega arith in drop-cons xs i d below ∙ ap (λ n. slice_index_or xs i d ∷ drop n xs) more

module _ {X : Type 0} (f : X → X) (d : X) where
  -- the slots below one are changed
  abbrev pub changed_below : List X → ℕ → List X
  changed_below xs slot = map f (take slot xs) ++ drop slot xs

  -- the slot itself is as it was
  pub changed_here : (xs : List X) (slot : ℕ) → slot < length xs → slice_index_or (changed_below xs slot) slot d ≡ slice_index_or xs slot d
  changed_here xs slot below =
      get_or-append_right (map f (take slot xs)) (drop slot xs) slot slot d (length-map (take slot xs) f ∙ long) (omega arith)
      ∙ get_or-drop slot xs (slot - slot) d ∙ ap (λ i. slice_index_or xs i d) (omega arith)
    where
      long : length (take slot xs) ≡ slot
      long = let most = length-take slot xs in omega arith

  -- with it changed too
  pub changed_more : (xs ys : List X) (slot : ℕ) → slot < length xs → ys ≡ changed_below xs slot → slice_set ys slot (f (slice_index_or ys slot d)) ≡ changed_below xs (slot + 1)
  changed_more xs ys slot below is =
      map_over_more f xs ys slot (slice_index_or ys slot d) below is (get_or_default ys slot d (slice_index_or ys slot d) wide)
    where
      wide : slot < length ys
      wide =
          let long : length ys ≡ length (map f (take slot xs)) + length (drop slot xs) = ap (λ (zs : List X). length zs) is ∙ length-append (map f (take slot xs)) (drop slot xs) in
          omega (arith, length-map (take slot xs) f, length-take slot xs, length-drop slot xs)
