-- Texts that are joined with a byte between them, one after the other.
use Rattle.std.proofs.Common.{◌≡◌, ◌<◌, ℕ, zero, suc, ◌+◌, ◌==◌, false, cond, List, [], ◌∷◌, ◌++◌, map, take, get_or, length, refl, ap, ◌∙◌, sym, append_assoc, add-one, arith}
use Rattle.std.specs.List.{join_with_byte}
use Rattle.std.proofs.lemmas.Bool.Decides.{nat_tests}

-- one piece more, which is not the first
joined_next : {X : Type 0} (c : ℕ) (f : X → List ℕ) (xs : List X) (i : ℕ) (d : X) → suc i < length xs
    → join_with_byte c (map f (take (suc (suc i)) xs)) ≡ join_with_byte c (map f (take (suc i) xs)) ++ (c ∷ f (get_or xs (suc i) d))
joined_next c f [] i d below = absurd (omega arith)
joined_next c f (x ∷ []) i d below = absurd (omega arith)
joined_next c f (x ∷ y ∷ xs) zero d below = refl
joined_next c f (x ∷ y ∷ xs) (suc i) d below =
    ap (λ text. f x ++ (c ∷ text)) (joined_next c f (y ∷ xs) i d (omega arith)) ∙ sym (append_assoc (f x) _ _)

-- one piece more, with the byte before it where it is not the first
pub joined_more : {X : Type 0} (c : ℕ) (f : X → List ℕ) (xs : List X) (i : ℕ) (d : X) → i < length xs
    → join_with_byte c (map f (take (i + 1) xs)) ≡ join_with_byte c (map f (take i xs)) ++ (cond (i == 0) [] (c ∷ []) ++ f (get_or xs i d))
joined_more c f [] i d below = absurd (omega arith)
joined_more c f (x ∷ xs) zero d below = refl
joined_more c f (x ∷ xs) (suc i) d below =
    let later : (suc i == 0) ≡ false = grind (arith, nat_tests) in rw (add-one, later) (joined_next c f (x ∷ xs) i d below)
