-- The texts that are written piece by piece.
use Rattle.std.proofs.Common.{◌≡◌, ℕ, List, [], ◌∷◌, ◌++◌, map, take, length, length-append, refl, ap, ◌∙◌, sym, arith}
use Rattle.std.specs.List.{flat_map, join_with_byte}
use Rattle.std.proofs.lemmas.List.{append-nil, take_at, take-take}

-- each piece after the first has the byte before it
pub joined_after : {X : Type 0} (c : ℕ) (f : X → List ℕ) (first : List ℕ) (xs : List X) → join_with_byte c (first ∷ map f xs) ≡ first ++ flat_map (λ x. c ∷ f x) xs
joined_after c f first [] = sym (append-nil first)
joined_after c f first (x ∷ xs) = ap (λ text. first ++ (c ∷ text)) (joined_after c f (f x) xs)

-- what stood in front of a longer text stays in front with it
pub kept_after : {X : Type 0} (a b c more : List X) → b ≡ a ++ more → take (length b) c ≡ b → take (length a) c ≡ a
kept_after a b c more longer kept =
    sym (take-take (length a) (length b) c (omega (arith, ap length longer, length-append a more))) ∙ ap (take (length a)) (kept ∙ longer) ∙ take_at a more (length a) refl

pub ruleset writing = (joined_after, kept_after)
