-- One number more of a range, and what is gathered of one element more.
use Rattle.std.proofs.Common.{◌≡◌, ℕ, zero, suc, ◌+◌, List, [], ◌∷◌, ◌++◌, map, ap, ◌∙◌, arith}
use Rattle.std.specs.List.{range_with_len}
use Rattle.std.proofs.lemmas.List.{map_push}

range_push : (a n : ℕ) → range_with_len a n ++ (a + n) ∷ [] ≡ range_with_len a (suc n)
range_push a zero = let same : a + 0 ≡ a = omega arith in ap (λ k. k ∷ []) same
range_push a (suc n) =
    let same : a + suc n ≡ a + 1 + n = omega arith in
    ap (λ l. a ∷ l) (ap (λ k. range_with_len (a + 1) n ++ k ∷ []) same ∙ range_push (a + 1) n)

-- a list whose numbers are a range, and the next number
pub range_more : {A : Type 0} (f : A → ℕ) (a n : ℕ) (all xs : List A) (x : A) → all ≡ xs ++ x ∷ [] → map f xs ≡ range_with_len a n → f x ≡ a + n → map f all ≡ range_with_len a (n + 1)
range_more f a n all xs x is each last =
    let next : suc n ≡ n + 1 = omega arith in
    ap (map f) is ∙ map_push f xs x ∙ ap (λ ns. ns ++ f x ∷ []) each ∙ ap (λ k. range_with_len a n ++ k ∷ []) last ∙ range_push a n ∙ ap (range_with_len a) next

-- and one whose elements are gathered so far
pub gathered_more : {A B : Type 0} (f : A → B) (all xs : List A) (x : A) (ys : List B) (y : B) → all ≡ xs ++ x ∷ [] → map f xs ≡ ys → f x ≡ y → map f all ≡ ys ++ y ∷ []
gathered_more f all xs x ys y is each last = ap (map f) is ∙ map_push f xs x ∙ ap (λ zs. zs ++ f x ∷ []) each ∙ ap (λ z. ys ++ z ∷ []) last
