-- A text that was joined at a byte is cut at that byte into what was joined.
use Rattle.std.proofs.Common.{◌≡◌, ◌≤◌, ℕ, Bool, true, false, not, ◌==◌, ◌&&◌, List, [], ◌∷◌, ◌++◌, length, refl, ap, ◌∙◌, arith}
use Rattle.std.specs.List.{AllByRecursion, join_with_byte}
use Rattle.std.proofs.lemmas.Bool.Decides.{nat_tests}
use Rattle.std.proofs.lemmas.List.Elements.{All-from_recursion}
use Rattle.std.proofs.lemmas.List.Splits.{slice_split_none, slice_split_at, length-slice_split, join_with_byte-slice_split}
use Rattle.market_words.specs.Words.{pieces}

-- no byte of the text is c
abbrev pub Lacks : ℕ → List ℕ → Type 0
Lacks c text = AllByRecursion (λ b. (b == c) ≡ false) text

-- the same, as a test
abbrev pub lacks : ℕ → List ℕ → Bool
lacks c [] = true
lacks c (b ∷ bs) = not (b == c) && lacks c bs

-- a text that the test passes lacks the byte
pub lacks_by_test : (c : ℕ) (text : List ℕ) → lacks c text ≡ true → Lacks c text
lacks_by_test c [] tested = tt
lacks_by_test c (b ∷ bs) tested = first (b == c) refl tested (lacks_by_test c bs)
  where
    first : (same : Bool) → (b == c) ≡ same → (not same && lacks c bs) ≡ true → (lacks c bs ≡ true → Lacks c bs) → Lacks c (b ∷ bs)
    first true is e more = absurd (cc)
    first false is e more = (is, more e)

-- a text without the byte is one piece
pub one_piece : (c : ℕ) (text : List ℕ) → Lacks c text → pieces c text ≡ text ∷ []
one_piece c text bare = slice_split_none (λ b. b == c) text (All-from_recursion (λ b. (b == c) ≡ false) text bare)

-- a text without the byte, then the byte
pub first_piece : (c : ℕ) (text more : List ℕ) → Lacks c text → pieces c (text ++ c ∷ more) ≡ text ∷ pieces c more
first_piece c text more bare = slice_split_at (λ b. b == c) text c more (All-from_recursion (λ b. (b == c) ≡ false) text bare) (grind (arith, nat_tests))

-- texts without the byte, joined by it, are cut into the same texts
pub pieces_joined : (c : ℕ) (ts : List (List ℕ)) → 1 ≤ length ts → AllByRecursion (Lacks c) ts → pieces c (join_with_byte c ts) ≡ ts
pieces_joined c [] some bare = absurd (omega arith)
pieces_joined c (t ∷ []) some bare = one_piece c t bare.0
pieces_joined c (t ∷ u ∷ more) some bare = first_piece c t (join_with_byte c (u ∷ more)) bare.0 ∙ ap (λ ts. t ∷ ts) (pieces_joined c (u ∷ more) (omega arith) bare.1)

-- the pieces of a text, joined again
pub joined_pieces : (c : ℕ) (t : List ℕ) → join_with_byte c (pieces c t) ≡ t
joined_pieces c t = join_with_byte-slice_split c t

-- there is one piece at least
pub some_pieces : (c : ℕ) (t : List ℕ) → 1 ≤ length (pieces c t)
some_pieces c t = omega (arith, length-slice_split (λ b. b == c) t)

-- a text is without a byte where its parts are
pub lacks-append : (c : ℕ) (a b : List ℕ) → Lacks c a → Lacks c b → Lacks c (a ++ b)
lacks-append c [] b bare more = more
lacks-append c (x ∷ a) b bare more = (bare.0, lacks-append c a b bare.1 more)

-- and where the byte between them is another one
pub lacks-joined : (c d : ℕ) (ts : List (List ℕ)) → (d == c) ≡ false → AllByRecursion (Lacks c) ts → Lacks c (join_with_byte d ts)
lacks-joined c d [] other bare = tt
lacks-joined c d (t ∷ []) other bare = bare.0
lacks-joined c d (t ∷ u ∷ more) other bare = lacks-append c t _ bare.0 (other, lacks-joined c d (u ∷ more) other bare.1)
