-- The head of a row, and what stands behind it.
use Rattle.std.proofs.Common.{◌≡◌, ℕ, List, [], ◌∷◌, ◌++◌, codes, append_assoc}
use Rattle.std.specs.List.{join_with_byte}

-- node, place, clock and kind, with a comma behind each
abbrev pub head_text : List ℕ → List ℕ → List ℕ → List ℕ → List ℕ
head_text n p c kind = join_with_byte 44 (n ∷ p ∷ c ∷ kind ∷ [] ∷ [])

-- the fields behind it
pub head_fields : (n p c kind t : List ℕ) (ts : List (List ℕ)) → head_text n p c kind ++ join_with_byte 44 (t ∷ ts) ≡ join_with_byte 44 (n ∷ p ∷ c ∷ kind ∷ t ∷ ts)
head_fields n p c kind t ts = simp append_assoc

-- where the fields of an event are empty
pub head_given : (n p c t : List ℕ) → head_text n p c (codes "given,,,,") ++ t ≡ join_with_byte 44 (n ∷ p ∷ c ∷ codes "given" ∷ [] ∷ [] ∷ [] ∷ [] ∷ t ∷ [])
head_given n p c t = simp append_assoc

pub head_answered : (n p c t : List ℕ) → head_text n p c (codes "answered,,,,") ++ t ≡ join_with_byte 44 (n ∷ p ∷ c ∷ codes "answered" ∷ [] ∷ [] ∷ [] ∷ [] ∷ t ∷ [])
head_answered n p c t = simp append_assoc
