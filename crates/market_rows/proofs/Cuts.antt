-- A text that is cut at its first byte c.
use Rattle.std.proofs.Common.{◌≡◌, ◌≤◌, ℕ, List, [], ◌∷◌, ◌++◌, length, Some, refl, ap, sym, ◌∙◌, arith}
use Rattle.std.specs.List.{join_with_byte}
use Rattle.market_words.specs.Words.{pieces}
use Rattle.market_words.proofs.WordCuts.{Lacks, first_piece, some_pieces, joined_pieces}
use Rattle.market_rows.specs.Reading.{parts_of, cut_at}

-- where there is a piece behind the first, the rest is those behind it, joined
parts_behind : (c : ℕ) (front : List ℕ) (behind : List (List ℕ)) → 1 ≤ length behind → parts_of c (front ∷ behind) ≡ Some (front, join_with_byte c behind)
parts_behind c front [] some = absurd (omega arith)
parts_behind c front (next ∷ more) some = refl

-- where the pieces are one and those of the rest, these are the parts
pub cut_some : (c : ℕ) (text front rest : List ℕ) → pieces c text ≡ front ∷ pieces c rest → cut_at c text ≡ Some (front, rest)
cut_some c text front rest e =
    ap (parts_of c) e ∙ parts_behind c front (pieces c rest) (some_pieces c rest) ∙ ap (λ r. Some (front, r)) (joined_pieces c rest)

-- a text without the byte, the byte, and a rest are cut into the two
pub cut_reads : (c : ℕ) (front rest : List ℕ) → Lacks c front → cut_at c (front ++ c ∷ rest) ≡ Some (front, rest)
cut_reads c front rest bare = cut_some c (front ++ c ∷ rest) front rest (first_piece c front rest bare)

-- what was cut, put together again
pub cut_spelled : (c : ℕ) (text : List ℕ) (p : List ℕ × List ℕ) → cut_at c text ≡ Some p → text ≡ p.0 ++ c ∷ p.1
cut_spelled c text p e = sym (joined_pieces c text) ∙ by_pieces (pieces c text) e
  where
    by_pieces : (ps : List (List ℕ)) → parts_of c ps ≡ Some p → join_with_byte c ps ≡ p.0 ++ c ∷ p.1
    by_pieces [] e = absurd (cc)
    by_pieces (one ∷ []) e = absurd (cc)
    by_pieces (front ∷ next ∷ more) e = let is : (front, join_with_byte c (next ∷ more)) ≡ p = cc in ap (λ (q : List ℕ × List ℕ). q.0 ++ c ∷ q.1) is
