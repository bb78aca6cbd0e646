-- A text that is cut at its first byte c.
use Rattle.std.proofs.Common.{◌≡◌, ◌≤◌, ◌<◌, ℕ, ◌+◌, ◌-◌, ◌==◌, Bool, true, false, not, cond, nat_lt, List, [], ◌∷◌, length, take, drop, Some, None, position, refl, ap, sym, ◌∙◌, arith}
use Rattle.std.specs.List.{slice_split, onto_first, position_or_len}
use Rattle.std.proofs.lemmas.Bool.Decides.{nat_tests}
use Rattle.std.proofs.lemmas.List.{take_rest}
use Rattle.std.proofs.lemmas.List.Splits.{slice_split_first}
use Rattle.market_words.specs.Words.{pieces}

-- where no byte passes, the text is the one piece
uncut : (p : ℕ → Bool) (text : List ℕ) → length text ≤ position_or_len p text → slice_split p text ≡ text ∷ []
uncut p [] h = refl
uncut p (x ∷ xs) h = first (p x) h (uncut p xs)
  where
    first : (b : Bool) → length (x ∷ xs) ≤ cond (not b) (1 + position_or_len p xs) 0
        → (length xs ≤ position_or_len p xs → slice_split p xs ≡ xs ∷ [])
        → cond b ([] ∷ slice_split p xs) (onto_first x (slice_split p xs)) ≡ (x ∷ xs) ∷ []
    first true h rest = absurd (omega arith)
    first false h rest = ap (onto_first x) (rest (omega arith))

-- without the byte c
pub cut_nowhere : (c : ℕ) (text : List ℕ) → position (λ byte. byte == c) text ≡ None → pieces c text ≡ text ∷ []
cut_nowhere c text none = uncut (λ byte. byte == c) text (grind (arith, nat_tests, none))

-- cut at the first byte c
pub cut_there : (c : ℕ) (text : List ℕ) (i : ℕ) → position (λ byte. byte == c) text ≡ Some i
    → pieces c text ≡ take i text ∷ pieces c (take (length text - (i + 1)) (drop (i + 1) text))
cut_there c text i some = by_test (nat_lt (position_or_len (λ byte. byte == c) text) (length text)) refl some
  where
    by_test : (b : Bool) → nat_lt (position_or_len (λ byte. byte == c) text) (length text) ≡ b
        → cond b (Some (position_or_len (λ byte. byte == c) text)) None ≡ Some i
        → pieces c text ≡ take i text ∷ pieces c (take (length text - (i + 1)) (drop (i + 1) text))
    by_test true below e =
        let here : position_or_len (λ byte. byte == c) text ≡ i = cc in
        let within : position_or_len (λ byte. byte == c) text < length text = grind (arith, nat_tests, below) in
        slice_split_first (λ byte. byte == c) text 0 within
        ∙ ap (λ n. take n text ∷ pieces c (drop (n + 1) text)) here
        ∙ ap (λ rest. take i text ∷ pieces c rest) (sym (take_rest text (i + 1)))
    by_test false above e = cc
