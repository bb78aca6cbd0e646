-- What a call takes of a source.
use Rattle.std.specs.Prelude.{◌≡◌, ℕ, List, ◌++◌, Option, Some}

-- A source that told what it had left, before and after these bytes were taken of it: they stood in front of
-- the rest.
abbrev pub Takes : Option (List ℕ) → Option (List ℕ) → List ℕ → Type 0
Takes before after bytes =
    (all : List ℕ) → before ≡ Some all → (rest : List ℕ) × (all ≡ bytes ++ rest) × (after ≡ Some rest)
