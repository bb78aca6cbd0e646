-- What a shelf in memory is.
use Rattle.std.specs.Prelude.{ℕ, List, [], slice_index, slice_index_or}

pub record ShelfState : Type 0 where
  -- the texts of each node's rows
  pub held : List (List (List ℕ))
  -- the commits that fail, counted from 1
  pub failing : List ℕ
  -- how many commits were made, a count that stands still at its end
  pub calls : ℕ
  -- the faults of each node, counts that stand still at their end
  pub faults : List ℕ

-- the texts of a node's rows
abbrev pub texts_at : ShelfState → ℕ → List (List ℕ)
texts_at shelf node = slice_index_or shelf.held node []

-- the faults of a node
abbrev pub faults_at : ShelfState → ℕ → ℕ
faults_at shelf node = slice_index shelf.faults node
