-- What a source in memory is.
use Rattle.std.specs.Prelude.{ℕ, List}

pub record SourceState : Type 0 where
  -- the bytes that are left
  pub left : List ℕ
  -- how many bytes one read gives at most
  pub piece : ℕ
  -- the calls that fail, counted from 1
  pub failing : List ℕ
  -- how many calls were made, a count that stands still at its end
  pub calls : ℕ
  -- how many bytes were taken
  pub taken : ℕ
  -- the faults, a count that stands still at its end
  pub faults : ℕ

-- what is told of a source over a reader: the reader, the bytes taken and the faults, counts that stand still
-- at their end
pub record ReaderState (R : Type 0) : Type 0 where
  pub reader : R
  pub taken : ℕ
  pub faults : ℕ
