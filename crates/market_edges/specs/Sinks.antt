-- What a sink in memory is.
use Rattle.std.specs.Prelude.{ℕ, List}

pub record SinkState : Type 0 where
  -- the bytes that it holds
  pub written : List ℕ
  -- the calls that fail, counted from 1
  pub failing : List ℕ
  -- how many calls were made, a count that stands still at its end
  pub calls : ℕ
  -- the faults, a count that stands still at its end
  pub faults : ℕ

-- what is told of a sink over a writer: the writer, and the faults, a count that stands still at its end
pub record WriterState (W : Type 0) : Type 0 where
  pub writer : W
  pub faults : ℕ
