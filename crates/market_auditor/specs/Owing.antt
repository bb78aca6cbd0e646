-- What the last block of a journal owes.
use Rattle.std.specs.Prelude.{◌≡◌, ℕ, List, [], ◌++◌, map}
use Rattle.market_events.specs.declared.events.Entry.{Entry}
use Rattle.market_history.specs.Blocks.{Out, Part, parts_of, inputs_of, blocks_after}

-- the parts that are left of a block
abbrev pub lefts : List Out → List Part
lefts outs = map (λ out. Part.Left out) outs

-- the entries are blocks, once these outs are made
pub record Owes (n : ℕ) (before : List Entry) (outs : List Out) : Type 0 where
  pub blocks : parts_of before ++ lefts outs ≡ blocks_after n [] (inputs_of before)
