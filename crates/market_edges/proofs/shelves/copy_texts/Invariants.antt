use Rattle.std.proofs.Common.{◌≡◌, take}
use Rattle.market_edges.specs.Shelves.{texts_of}
use Rattle.market_edges.proofs.shelves.copy_texts.Given as goal

-- the texts so far are those of the rows so far
abbrev pub invariant-loop-row : goal.invariant-loop-row
invariant-loop-row l = l.texts.items ≡ texts_of (take l.row-index l.rows)
