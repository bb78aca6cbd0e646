-- The texts of what fails.
use Rattle.std.specs.Prelude.{ℕ, List, codes}
use Rattle.market_edges.specs.declared.shelves.ShelfError.{ShelfError}
use Rattle.market_edges.specs.declared.shelves.ShelfError.TheVariants.{Failed, OutOfMemory}

-- why a shelf did not do what it was asked
abbrev pub shelf_error_text : ShelfError → List ℕ
shelf_error_text Failed = codes "failed"
shelf_error_text OutOfMemory = codes "out of memory"
