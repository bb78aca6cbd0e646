-- One name, and none, differ from one another.
use Rattle.std.proofs.Common.{[], ◌∷◌}
use Rattle.std.specs.List.{IsDistinct}
use Rattle.market_events.specs.declared.cells.CellName.{CellName}
use Rattle.market_events.specs.Standing.{same_name}

-- one name
pub one_distinct : (name : CellName) → IsDistinct same_name (name ∷ [])
unfolding IsDistinct
one_distinct name = (tt, tt)

-- no name
pub none_distinct : IsDistinct same_name []
unfolding IsDistinct
none_distinct = tt
