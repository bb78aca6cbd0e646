-- The fates that a node has still to use.
use Rattle.std.specs.Prelude.{ℕ, List, [], slice_index_or, slice_set}
use Rattle.market_rings.specs.declared.fates.Fate.{Fate}
use Rattle.market_rings.specs.declared.fates.Way.{Way}
use Rattle.market_rings.specs.declared.fates.Way.TheVariants.{Carry, Ack}

-- by slot, the fates of the packets on each link out of the node and on each link into it
pub record FatesLeft : Type 0 where
  pub carry : List (List Fate)
  pub ack : List (List Fate)

abbrev pub fates_at : FatesLeft → Way → ℕ → List Fate
fates_at left Carry slot = slice_index_or left.carry slot []
fates_at left Ack slot = slice_index_or left.ack slot []

abbrev pub with_fates : FatesLeft → Way → ℕ → List Fate → FatesLeft
with_fates left Carry slot fates = record left { carry = slice_set left.carry slot fates }
with_fates left Ack slot fates = record left { ack = slice_set left.ack slot fates }
