-- The places of a link's events.
use Rattle.std.specs.Prelude.{ℕ, List}

-- the places, in order, and for how many more there is room
pub record PlaceState : Type 0 where
  pub places : List ℕ
  pub spare : ℕ
