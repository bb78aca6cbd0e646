-- Held packets that are pushed one after the other.
use Rattle.std.proofs.Common.{◌≡◌, ℕ, ◌+◌, ◌++◌, take, drop}
use Rattle.market_rings.specs.RingEnds.{Pushing}

module _ {T : Type 0} where
  -- so many of those that were held are pushed
  pub record ArePushedSoFar (before : Pushing T) (count : ℕ) (now : Pushing T) : Type 0 where
    pub ring : now.ring ≡ before.ring
    pub pushed : now.pushed ≡ before.pushed ++ take count before.held
    pub held : now.held ≡ drop count before.held
    pub free : now.free + count ≡ before.free
