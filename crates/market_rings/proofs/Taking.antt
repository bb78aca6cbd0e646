-- Waiting packets that are taken one after the other.
use Rattle.std.proofs.Common.{◌≡◌, ℕ, ◌+◌, List, ◌++◌, length}
use Rattle.market_rings.specs.RingEnds.{Popping}

module _ {T : Type 0} where
  -- so many of those that waited are taken
  pub record AreTakenSoFar (before : Popping T) (count : ℕ) (now : Popping T) (packets : List T) : Type 0 where
    pub ring : now.ring ≡ before.ring
    pub popped : now.popped ≡ before.popped ++ packets
    pub waiting : packets ++ now.waiting ≡ before.waiting
    pub counted : count + length now.waiting ≡ length before.waiting
