-- Packets that are sent one after the other.
use Rattle.std.proofs.Common.{◌≡◌, ◌+◌, ◌*◌, ◌≤◌, List, ◌++◌, length}
use Rattle.market_rings.specs.declared.fates.Fate.{Fate}
use Rattle.market_rings.specs.Pushes.{pushed_of, held_after, fates_left}
use Rattle.market_rings.specs.RingEnds.{Pushing}

module _ {T : Type 0} where
  -- of all packets with all fates, these are left with those
  pub record AreMetSoFar (before : Pushing T) (packets : List T) (fates : List Fate) (now : Pushing T) (left : List T) (unused : List Fate) : Type 0 where
    pub ring : now.ring ≡ before.ring
    pub pushed : now.pushed ++ pushed_of left unused ≡ before.pushed ++ pushed_of packets fates
    pub held : now.held ++ held_after left unused ≡ before.held ++ held_after packets fates
    pub unused_left : fates_left left unused ≡ fates_left packets fates
    pub free : now.free + length now.pushed ≡ before.free + length before.pushed
    pub room : before.free + 2 * length left ≤ now.free + 2 * length packets
