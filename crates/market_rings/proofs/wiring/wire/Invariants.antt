use Rattle.market_rings.specs.Wiring.{AreWired}
use Rattle.market_rings.proofs.wiring.wire.Given as goal

-- the links so far are wired
abbrev pub invariant-loop-index : goal.invariant-loop-index
invariant-loop-index l = AreWired l.all.items l.index
