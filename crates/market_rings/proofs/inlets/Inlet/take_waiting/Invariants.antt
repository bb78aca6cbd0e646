use Rattle.market_rings.proofs.Taking.{AreTakenSoFar}
use Rattle.market_rings.proofs.inlets.Inlet.take_waiting.Given as goal

abbrev pub invariant-loop : goal.invariant-loop
invariant-loop g l = AreTakenSoFar l.fn.self l.counter l.self l.packets.items
