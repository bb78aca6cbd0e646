use Rattle.market_rings.proofs.Holding.{ArePushedSoFar}
use Rattle.market_rings.proofs.outlets.Outlet.push_held.Given as goal

abbrev pub invariant-loop : goal.invariant-loop
invariant-loop g l = ArePushedSoFar l.fn.self l.counter l.self
