-- The lanes so far have their requests.
use Rattle.market_rounds.specs.Nodes.{AreReady}
use Rattle.market_rounds.proofs.Queueing.{AreGivenBelow}
use Rattle.market_rounds.proofs.nodes.Nodes.give.Given as goal

abbrev pub invariant-loop-lane : goal.invariant-loop-lane
invariant-loop-lane l = AreReady l.self × AreGivenBelow l.lane l.fn.given l.fn.self l.self
