-- Between two rounds the nodes are ready for the next, and each round makes the measure smaller.
use Rattle.market_rounds.specs.Nodes.{AreReady}
use Rattle.market_rounds.specs.Settling.{HaveGoneOn}
use Rattle.market_rounds.proofs.Settling.Work.{to_settle}
use Rattle.market_rounds.proofs.nodes.Nodes.settle.Given as goal

abbrev pub invariant-loop-self : goal.invariant-loop-self
invariant-loop-self g l = AreReady l.self × HaveGoneOn l.fn.self l.self

abbrev pub decreases-loop-self : goal.decreases-loop-self
decreases-loop-self g l = to_settle l.self
