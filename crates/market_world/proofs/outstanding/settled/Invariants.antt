-- Nothing waits on the links so far.
use Rattle.std.proofs.Common.{◌<◌}
use Rattle.market_history.specs.Lawful.{IsLawful}
use Rattle.market_world.specs.Waiting.{AreSettledBelow}
use Rattle.market_world.proofs.outstanding.settled.Given as goal

abbrev pub invariant-loop-index : goal.invariant-loop-index
invariant-loop-index l = AreSettledBelow l.world l.index × (0 < l.index → IsLawful l.world)
