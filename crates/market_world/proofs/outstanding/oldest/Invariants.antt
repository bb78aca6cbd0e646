-- The oldest on the links so far.
use Rattle.std.proofs.Common.{◌<◌}
use Rattle.std.specs.Option.{option_copied}
use Rattle.market_history.specs.Lawful.{IsLawful}
use Rattle.market_world.specs.Waiting.{IsFoundBelow}
use Rattle.market_world.proofs.outstanding.oldest.Given as goal

abbrev pub invariant-loop-index : goal.invariant-loop-index
invariant-loop-index l = IsFoundBelow l.world l.index (option_copied l.found) × (0 < l.index → IsLawful l.world)
