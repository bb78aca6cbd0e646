-- Where nothing happened, the histories are lawful.
use Rattle.std.proofs.Common.{sym, subst}
use Rattle.market_history.specs.Lawful.{IsLawful}
use Rattle.market_laws.proofs.Growth.Played.{nothing_lawful}
use Rattle.market_world.proofs.world.World.new.Goals as goal

pub invariant_of-result : goal.invariant_of-result
invariant_of-result c = subst IsLawful (sym c.in_ok-cores.ensures) nothing_lawful
