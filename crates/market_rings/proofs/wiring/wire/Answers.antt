use Rattle.market_rings.proofs.Wired.{none_wired}
use Rattle.market_rings.proofs.wiring.wire.Goals as goal

pub loop-index-init : goal.loop-index-init
loop-index-init c = none_wired c.in_ok-all.all.items c.in_ok-all.ensures
