-- Entry by entry.
use Rattle.market_laws.proofs.Growth.Proper.{histories_are}
use Rattle.market_laws.proofs.laws.lawful_histories_are_histories.Goals as goal

pub returns : goal.returns
returns c = histories_are
