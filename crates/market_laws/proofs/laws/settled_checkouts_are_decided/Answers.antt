-- By the reply that the cart told.
use Rattle.market_laws.proofs.Settled.Decided.{decided}
use Rattle.market_laws.proofs.laws.settled_checkouts_are_decided.Goals as goal

pub returns : goal.returns
returns c = λ h id lawful settled kept. decided h lawful settled id kept
