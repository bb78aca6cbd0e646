-- Step by step.
use Rattle.market_laws.proofs.Growth.Played.{nothing_lawful, play_keeps}
use Rattle.market_laws.proofs.laws.play_keeps_lawful.Goals as goal

pub returns : goal.returns
returns c = record { starts = nothing_lawful; keeps = play_keeps }
