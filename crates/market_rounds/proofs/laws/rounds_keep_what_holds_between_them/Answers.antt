use Rattle.market_rounds.proofs.NodeRounds.{round_keeps}
use Rattle.market_rounds.proofs.laws.rounds_keep_what_holds_between_them.Goals as goal

pub returns : goal.returns
returns c h nodes turned met queues fates left between round = round_keeps h nodes turned met queues fates left between round
