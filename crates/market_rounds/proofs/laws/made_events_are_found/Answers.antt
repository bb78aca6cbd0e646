use Rattle.market_rounds.proofs.MadeEvents.{sent_made}
use Rattle.market_rounds.proofs.laws.made_events_are_found.Goals as goal

pub returns : goal.returns
returns c h link lawful on = sent_made h link lawful on
