-- All the clocks below one that occurs occur.
use Rattle.market_laws.proofs.Clocks.Bounded.{clocks-few}
use Rattle.market_laws.proofs.laws.clocks_are_at_most_the_entries.Goals as goal

pub returns : goal.returns
returns c = clocks-few
