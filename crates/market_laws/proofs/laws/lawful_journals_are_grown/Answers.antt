-- Both ways.
use Rattle.market_laws.proofs.Growth.Lawful.{lawful_of_grown, grown_of_lawful}
use Rattle.market_laws.proofs.laws.lawful_journals_are_grown.Goals as goal

pub returns : goal.returns
returns c = λ n entries. (grown_of_lawful n entries, lawful_of_grown n entries)
