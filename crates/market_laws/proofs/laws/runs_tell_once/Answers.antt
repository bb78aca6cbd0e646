-- Each clause is a law of RunsTold.
use Rattle.market_laws.proofs.Runs.ToldOnce.{asked-once, told-le, told-is}
use Rattle.market_laws.proofs.laws.runs_tell_once.Goals as goal

pub returns : goal.returns
returns c = record { asked = asked-once; told = told-le; told_each = told-is }
