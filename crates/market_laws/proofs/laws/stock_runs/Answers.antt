-- Each clause is a law of RunsStock.
use Rattle.market_laws.proofs.Runs.Stock.{answered-is, reserves-once, held-reserve, failed-reserve}
use Rattle.market_laws.proofs.laws.stock_runs.Goals as goal

pub returns : goal.returns
returns c = record { answered = answered-is; taken_once = reserves-once; held = held-reserve; failed = failed-reserve }
