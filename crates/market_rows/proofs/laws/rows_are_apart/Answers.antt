use Rattle.market_rows.proofs.Held.{rows_apart}
use Rattle.market_rows.proofs.laws.rows_are_apart.Goals as goal

pub returns : goal.returns
returns c = rows_apart
