use Rattle.market_rows.proofs.Held.{rows_from-append, told_once, told_holds, holds_more, tells_more}
use Rattle.market_rows.proofs.laws.rows_tell_histories.Goals as goal

pub returns : goal.returns
returns c = record {
  one = told_once;
  holds = told_holds;
  grows = rows_from-append;
  holds_more = holds_more;
  tells_more = tells_more;
}
