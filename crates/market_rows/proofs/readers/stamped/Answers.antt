use Rattle.market_rows.proofs.Stamped.{has_link}
use Rattle.market_rows.proofs.readers.stamped.Goals as goal

pub happens-requires : goal.happens-requires
happens-requires c = has_link c.args.fields.now c.in_ok-what.what c.in_ok-what.ensures
