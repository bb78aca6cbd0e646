use Rattle.std.proofs.Common.{rules, append_assoc}
use Rattle.std.specs.Fmt.{decimal}
use Rattle.std.proofs.lemmas.Result.{IfOk-equal}
use Rattle.market_events.specs.Texts.{row_text}
use Rattle.market_texts.proofs.Writing.{joined_after}
use Rattle.market_texts.proofs.writers.write_dashboard.Goals as goal

pub returns-clause-ok : goal.returns-clause-ok
returns-clause-ok c = rw (joined_after 32 row_text (decimal c.args.amount) c.args.rows.now) (search (rules, IfOk-equal, append_assoc))
