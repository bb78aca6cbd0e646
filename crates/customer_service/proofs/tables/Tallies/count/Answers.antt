use Rattle.customer_service.proofs.Entries.{no_item}
use Rattle.customer_service.proofs.tables.Tallies.count.Goals as goal

pub count_one-requires-clause-entered : goal.count_one-requires-clause-entered
count_one-requires-clause-entered c = c.loop-item.invariant.entered _ (c.requires.entered c.loop-item.item-index no_item c.loop-item-test.true)
