use Rattle.std.proofs.Common.{◌≡◌, map}
use Rattle.std.specs.Map.Iter.{deref}
use Rattle.market_events.specs.CellLists.{put_each, key_cell}
use Rattle.payment_service.specs.Cells.{name_by, texts_in}
use Rattle.payment_service.proofs.cells.put_accounts.Given as goal

abbrev pub invariant-loop-customer : goal.invariant-loop-customer
invariant-loop-customer l = l.cells ≡ put_each (key_cell name_by (texts_in l.accounts)) l.fn.cells (map deref l.yielded)
