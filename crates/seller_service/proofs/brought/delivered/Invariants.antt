use Rattle.std.proofs.Common.{◌≡◌, take, filter_map}
use Rattle.seller_service.specs.Tables.{lines_at, delivered_by}
use Rattle.seller_service.proofs.brought.delivered.Given as goal

abbrev pub invariant-loop-item : goal.invariant-loop-item
invariant-loop-item l = l.changes.items ≡ filter_map (delivered_by (lines_at l.invoices)) (take l.item-index l.items)
