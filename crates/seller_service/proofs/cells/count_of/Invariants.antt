use Rattle.std.proofs.Common.{◌≡◌, take, count_by}
use Rattle.seller_service.specs.Tables.{is_of_seller}
use Rattle.seller_service.proofs.cells.count_of.Given as goal

abbrev pub invariant-loop-change : goal.invariant-loop-change
invariant-loop-change l = l.count ≡ count_by (is_of_seller l.seller) (take l.change-index l.changes)
