use Rattle.std.proofs.Common.{◌≡◌, ◌+◌}
use Rattle.shipment_service.specs.Cells.{names_from}
use Rattle.shipment_service.proofs.cells.names_behind.Given as goal

abbrev pub invariant-loop-k : goal.invariant-loop-k
invariant-loop-k l = l.names.items ≡ names_from (l.fn.before + 1) l.k
