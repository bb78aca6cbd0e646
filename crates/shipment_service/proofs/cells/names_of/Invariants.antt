use Rattle.std.proofs.Common.{◌≡◌, map, take}
use Rattle.shipment_service.specs.Cells.{name_by}
use Rattle.shipment_service.proofs.cells.names_of.Given as goal

abbrev pub invariant-loop-number : goal.invariant-loop-number
invariant-loop-number l = l.names.items ≡ map name_by (take l.number-index l.numbers)
