use Rattle.std.proofs.Common.{◌≡◌, take}
use Rattle.shipment_service.specs.Tables.{close_if, is_one_of}
use Rattle.shipment_service.proofs.packages.Packages.close_all.Given as goal

-- those so far are closed
abbrev pub invariant-loop-number : goal.invariant-loop-number
invariant-loop-number l = l.self ≡ close_if (is_one_of (take l.number-index l.numbers)) l.fn.self
