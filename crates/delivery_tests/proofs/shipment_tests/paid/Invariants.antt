use Rattle.std.proofs.Common.{◌≡◌, map, take}
use Rattle.market_events.specs.ExamplesShipment.{piece_of}
use Rattle.delivery_tests.proofs.shipment_tests.paid.Given as goal

abbrev pub invariant-loop-key : goal.invariant-loop-key
invariant-loop-key l = l.lines.items ≡ map piece_of (take l.key-index l.keys)
