use Rattle.std.proofs.Common.{◌≡◌, drop}
use Rattle.shipment_service.proofs.queue.Queue.serve.Given as goal

-- so many packages were taken away
abbrev pub invariant-loop : goal.invariant-loop
invariant-loop l = l.self-inside.packages.items ≡ drop l.counter l.fn.self
