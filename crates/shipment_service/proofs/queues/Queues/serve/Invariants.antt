use Rattle.std.proofs.Common.{◌≡◌, ℕ, take}
use Rattle.shipment_service.specs.Tables.{queue_at, served_queue}
use Rattle.shipment_service.proofs.queues.Queues.serve.Given as goal

abbrev pub invariant-loop-turn : goal.invariant-loop-turn
invariant-loop-turn l = (s : ℕ) → queue_at l.self s ≡ served_queue s (queue_at l.fn.self s) (take l.turn-index l.served)
