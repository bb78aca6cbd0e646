use Rattle.std.proofs.Common.{◌≡◌, ℕ, take, None}
use Rattle.market_events.specs.Entries.{entry_at}
use Rattle.shipment_service.specs.Tables.{put_at, groups_of}
use Rattle.shipment_service.proofs.queues.Queues.pick.Given as goal

abbrev pub invariant-loop-turn : goal.invariant-loop-turn
invariant-loop-turn l = (n : ℕ) → entry_at l.picked n ≡ put_at n None (groups_of l.self (take l.turn-index l.served))
