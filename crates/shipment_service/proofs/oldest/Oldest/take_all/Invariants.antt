use Rattle.std.proofs.Common.{◌≡◌, ℕ, take, None, if◌then◌else◌}
use Rattle.market_events.specs.Entries.{entry_at}
use Rattle.shipment_service.specs.Tables.{has_number}
use Rattle.shipment_service.proofs.oldest.Oldest.take_all.Given as goal

abbrev pub invariant-loop-turn : goal.invariant-loop-turn
invariant-loop-turn l = (n : ℕ) → entry_at l.self n ≡ (if has_number (take l.turn-index l.turns) n then None else entry_at l.fn.self n)
