use Rattle.std.proofs.Common.{◌≡◌, ℕ, take}
use Rattle.market_events.specs.Entries.{entry_at}
use Rattle.shipment_service.specs.Tables.{put_at}
use Rattle.shipment_service.proofs.picked.Picked.put_all.Given as goal

abbrev pub invariant-loop-package : goal.invariant-loop-package
invariant-loop-package l = (n : ℕ) → entry_at l.self n ≡ put_at n (entry_at l.fn.self n) (take l.package-index l.group)
