use Rattle.std.proofs.Common.{◌≡◌, ℕ, ◌+◌, ◌==◌, take}
use Rattle.std.specs.List.{count_by}
use Rattle.market_events.specs.declared.bodies.Item.{Item}
use Rattle.customer_service.specs.Tables.{tally_at, HasTally}
use Rattle.customer_service.proofs.tables.Tallies.count.Given as goal

-- the items so far are counted, and no entry is lost
abbrev pub invariant-loop-item : goal.invariant-loop-item
invariant-loop-item l = record {
  counted : (c : ℕ) → tally_at l.self c
      ≡ record (tally_at l.fn.self c) { delivered = (tally_at l.fn.self c).delivered + count_by (λ (i : Item). i.customer == c) (take l.item-index l.items) };
  entered : (c : ℕ) → HasTally l.fn.self c → HasTally l.self c;
}
