use Rattle.std.proofs.Common.{◌≡◌, ℕ, take}
use Rattle.std.specs.List.{All}
use Rattle.market_events.specs.declared.bodies.Item.{Item}
use Rattle.customer_service.specs.Tables.{tally_at, HasTally}
use Rattle.customer_service.proofs.tables.Tallies.make_room.Given as goal

-- nothing more is counted, and the items so far have entries
abbrev pub invariant-loop-item : goal.invariant-loop-item
invariant-loop-item l = record {
  unchanged : (c : ℕ) → tally_at l.self c ≡ tally_at l.fn.self c;
  entered : All (λ (i : Item). HasTally l.self i.customer) (take l.item-index l.items);
}
