use Rattle.std.proofs.Common.{◌≡◌, ◌≤◌, length, take}
use Rattle.std.specs.List.{list_any}
use Rattle.market_events.specs.declared.bodies.Item.{Item}
use Rattle.market_events.specs.declared.cells.CellName.{CellName}
use Rattle.market_events.specs.Standing.{same_name, is_named}
use Rattle.customer_service.specs.Cells.{name_by}
use Rattle.customer_service.proofs.cells.names_of.Given as goal

abbrev pub invariant-loop-item : goal.invariant-loop-item
invariant-loop-item l = record {
  named : (name : CellName) → is_named l.names name ≡ list_any (λ (i : Item). same_name name (name_by i.customer)) (take l.item-index l.items);
  few : length l.names ≤ l.item-index;
}
