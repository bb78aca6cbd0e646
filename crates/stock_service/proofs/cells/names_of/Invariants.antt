use Rattle.std.proofs.Common.{◌≡◌, ◌≤◌, length, take}
use Rattle.std.specs.List.{list_any}
use Rattle.market_events.specs.declared.bodies.PricedLine.{PricedLine}
use Rattle.market_events.specs.declared.cells.CellName.{CellName}
use Rattle.market_events.specs.Standing.{same_name, is_named}
use Rattle.stock_service.specs.Cells.{level_name}
use Rattle.stock_service.proofs.cells.names_of.Given as goal

abbrev pub invariant-loop-line : goal.invariant-loop-line
invariant-loop-line l = record {
  named : (name : CellName) → is_named l.names name ≡ list_any (λ (line : PricedLine). same_name name (level_name line.key)) (take l.line-index l.lines);
  few : length l.names ≤ l.line-index;
}
