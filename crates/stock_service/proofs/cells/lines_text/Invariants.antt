use Rattle.std.proofs.Common.{◌≡◌, map, take}
use Rattle.std.specs.List.{join_with_byte}
use Rattle.market_events.specs.Cells.{held_line}
use Rattle.stock_service.proofs.cells.lines_text.Given as goal

abbrev pub invariant-loop-index : goal.invariant-loop-index
invariant-loop-index l = l.text.items ≡ join_with_byte 59 (map held_line (take l.index l.lines))
