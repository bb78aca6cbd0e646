use Rattle.std.proofs.Common.{◌≡◌, take}
use Rattle.seller_service.specs.Tables.{all_marked}
use Rattle.seller_service.proofs.brought.marked.Given as goal

abbrev pub invariant-loop-line : goal.invariant-loop-line
invariant-loop-line l = l.changes.items ≡ all_marked l.checkout l.status (take l.line-index l.lines)
