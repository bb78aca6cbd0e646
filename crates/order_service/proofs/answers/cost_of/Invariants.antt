use Rattle.std.proofs.Common.{◌≡◌, take}
use Rattle.market_events.specs.WellFormed.{total_of}
use Rattle.order_service.proofs.answers.cost_of.Given as goal

-- what the lines so far cost
abbrev pub invariant-loop-line : goal.invariant-loop-line
invariant-loop-line l = l.total ≡ total_of (take l.line-index l.lines)
