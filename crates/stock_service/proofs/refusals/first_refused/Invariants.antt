use Rattle.std.proofs.Common.{◌≡◌, drop}
use Rattle.market_events.specs.Stocks.{first_some, line_refusal}
use Rattle.stock_service.specs.Tables.{sums_at}
use Rattle.stock_service.proofs.refusals.first_refused.Given as goal

-- no line so far is refused
abbrev pub invariant-loop-line : goal.invariant-loop-line
invariant-loop-line l = first_some (line_refusal (sums_at l.copy l.levels)) l.lines ≡ first_some (line_refusal (sums_at l.copy l.levels)) (drop l.line-index l.lines)
