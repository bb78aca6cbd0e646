use Rattle.std.proofs.Common.{◌≡◌, take}
use Rattle.market_amounts.specs.declared.keys.ProductKey.{ProductKey}
use Rattle.market_events.specs.Stocks.{pieces_of}
use Rattle.stock_service.specs.Amounts.{amounts_after}
use Rattle.stock_service.specs.Tables.{amounts_at, has_at}
use Rattle.stock_service.proofs.levels.Levels.apply.Given as goal

-- the pieces of the lines so far
abbrev pub invariant-loop-line : goal.invariant-loop-line
invariant-loop-line l = record {
  each : (k : ProductKey) → amounts_at l.self k ≡ amounts_after l.act (pieces_of k (take l.line-index l.lines)) (amounts_at l.fn.self k);
  there : (k : ProductKey) → has_at l.self k ≡ has_at l.fn.self k;
}
