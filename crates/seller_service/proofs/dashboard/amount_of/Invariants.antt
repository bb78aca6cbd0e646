use Rattle.std.proofs.Common.{◌≡◌, ◌*◌, ◌^◌, ◌≤◌, take, sum_by}
use Rattle.market_events.specs.declared.replies.EntryRow.{EntryRow}
use Rattle.seller_service.proofs.dashboard.amount_of.Given as goal

abbrev pub invariant-loop-row : goal.invariant-loop-row
invariant-loop-row l = record {
  sum : l.amount ≡ sum_by (λ (row : EntryRow). row.amount) (take l.row-index l.rows);
  few : l.amount ≤ 2 ^ 64 * l.row-index;
}
