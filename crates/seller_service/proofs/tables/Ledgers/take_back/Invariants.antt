use Rattle.std.proofs.Common.{◌≡◌, ℕ, ◌-◌, length, take, count_by}
use Rattle.seller_service.specs.Tables.{changes_at, is_of_seller}
use Rattle.seller_service.proofs.tables.Ledgers.take_back.Given as goal

abbrev pub invariant-loop-change : goal.invariant-loop-change
invariant-loop-change l = (seller : ℕ) → let was = changes_at l.fn.self seller in
    changes_at l.self seller ≡ take (length was - count_by (is_of_seller seller) (take l.change-index l.last)) was
