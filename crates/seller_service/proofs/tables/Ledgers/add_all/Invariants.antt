use Rattle.std.proofs.Common.{◌≡◌, ℕ, ◌++◌, take, filter}
use Rattle.seller_service.specs.Tables.{changes_at, is_of_seller}
use Rattle.seller_service.proofs.tables.Ledgers.add_all.Given as goal

abbrev pub invariant-loop-index : goal.invariant-loop-index
invariant-loop-index l = (seller : ℕ) →
    changes_at l.self seller ≡ changes_at l.fn.self seller ++ filter (is_of_seller seller) (take l.index l.changes)
