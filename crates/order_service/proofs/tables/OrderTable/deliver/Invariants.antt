use Rattle.std.proofs.Common.{◌≡◌, take}
use Rattle.market_amounts.specs.declared.keys.RequestId.{RequestId}
use Rattle.order_service.specs.Tables.{order_at, with_delivered, item_count}
use Rattle.order_service.proofs.tables.OrderTable.deliver.Given as goal

-- the items so far are delivered
abbrev pub invariant-loop-item : goal.invariant-loop-item
invariant-loop-item l =
    (id : RequestId) → order_at l.self id ≡ with_delivered (item_count id (order_at l.fn.self id) (take l.item-index l.items)) (order_at l.fn.self id)
