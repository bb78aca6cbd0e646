use Rattle.market_node.proofs.ReserveLaws.{IsReserved}
use Rattle.market_node.proofs.lists.reserve_each.Given as goal

-- the lists so far have room
abbrev pub invariant-loop-list : goal.invariant-loop-list
invariant-loop-list l = IsReserved l.fn.lists l.lists l.list-index l.more
