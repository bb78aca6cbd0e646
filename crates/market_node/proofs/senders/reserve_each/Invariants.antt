use Rattle.market_node.proofs.SendingLaws.{IsRoomierTo}
use Rattle.market_node.proofs.senders.reserve_each.Given as goal

-- the senders so far have room
abbrev pub invariant-loop-sender : goal.invariant-loop-sender
invariant-loop-sender l = IsRoomierTo l.fn.senders l.senders l.sender-index l.more
