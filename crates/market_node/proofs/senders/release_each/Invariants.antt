use Rattle.std.proofs.Common.{◌≡◌, ◌++◌, map, take, drop}
use Rattle.market_links.specs.SenderStates.{with_release}
use Rattle.market_node.proofs.senders.release_each.Given as goal

-- the first senders have released all, and the others are as they were
abbrev pub invariant-loop-sender : goal.invariant-loop-sender
invariant-loop-sender l =
    l.senders ≡ map with_release (take l.sender-index l.fn.senders) ++ drop l.sender-index l.fn.senders
