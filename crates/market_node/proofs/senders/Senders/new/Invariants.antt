use Rattle.market_node.proofs.SendingLaws.{AreFresh}
use Rattle.market_node.proofs.senders.Senders.new.Given as goal

-- the senders so far have no events
abbrev pub invariant-loop-slot : goal.invariant-loop-slot
invariant-loop-slot l = AreFresh l.node l.senders.items l.slot
