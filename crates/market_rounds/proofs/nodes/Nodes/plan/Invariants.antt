-- The nodes were given the fates of the plan so far.
use Rattle.std.proofs.Common.{◌≡◌, take, length}
use Rattle.market_events.specs.declared.nodes.TheConstants.{NODES}
use Rattle.market_rounds.proofs.Planning.{AreFated}
use Rattle.market_rounds.proofs.nodes.Nodes.plan.Given as goal

abbrev pub invariant-loop-planned : goal.invariant-loop-planned
invariant-loop-planned l = AreFated (take l.planned-index l.fn.plan) l.fn.self l.self-inside.groups × (length l.self-inside.others.items ≡ NODES)
