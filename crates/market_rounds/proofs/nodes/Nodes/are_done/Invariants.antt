-- Nothing waits on the links so far, and then nothing in the queues of the lanes so far.
use Rattle.std.proofs.Common.{◌≡◌, ℕ, ◌<◌, []}
use Rattle.market_events.specs.Links.{lane_node}
use Rattle.market_events.specs.declared.links.TheConstants.{LINKS}
use Rattle.market_world.specs.Waiting.{AreSettledBelow}
use Rattle.market_rounds.specs.Nodes.{histories_by, queue_by}
use Rattle.market_rounds.proofs.nodes.Nodes.are_done.Given as goal

abbrev pub invariant-loop-index : goal.invariant-loop-index
invariant-loop-index l = AreSettledBelow (histories_by l.self) l.index

abbrev pub invariant-loop-lane : goal.invariant-loop-lane
invariant-loop-lane l = AreSettledBelow (histories_by l.self) LINKS × ((lane : ℕ) → lane < l.lane → queue_by l.self (lane_node lane) ≡ [])
