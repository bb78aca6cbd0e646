use Rattle.std.proofs.Common.{ℕ, zero, suc, ◌≤◌, arith}
use Rattle.market_events.specs.declared.nodes.TheConstants.{NODES}
use Rattle.market_rounds.proofs.Together.{AreTurned, turned_first, turned_next}
use Rattle.market_rounds.proofs.laws.turns_are_one_schedule.Goals as goal

pub returns : goal.returns
returns c events queues h n lawful made into own low = (up_to n low).played
  where
    up_to : (k : ℕ) → k ≤ NODES → AreTurned events queues h lawful made into own k
    up_to zero few = turned_first events queues h lawful made into own
    up_to (suc k) few = turned_next events queues h lawful made into own k (omega arith) (up_to k (omega arith))
