use Rattle.market.proofs.Carrying.Passing.{IsCarrying}
use Rattle.market.proofs.Carrying.Weights.{weights}
use Rattle.market.proofs.services.Services.carry.Given as goal

-- what waits is carried
abbrev pub invariant-loop-link : goal.invariant-loop-link
invariant-loop-link l = IsCarrying l.fn.self l.self l.fn.made l.waiting.items l.reply

abbrev pub decreases-loop-link : goal.decreases-loop-link
decreases-loop-link l = weights l.waiting.items
