-- The answers so far.
use Rattle.std.proofs.Common.{take}
use Rattle.market_rounds.specs.Markets.{AreAnswers}
use Rattle.market_rounds.specs.Nodes.{histories_by}
use Rattle.market_rounds.proofs.marketplace.answers.Given as goal

abbrev pub invariant-loop-request : goal.invariant-loop-request
invariant-loop-request l = AreAnswers (histories_by l.fn.nodes) (take l.request-index l.fn.given) l.replies.items
