use Rattle.market_rounds.proofs.MetLinks.{AreMetBelow}
use Rattle.market_rounds.proofs.meeting.meet_all.Given as goal

-- the links so far have met
abbrev pub invariant-loop-index : goal.invariant-loop-index
invariant-loop-index l = AreMetBelow l.fn.all l.all l.index
