use Rattle.market_rows.proofs.PastPieces.{StandsForPast}
use Rattle.market_rows.proofs.pasts.past.Given as goal

-- the counts so far, with the pieces that are left, stand for the past
abbrev pub invariant-loop-link : goal.invariant-loop-link
invariant-loop-link l = StandsForPast l.text l.past l.link l.pieces
