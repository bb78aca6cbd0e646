use Rattle.std.proofs.Common.{length}
use Rattle.market_texts.proofs.Rows.{StandsForRows}
use Rattle.market_texts.proofs.reply_words.rows.Given as goal

-- the rows so far, with the words that are left, stand for all rows
abbrev pub invariant-loop-place : goal.invariant-loop-place
invariant-loop-place l = StandsForRows l.initial.words l.rows.items l.words

abbrev pub decreases-loop-place : goal.decreases-loop-place
decreases-loop-place l = length l.words.left
