use Rattle.std.proofs.Common.{length}
use Rattle.market_texts.specs.Reading.{line_read}
use Rattle.market_words.specs.Words.{pieces}
use Rattle.market_texts.proofs.Gathering.{StandsFor}
use Rattle.market_texts.specs.Cutting.{lines_break}
use Rattle.market_texts.proofs.lists.lines.Given as goal

-- the lines so far, or their fault, with the pieces that are left stand for the text
abbrev pub invariant-loop-piece : goal.invariant-loop-piece
invariant-loop-piece l = StandsFor lines_break line_read (pieces 59 l.fn.text) l.lines.items l.fault l.pieces

abbrev pub decreases-loop-piece : goal.decreases-loop-piece
decreases-loop-piece l = length l.pieces
