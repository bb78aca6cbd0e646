use Rattle.std.proofs.Common.{length}
use Rattle.market_texts.specs.Reading.{item_read}
use Rattle.market_words.specs.Words.{pieces}
use Rattle.market_texts.proofs.Gathering.{StandsFor}
use Rattle.market_texts.proofs.Ruled.{items_break}
use Rattle.market_texts.proofs.lists.items.Given as goal

-- the items so far, or their fault, with the pieces that are left stand for the text
abbrev pub invariant-loop-piece : goal.invariant-loop-piece
invariant-loop-piece l = StandsFor items_break item_read (pieces 59 l.fn.text) l.items.items l.fault l.pieces

abbrev pub decreases-loop-piece : goal.decreases-loop-piece
decreases-loop-piece l = length l.pieces
