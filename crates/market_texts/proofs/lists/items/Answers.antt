use Rattle.std.proofs.Common.{not, ap, sym, ◌∙◌, arith}
use Rattle.market_texts.specs.Reading.{item_read}
use Rattle.market_words.specs.Words.{pieces}
use Rattle.market_texts.proofs.Gathering.{goes_on, breaks_off, stays}
use Rattle.market_texts.proofs.Ruled.{items_break, items_begin, items_room, items_full}
use Rattle.market_texts.proofs.lists.items.Goals as goal

pub loop-piece-init : goal.loop-piece-init
loop-piece-init c = rw (c.new-items.ensures.items, c.new-pieces.ensures) (items_begin c.args.text.now)

pub loop-piece-preserved-in_ok-push-in-Ok : goal.loop-piece-preserved-in_ok-push-in-Ok
loop-piece-preserved-in_ok-push-in-Ok c =
    rw c.in_ok-push-in-Ok.ensures.items (goes_on items_break item_read (pieces 59 c.args.text.now) c.loop-piece.items.items c.loop-piece.fault c.loop-piece.pieces c.in-Some.piece.now c.next.new.self c.in-Ok.item
    c.loop-piece.invariant c.in-Some.ensures (sym c.item.ensures ∙ c.in-Ok.is) (ap not (c.is_none.ensures ∙ ap not c.if-is_none.true)) (items_room c.loop-piece.items.items c.in-Ok.item (omega arith)))

pub loop-piece-preserved-else-len-lt-MOST_ITEMS : goal.loop-piece-preserved-else-len-lt-MOST_ITEMS
loop-piece-preserved-else-len-lt-MOST_ITEMS c =
    breaks_off items_break item_read (pieces 59 c.args.text.now) c.loop-piece.items.items c.loop-piece.fault c.loop-piece.pieces c.in-Some.piece.now c.next.new.self c.in-Ok.item
    c.loop-piece.invariant c.in-Some.ensures (sym c.item.ensures ∙ c.in-Ok.is) (ap not (c.is_none.ensures ∙ ap not c.if-is_none.true)) (items_full c.loop-piece.items.items c.in-Ok.item (omega arith))

pub loop-piece-preserved-else-is_none : goal.loop-piece-preserved-else-is_none
loop-piece-preserved-else-is_none c =
    stays items_break item_read (pieces 59 c.args.text.now) c.loop-piece.items.items c.loop-piece.fault c.loop-piece.pieces c.in-Some.piece.now c.next.new.self c.in-Ok.item
    c.loop-piece.invariant c.in-Some.ensures (sym c.item.ensures ∙ c.in-Ok.is) (ap not (c.is_none.ensures ∙ ap not c.if-is_none.false))
