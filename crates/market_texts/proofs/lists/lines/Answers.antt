use Rattle.std.proofs.Common.{true, false, not, ap, sym, ◌∙◌}
use Rattle.market_texts.specs.Reading.{line_read}
use Rattle.market_words.specs.Words.{pieces}
use Rattle.market_texts.specs.Cutting.{lines_break}
use Rattle.market_texts.proofs.Gathering.{goes_on, breaks_off, stays}
use Rattle.market_texts.proofs.Ruled.{lines_begin, turned}
use Rattle.market_texts.proofs.lists.lines.Goals as goal

pub loop-piece-init : goal.loop-piece-init
loop-piece-init c = rw (c.new-lines.ensures.items, c.new-pieces.ensures) (lines_begin c.args.text.now)

pub may_follow-requires : goal.may_follow-requires
may_follow-requires c = rw c.deref.ensures.value (c.loop-piece.invariant.fine (ap not (c.is_none.ensures ∙ ap not c.if-is_none.true)))

pub loop-piece-preserved-in_ok-push-in-Ok : goal.loop-piece-preserved-in_ok-push-in-Ok
loop-piece-preserved-in_ok-push-in-Ok c =
    rw c.in_ok-push-in-Ok.ensures.items (goes_on lines_break line_read (pieces 59 c.args.text.now) c.loop-piece.lines.items c.loop-piece.fault c.loop-piece.pieces c.in-Some.piece.now c.next.new.self c.in-Ok.line
    c.loop-piece.invariant c.in-Some.ensures (sym c.line.ensures ∙ c.in-Ok.is) (ap not (c.is_none.ensures ∙ ap not c.if-is_none.true)) (turned true _ (rw c.deref.ensures.value at c.if-may_follow.ensures)))

pub loop-piece-preserved-else-may_follow : goal.loop-piece-preserved-else-may_follow
loop-piece-preserved-else-may_follow c =
    breaks_off lines_break line_read (pieces 59 c.args.text.now) c.loop-piece.lines.items c.loop-piece.fault c.loop-piece.pieces c.in-Some.piece.now c.next.new.self c.in-Ok.line
    c.loop-piece.invariant c.in-Some.ensures (sym c.line.ensures ∙ c.in-Ok.is) (ap not (c.is_none.ensures ∙ ap not c.if-is_none.true)) (turned false _ (rw c.deref.ensures.value at c.if-may_follow.ensures))

pub loop-piece-preserved-else-is_none : goal.loop-piece-preserved-else-is_none
loop-piece-preserved-else-is_none c =
    stays lines_break line_read (pieces 59 c.args.text.now) c.loop-piece.lines.items c.loop-piece.fault c.loop-piece.pieces c.in-Some.piece.now c.next.new.self c.in-Ok.line
    c.loop-piece.invariant c.in-Some.ensures (sym c.line.ensures ∙ c.in-Ok.is) (ap not (c.is_none.ensures ∙ ap not c.if-is_none.false))
