use Rattle.std.proofs.Common.{◌≡◌, ◌<◌, ap, sym, ◌∙◌, Ok, arith}
use Rattle.std.specs.Result.{result_ok}
use Rattle.market_events.specs.declared.links.TheConstants.{SERVICE_LINKS}
use Rattle.market_events.specs.Counts.{with_raised}
use Rattle.market_words.specs.Words.{number_id}
use Rattle.market_rows.proofs.PastPieces.{past_begins, past_more}
use Rattle.market_rows.proofs.Readings.{ok_apart}
use Rattle.market_rows.proofs.pasts.past.Goals as goal

pub loop-link-init : goal.loop-link-init
loop-link-init c = rw c.new-pieces.ensures (past_begins c.args.text.now c.zero-past.result c.zero-past.ensures.len c.zero-past.ensures.each)

pub loop-link-preserved : goal.loop-link-preserved
loop-link-preserved c =
    let piece = c.in_ok-piece.piece.now in
    let count = c.in_ok-count.count in
    let below : c.loop-link.link < SERVICE_LINKS = omega arith in
    let reads : number_id piece ≡ Ok count = ok_apart (number_id piece) count (sym (c.in_ok-count.ensures.value ∙ ap result_ok c.id_number.ensures)) in
    let raised : c.raise.new.self ≡ with_raised c.loop-link.past c.loop-link.link count = c.raise.ensures.raised in
    past_more c.args.text.now c.loop-link.past c.raise.new.self c.loop-link.link count c.loop-link.pieces piece c.next.new.self c.loop-link.invariant below c.in_ok-piece.ensures reads raised
