use Rattle.std.proofs.Common.{take}
use Rattle.market.proofs.Kept.Lines.{next_line, all_lines}
use Rattle.market.proofs.answers.run_text.Goals as goal

pub loop-request-preserved : goal.loop-request-preserved
loop-request-preserved c =
    let front = take c.loop-request.request-index c.args.requests.now in
    next_line c.answer.new.self c.args.requests.now c.loop-request.request-index c.request-item.result c.loop-request.text.items c.append_answer.new.text.items c.in_ok-reply.reply
    c.loop-request-test.true c.request-item.is c.loop-request.invariant.1
    (c.in_ok-reply.ensures.answered front c.loop-request.invariant.0) (c.in_ok-reply.ensures.stands_on front c.loop-request.invariant.0) c.in_ok-append_answer.ensures

pub returns : goal.returns
returns c =
    all_lines c.loop-request.hand c.args.requests.now c.loop-request.request-index c.loop-request.text.items c.append_counts.new.text.items c.len.result c.whole.result c.undone.result
    c.loop-request-test.false c.loop-request.invariant.0 c.loop-request.invariant.1 c.len.ensures c.whole.ensures c.undone.ensures c.in_ok-append_counts.ensures
