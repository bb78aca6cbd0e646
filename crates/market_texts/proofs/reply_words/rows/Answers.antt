use Rattle.std.proofs.Common.{Err, ap, sym, ◌∙◌, arith}
use Rattle.market_texts.specs.declared.faults.BodyError.TheVariants as bad
use Rattle.market_texts.specs.Reading.{fault_at}
use Rattle.market_texts.proofs.Rows.{row_more, row_over, row_bad}
use Rattle.market_texts.proofs.reply_words.rows.Goals as goal

pub loop-place-preserved : goal.loop-place-preserved
loop-place-preserved c =
    rw c.in_ok-push-in-Ok.ensures.items (row_more c.args.words.now c.loop-place.rows.items c.loop-place.words c.next.new.self c.in-Some.text.now c.in-Ok.row
    c.loop-place.invariant c.in-Some.ensures.0 c.in-Some.ensures.2 (sym c.row.ensures ∙ c.in-Ok.is) (omega arith))

pub returns-in-Ok-2 : goal.returns-in-Ok-2
returns-in-Ok-2 c =
    row_over c.args.words.now c.loop-place.rows.items c.loop-place.words c.in-Some.text.now c.next.new.self.left c.in-Ok-2.field-0
    c.loop-place.invariant c.in-Some.ensures.0 (sym c.row.ensures ∙ c.in-Ok-2.is) (omega arith)
    ∙ ap (λ place. Err (bad.Field place)) (sym c.in-Some.ensures.1)

pub returns-in-Err : goal.returns-in-Err
returns-in-Err c =
    row_bad c.args.words.now c.loop-place.rows.items c.loop-place.words c.in-Some.text.now c.next.new.self.left c.in-Err.fault
    c.loop-place.invariant c.in-Some.ensures.0 (sym c.row.ensures ∙ c.in-Err.is)
    ∙ ap (λ place. Err (fault_at place c.in-Err.fault)) (sym c.in-Some.ensures.1) ∙ ap Err (sym c.fault_of_word.ensures)
