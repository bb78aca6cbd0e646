use Rattle.std.proofs.Common.{◌∙◌, subst, List, ◌++◌}
use Rattle.std.proofs.lemmas.Result.{on_ok_weaker}
use Rattle.market_events.specs.Copies.{ProductChange}
use Rattle.market_events.specs.Steps.{Sending}
use Rattle.cart_replica.specs.Copy.{IsCopyOf}
use Rattle.product_service.specs.Changing.{changes_told}
use Rattle.product_service.specs.Tables.{sums_at}
use Rattle.product_service.proofs.Rows.{rows_wanted}
use Rattle.product_service.proofs.answers.answer.Goals as goal

pub returns-in-Some-clause-made : goal.returns-in-Some-clause-made
returns-in-Some-clause-made c =
    on_ok_weaker c.make_change.result
    (λ made. made ∙ rows_wanted (sums_at c.args.copy.now) c.args.body.now c.in-Asked.request c.in-Asked.is c.in-Some.key c.in-Some.change c.in-Some.ensures)
    c.make_change.ensures.made

pub returns-in-Some-clause-copies : goal.returns-in-Some-clause-copies
returns-in-Some-clause-copies c =
    let Copies : List Sending → Type 0 = λ made. (changes : List ProductChange) → IsCopyOf c.args.copy.now changes → IsCopyOf c.make_change.new.copy (changes ++ changes_told made) in
    on_ok_weaker c.make_change.result
    (subst Copies (rows_wanted (sums_at c.args.copy.now) c.args.body.now c.in-Asked.request c.in-Asked.is c.in-Some.key c.in-Some.change c.in-Some.ensures))
    c.make_change.ensures.copies
