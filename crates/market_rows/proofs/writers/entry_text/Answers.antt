use Rattle.std.proofs.Common.{◌≡◌, ◌∷◌, ◌++◌, codes, IfOk, string_bytes, ap, sym, subst, ◌∙◌}
use Rattle.std.specs.Fmt.{decimal}
use Rattle.std.specs.List.{join_with_byte}
use Rattle.market_rows.specs.Rows.{what_fields, answer_text, text_of_row}
use Rattle.market_rows.proofs.Heads.{head_text, head_answered}
use Rattle.market_rows.proofs.writers.entry_text.Goals as goal

pub returns-in_ok-head-in-Answered : goal.returns-in_ok-head-in-Answered
returns-in_ok-head-in-Answered c =
    let n = decimal c.args.node in
    let p = decimal c.args.place in
    let t = decimal c.args.entry.now.clock in
    let answer = answer_text c.in-Answered.id c.in-Answered.reply in
    let head : string_bytes c.in_ok-head-in-Answered.field-0 ≡ head_text n p t (codes "answered,,,,") = c.in_ok-head-in-Answered.ensures in
    let row = ap (λ w. join_with_byte 44 (n ∷ p ∷ t ∷ what_fields w)) c.in-Answered.is in
    let whole : string_bytes c.in_ok-head-in-Answered.field-0 ++ answer ≡ text_of_row c.args.node c.args.place c.args.entry.now =
    ap (λ h. h ++ answer) head ∙ head_answered n p t answer ∙ sym row in
    subst (λ r. IfOk c.answered_row.result (λ text. text.items ≡ r)) whole c.answered_row.ensures
