use Rattle.std.proofs.Common.{rules, ◌≡◌, true, false, cond, Some, None, ap, sym, ◌∙◌, arith}
use Rattle.std.proofs.lemmas.Bool.Decides.{nat_tests}
use Rattle.customer_service.specs.Cells.{is_nothing, tally_text}
use Rattle.customer_service.proofs.cells.text_of.Goals as goal

pub returns-then-eq : goal.returns-then-eq
returns-then-eq c =
    let test = c.eq.ensures in
    let gone : is_nothing c.args.tally ≡ true = grind (arith, nat_tests) in
    sym (ap (λ b. cond b None (Some (tally_text c.args.tally))) gone)

pub returns : goal.returns
returns c =
    let test = c.eq.ensures in
    let some : is_nothing c.args.tally ≡ false = grind (arith, nat_tests) in
    let text : c.from_vec.result ≡ tally_text c.args.tally = search rules in
    ap Some text ∙ sym (ap (λ b. cond b None (Some (tally_text c.args.tally))) some)
