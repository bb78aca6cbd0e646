use Rattle.std.proofs.Common.{arith, sym, ◌∙◌, ◌<◌, length}
use Rattle.std.proofs.lemmas.Bool.Decides.{nat_tests}
use Rattle.market_amounts.proofs.Spelling.{written_some, written_digits, written_read, read_spelled}
use Rattle.market_amounts.proofs.numbers.read_wide_number.Goals as goal

pub returns-then-is_empty-clause-reads : goal.returns-then-is_empty-clause-reads
returns-then-is_empty-clause-reads c n e within =
    let some = written_some c.args.text.now c.args.limit n (omega arith) e within in absurd (grind (arith, nat_tests))

pub returns-in-Some-clause-reads : goal.returns-in-Some-clause-reads
returns-in-Some-clause-reads c n e within =
    let none = written_digits c.args.text.now c.args.limit n (omega arith) e within in cc

pub returns-in-None-clause-spelled : goal.returns-in-None-clause-spelled
returns-in-None-clause-spelled c =
    let none = sym c.first_other.ensures ∙ c.in-None.is in
    let some : 0 < length c.args.text.now = grind (arith, nat_tests) in
    rw c.number_in.ensures (read_spelled c.args.text.now c.args.limit (omega arith) none some)

pub returns-in-None-clause-reads : goal.returns-in-None-clause-reads
returns-in-None-clause-reads c n e within =
    c.number_in.ensures ∙ written_read c.args.text.now c.args.limit n (omega arith) e within
