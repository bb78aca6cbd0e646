use Rattle.std.proofs.Common.{◌≡◌}
use Rattle.checkout_tests.specs.OrderExamples.{greatest_lines}
use Rattle.checkout_tests.proofs.order_tests.greatest.Given as goal

-- the lines so far
abbrev pub invariant-loop-product : goal.invariant-loop-product
invariant-loop-product l = l.lines.items ≡ greatest_lines l.product
