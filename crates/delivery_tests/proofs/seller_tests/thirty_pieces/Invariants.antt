use Rattle.std.proofs.Common.{◌≡◌}
use Rattle.market_events.specs.ExamplesSeller.{lines_of_8}
use Rattle.delivery_tests.proofs.seller_tests.thirty_pieces.Given as goal

abbrev pub invariant-loop-index : goal.invariant-loop-index
invariant-loop-index l = l.lines.items ≡ lines_of_8 l.index
