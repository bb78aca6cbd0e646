use Rattle.world_tests.specs.TestedNodes.{IsWithin}
use Rattle.world_tests.proofs.node_tests.fill.Given as goal

abbrev pub invariant-loop-number : goal.invariant-loop-number
invariant-loop-number g l = IsWithin l.number l.lane
