use Rattle.std.proofs.Common.{◌≡◌, ◌≤◌, ◌-◌, length, take}
use Rattle.market.specs.Output.{Appends}
use Rattle.market.proofs.output.write_output.Given as goal

abbrev pub invariant-loop-at : goal.invariant-loop-at
invariant-loop-at g l = (l.at ≤ length l.bytes)
    × Appends (g.K.Sink.written l.fn.output) (g.K.Sink.written l.output) (take l.at l.bytes)
    × (g.K.Sink.faults l.output ≡ g.K.Sink.faults l.fn.output)

abbrev pub decreases-loop-at : goal.decreases-loop-at
decreases-loop-at g l = length l.bytes - l.at
