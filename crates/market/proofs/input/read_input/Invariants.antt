use Rattle.std.proofs.Common.{◌≤◌, ◌<◌, ◌-◌, vec_len}
use Rattle.market.proofs.Reading.Taken.{HasTaken}
use Rattle.market.proofs.input.read_input.Given as goal

abbrev pub invariant-loop-input : goal.invariant-loop-input
invariant-loop-input g l = (0 < vec_len l.room) × (vec_len l.bytes ≤ 67_108_865)
    × HasTaken (g.S.Source.left l.fn.input) (g.S.Source.left l.input) (g.S.Source.taken l.fn.input) (g.S.Source.taken l.input)
    (g.S.Source.faults l.fn.input) (g.S.Source.faults l.input) l.bytes.items

abbrev pub decreases-loop-input : goal.decreases-loop-input
decreases-loop-input g l = 67_108_865 - vec_len l.bytes
