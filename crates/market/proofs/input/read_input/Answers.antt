use Rattle.std.proofs.Common.{◌<◌, vec_len, arith, rules}
use Rattle.market.proofs.Reading.Taken.{takes_none}
use Rattle.market.proofs.input.read_input.Goals as goal

pub loop-input-init : goal.loop-input-init
loop-input-init g c =
    let room : 0 < vec_len c.in_ok-room.room = search rules in
    rw c.new-bytes.ensures.items (
      room,
      omega arith,
      record { these = takes_none (g.S.Source.left c.args.input.now); taken = omega arith; faults = omega arith },
    )
