use Rattle.std.proofs.Common.{◌-◌, ◌≤◌, length, drop, take, length-take, length-drop, ◌∙◌, arith}
use Rattle.market.proofs.Reading.Appended.{appends_more, take_part}
use Rattle.market.proofs.output.write_output.Goals as goal

pub loop-at-preserved : goal.loop-at-preserved
loop-at-preserved g c =
    let bytes = c.args.bytes.now in
    let at = c.loop-at.at in
    let within : c.in_ok-count.count ≤ length (take (length bytes - at) (drop at bytes)) = c.in_ok-count.ensures.within in
    let added = c.in_ok-count.ensures.appends in
    let moved = c.in_ok-count.ensures.moved (omega arith) in (
      omega (arith, length-take (length bytes - at) (drop at bytes), length-drop at bytes),
      rw (take_part bytes at c.in_ok-count.count) (appends_more _ _ _ _ _ c.loop-at.invariant.1 added),
      moved ∙ c.loop-at.invariant.2,
    )
