use Rattle.std.proofs.Common.{◌≡◌, None, drop}
use Rattle.std.specs.List.{flat_map}
use Rattle.market_rings.specs.NodeEnds.{events_taken, events_waiting}
use Rattle.market_turns.specs.Turns.{arrivals}
use Rattle.market_turns.proofs.Offers.{AreOffered}
use Rattle.market_turns.proofs.Slots.{changed_below}
use Rattle.market_turns.proofs.taking.take_events.Given as goal

-- what waited at the slots so far was popped and offered
abbrev pub invariant-loop-slot : goal.invariant-loop-slot
invariant-loop-slot g l =
    (l.ends ≡ record l.fn.ends { ins = changed_below events_taken None l.fn.ends.ins l.slot })
    × AreOffered g.C.Core.can_take (g.C.Core.state l.fn.core) (arrivals l.fn.ends) (g.C.Core.state l.core) (flat_map events_waiting (drop l.slot l.fn.ends.ins))
