use Rattle.std.proofs.Common.{◌≡◌}
use Rattle.market_events.specs.Links.{IsLink, sender_of}
use Rattle.market_links.specs.Slots.{slot_from}
use Rattle.market_node.specs.Cores.{window_of}
use Rattle.market_rings.specs.Pushes.{fates_left}
use Rattle.market_rings.specs.RingEnds.{with_sent}
use Rattle.market_turns.proofs.Windows.{AreSentBelow}
use Rattle.market_turns.proofs.sending.send_windows.Given as goal

-- the windows at the slots so far were sent
abbrev pub invariant-loop-slot : goal.invariant-loop-slot
invariant-loop-slot g l =
    AreSentBelow (λ link. IsLink link × (sender_of link ≡ (g.C.Core.state l.core).node)) slot_from
    (λ link fates out. record out { events = with_sent out.events (window_of (g.C.Core.state l.core) link) fates })
    (λ link fates. fates_left (window_of (g.C.Core.state l.core) link) fates)
    l.fn.ends.outs l.fn.fates.carry l.ends.outs l.fates.carry l.slot
    × (l.ends.ins ≡ l.fn.ends.ins) × (l.fates.ack ≡ l.fn.fates.ack)
