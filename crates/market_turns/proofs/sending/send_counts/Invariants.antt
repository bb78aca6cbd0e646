use Rattle.std.proofs.Common.{◌≡◌, map}
use Rattle.market_events.specs.Links.{IsLink, receiver_of}
use Rattle.market_links.specs.Slots.{slot_into}
use Rattle.market_rings.specs.Pushes.{fates_left}
use Rattle.market_rings.specs.RingEnds.{with_sent}
use Rattle.market_turns.specs.Turns.{counts_sent}
use Rattle.market_turns.specs.Sent.{events_in}
use Rattle.market_turns.proofs.Windows.{AreSentBelow}
use Rattle.market_turns.proofs.sending.send_counts.Given as goal

-- the counts at the slots so far were sent back
abbrev pub invariant-loop-slot : goal.invariant-loop-slot
invariant-loop-slot g l =
    AreSentBelow (λ link. IsLink link × (receiver_of link ≡ (g.C.Core.state l.core).node)) slot_into
    (λ link fates into. record into { counts = with_sent into.counts (counts_sent (g.C.Core.state l.core) link) fates })
    (λ link fates. fates_left (counts_sent (g.C.Core.state l.core) link) fates)
    l.fn.ends.ins l.fn.fates.ack l.ends.ins l.fates.ack l.slot
    × (l.ends.outs ≡ l.fn.ends.outs) × (l.fates.carry ≡ l.fn.fates.carry) × (map events_in l.ends.ins ≡ map events_in l.fn.ends.ins)
