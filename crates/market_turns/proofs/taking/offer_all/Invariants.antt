use Rattle.std.proofs.Common.{drop}
use Rattle.market_turns.proofs.Offers.{AreOffered}
use Rattle.market_turns.proofs.taking.offer_all.Given as goal

-- the events that are left may be offered
abbrev pub invariant-loop-event : goal.invariant-loop-event
invariant-loop-event g l = AreOffered g.C.Core.can_take (g.C.Core.state l.fn.core) l.events (g.C.Core.state l.core) (drop l.event-index l.events)
