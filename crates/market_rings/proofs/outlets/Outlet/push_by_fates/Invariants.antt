use Rattle.std.proofs.Common.{drop}
use Rattle.market_rings.proofs.Sending.{AreMetSoFar}
use Rattle.market_rings.proofs.outlets.Outlet.push_by_fates.Given as goal

abbrev pub invariant-loop-packet : goal.invariant-loop-packet
invariant-loop-packet g l = AreMetSoFar l.fn.self l.packets l.fn.fates l.self (drop l.packet-index l.packets) l.fates
