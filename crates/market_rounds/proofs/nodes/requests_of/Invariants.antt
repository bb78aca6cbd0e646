-- The requests of the lane so far.
use Rattle.std.proofs.Common.{◌≡◌, take}
use Rattle.market_rounds.specs.Settling.{requests_of}
use Rattle.market_rounds.proofs.nodes.requests_of.Given as goal

abbrev pub invariant-loop-request : goal.invariant-loop-request
invariant-loop-request l = l.requests.items ≡ requests_of l.fn.lane (take l.request-index l.fn.given)
