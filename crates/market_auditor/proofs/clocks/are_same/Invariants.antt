-- The counts so far are the same.
use Rattle.std.proofs.Common.{◌≡◌, ℕ, ◌<◌, slice_index}
use Rattle.market_auditor.proofs.clocks.are_same.Given as goal

abbrev pub invariant-loop-link : goal.invariant-loop-link
invariant-loop-link l = (k : ℕ) → k < l.link → slice_index l.a k ≡ slice_index l.b k
