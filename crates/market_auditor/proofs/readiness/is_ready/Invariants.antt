use Rattle.std.proofs.Common.{◌≡◌, ℕ, ◌<◌, true}
use Rattle.market_events.specs.Offers.{is_met}
use Rattle.market_auditor.proofs.readiness.is_ready.Given as goal

abbrev pub invariant-loop-number : goal.invariant-loop-number
invariant-loop-number l = (k : ℕ) → k < l.number → is_met l.node l.taken l.past k ≡ true
