use Rattle.std.proofs.Common.{◌≡◌, ℕ, ◌^◌, ◌<◌, ◌≤◌, length, slice_index, max}
use Rattle.market_events.proofs.counts.Counts.merge.Given as goal

abbrev pub invariant-loop-i : goal.invariant-loop-i
invariant-loop-i l =
    (length l.self-inside.counts ≡ length l.initial.self-inside.counts)
    × ((k : ℕ) → k < l.i → slice_index l.self-inside.counts k ≡ max (slice_index l.initial.self-inside.counts k) (slice_index l.other-inside.counts k))
    × ((k : ℕ) → l.i ≤ k → slice_index l.self-inside.counts k ≡ slice_index l.initial.self-inside.counts k)
    × ((k : ℕ) → k < l.i → slice_index l.other-inside.counts k < 2 ^ 32)
