-- Counts of events, one for each service link.
use Rattle.std.specs.Prelude.{◌≡◌, ℕ, ◌^◌, ◌<◌, List, length, slice_index, slice_set, max}
use Rattle.market_events.specs.declared.links.TheConstants.{SERVICE_LINKS}

-- there is a count for each service link, below 2^32
pub record AreCounts (counts : List ℕ) : Type 0 where
  pub each : length counts ≡ SERVICE_LINKS
  pub high : (k : ℕ) → k < SERVICE_LINKS → slice_index counts k < 2 ^ 32

-- the counts with one of them raised to at least this number
abbrev pub with_raised : List ℕ → ℕ → ℕ → List ℕ
with_raised counts link number = slice_set counts link (max (slice_index counts link) number)

-- each count is the greater of the two
abbrev pub IsMergeOf : List ℕ → List ℕ → List ℕ → Type 0
IsMergeOf new old other =
    (k : ℕ) → k < SERVICE_LINKS → slice_index new k ≡ max (slice_index old k) (slice_index other k)
