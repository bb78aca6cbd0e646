-- Counts that stand still at their end, and lists of calls that fail.
use Rattle.std.specs.Prelude.{ℕ, ◌+◌, ◌≤◌, ◌==◌, max, min, Bool, List}
use Rattle.std.specs.List.{list_any}

-- the last value of a count: it goes no further
abbrev pub count_end : ℕ
count_end = 18446744073709551615

-- the count after n more, which stands still at its end (a count is never above it)
abbrev pub raised_by : ℕ → ℕ → ℕ
raised_by count n = max count (min (count + n) count_end)

-- the count rose by one at least, or stands at its end
abbrev pub Rose : ℕ → ℕ → Type 0
Rose old new = raised_by old 1 ≤ new

-- whether a call with this number is in the list
abbrev pub is_listed : List ℕ → ℕ → Bool
is_listed calls number = list_any (λ call. call == number) calls
