-- How many entries there are.
use Rattle.std.specs.Prelude.{ℕ, List, length}
use Rattle.std.specs.List.{sum_by}
use Rattle.market_events.specs.declared.events.Entry.{Entry}
use Rattle.market_history.specs.Histories.{Histories}

-- the number of the entries of all journals
abbrev pub total_entries : Histories → ℕ
total_entries h = sum_by (λ (j : List Entry). length j) h
