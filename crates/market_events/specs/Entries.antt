-- Tables with numbers for keys: what their entries have at a number.
use Rattle.std.specs.Prelude.{ℕ, List, Option}
use Rattle.std.specs.BTreeMap.{is_at}
use Rattle.std.specs.Map.{lookup}
use Rattle.std.specs.Ordering.{nat_cmp}

-- what the entries have at the number
abbrev pub entry_at : {X : Type 0} → List (ℕ × X) → ℕ → Option X
entry_at entries n = lookup (is_at (nat_cmp n)) entries
