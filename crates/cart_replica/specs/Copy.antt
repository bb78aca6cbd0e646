-- What the entries of a copy show of each product, and when they are the copy of a list of changes.
use Rattle.std.specs.Prelude.{◌≡◌, List, unwrap_or}
use Rattle.std.specs.BTreeMap.{is_at}
use Rattle.std.specs.Map.{lookup}
use Rattle.market_amounts.specs.declared.keys.ProductKey.{ProductKey}
use Rattle.market_events.specs.declared.changes.Look.{Look}
use Rattle.market_events.specs.declared.changes.Look.TheVariants.{Unknown}
use Rattle.market_events.specs.Copies.{ProductChange, copy_of}
use Rattle.market_events.specs.Steps.{key_cmp}

-- what the entries have at the key, Unknown where they have nothing
abbrev pub look_at : List (ProductKey × Look) → ProductKey → Look
look_at entries key = unwrap_or (lookup (is_at (key_cmp key)) entries) Unknown

-- at each key the entries show what the changes leave
abbrev pub IsCopyOf : List (ProductKey × Look) → List ProductChange → Type 0
IsCopyOf entries changes = (key : ProductKey) → look_at entries key ≡ copy_of changes key
