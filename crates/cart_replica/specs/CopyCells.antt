-- The cells of a copy, by its entries.
use Rattle.std.specs.Prelude.{◌≡◌, ℕ, true, List, Option, codes}
use Rattle.std.specs.List.{list_all}
use Rattle.std.specs.Map.{keys_of}
use Rattle.market_amounts.specs.declared.keys.ProductKey.{ProductKey}
use Rattle.market_events.specs.declared.cells.Cell.{Cell}
use Rattle.market_events.specs.declared.changes.Look.{Look}
use Rattle.market_events.specs.Cells.{look_text}
use Rattle.market_events.specs.CellLists.{cells_by}
use Rattle.market_events.specs.CellNames.{key_name}
use Rattle.market_events.specs.Copies.{ProductChange}
use Rattle.market_events.specs.Formed.{key_formed}
use Rattle.cart_replica.specs.Copy.{look_at}

-- what the entries show of a product, as a text
abbrev pub text_in : List (ProductKey × Look) → ProductKey → Option (List ℕ)
text_in entries key = look_text (look_at entries key)

-- a cell of each product that has an entry
abbrev pub copy_cells : List ℕ → List (ProductKey × Look) → List Cell
copy_cells table entries = cells_by (key_name table) (text_in entries) (keys_of entries)

-- each change is of a well-formed key
abbrev pub AreKeysFormed : List ProductChange → Type 0
AreKeysFormed changes = list_all (λ (c : ProductChange). key_formed c.key) changes ≡ true

-- the table of the copy's cells
abbrev pub copy_table : List ℕ
copy_table = codes "copy"
