-- The cells of stock, by its tables, and the names that an input touches.
use Rattle.std.specs.Prelude.{ℕ, Bool, ◌||◌, List, [], ◌∷◌, Option, Some, None, map, codes}
use Rattle.std.specs.BTreeMap.{is_at}
use Rattle.std.specs.Fmt.{decimal}
use Rattle.std.specs.List.{join_with_byte, list_any}
use Rattle.std.specs.Map.{keys_of, lookup}
use Rattle.cart_replica.specs.CopyCells.{copy_table}
use Rattle.market_amounts.specs.declared.keys.ProductKey.{ProductKey}
use Rattle.market_amounts.specs.declared.keys.RequestId.{RequestId}
use Rattle.market_events.specs.declared.bodies.PricedLine.{PricedLine}
use Rattle.market_events.specs.declared.cells.Cell.{Cell}
use Rattle.market_events.specs.declared.cells.CellName.{CellName}
use Rattle.market_events.specs.declared.requests.Ask.{Ask}
use Rattle.market_events.specs.declared.requests.Ask.TheVariants as ask
use Rattle.market_events.specs.CellLists.{cells_by}
use Rattle.market_events.specs.CellNames.{key_name, id_name}
use Rattle.market_events.specs.Cells.{held_line}
use Rattle.market_events.specs.Standing.{same_name}
use Rattle.market_events.specs.Steps.{key_cmp}
use Rattle.market_events.specs.Texts.{spaced}
use Rattle.stock_service.specs.Amounts.{Amounts}
use Rattle.stock_service.specs.Tables.{lines_at}

-- the names of the cells of what is known of a product, of its level, and of what a checkout holds
abbrev pub copy_name : ProductKey → CellName
copy_name key = key_name copy_table key

-- the name of the cell of a level
abbrev pub level_name : ProductKey → CellName
level_name key = key_name (codes "stock") key

-- the name of the cell of what a checkout holds
abbrev pub held_name : RequestId → CellName
held_name id = id_name (codes "held") id

-- the pieces on hand and those reserved
abbrev pub pieces_text : ℕ → ℕ → List ℕ
pieces_text on_hand reserved = spaced (decimal on_hand ∷ decimal reserved ∷ [])

-- the text of a level, where there is one
abbrev pub level_value : Option Amounts → Option (List ℕ)
level_value None = None
level_value (Some amounts) = Some (pieces_text amounts.on_hand amounts.reserved)

-- the pieces that lines hold
abbrev pub lines_value : Option (List PricedLine) → Option (List ℕ)
lines_value None = None
lines_value (Some lines) = Some (join_with_byte 59 (map held_line lines))

-- the text that the levels have of a product
abbrev pub levels_in : List (ProductKey × Amounts) → ProductKey → Option (List ℕ)
levels_in entries key = level_value (lookup (is_at (key_cmp key)) entries)

-- the text of what a checkout holds
abbrev pub held_in : List (RequestId × List PricedLine) → RequestId → Option (List ℕ)
held_in entries id = lines_value (lines_at entries id)

-- the cells of the tables
abbrev pub level_cells : List (ProductKey × Amounts) → List Cell
level_cells entries = cells_by level_name (levels_in entries) (keys_of entries)

-- the cells of what is held
abbrev pub held_cells : List (RequestId × List PricedLine) → List Cell
held_cells entries = cells_by held_name (held_in entries) (keys_of entries)

-- the names of the cells that a request touches
abbrev pub asked_names : Ask → List CellName
asked_names (ask.Stock key pieces) = level_name key ∷ []
asked_names other = []

-- whether the name is that of what a checkout holds, or of the level of one of its lines
abbrev pub is_touched : RequestId → List PricedLine → CellName → Bool
is_touched checkout lines name =
    same_name name (held_name checkout)
    || list_any (λ (line : PricedLine). same_name name (level_name line.key)) lines
