-- The cells of the customers, by their table.
use Rattle.std.specs.Prelude.{ℕ, Bool, ◌==◌, ◌&&◌, List, [], ◌∷◌, Option, Some, None, codes, if◌then◌else◌}
use Rattle.std.specs.Fmt.{decimal}
use Rattle.std.specs.Map.{keys_of}
use Rattle.market_events.specs.declared.cells.Cell.{Cell}
use Rattle.market_events.specs.declared.cells.CellName.{CellName}
use Rattle.market_events.specs.CellLists.{key_cell, cells_by}
use Rattle.market_events.specs.CellNames.{number_name}
use Rattle.market_events.specs.Texts.{spaced}
use Rattle.customer_service.specs.declared.tables.Tally.{Tally}
use Rattle.customer_service.specs.Tables.{tally_at}

abbrev pub is_nothing : Tally → Bool
is_nothing t = (t.confirmed == 0) && (t.failed == 0) && (t.delivered == 0)

abbrev pub tally_text : Tally → List ℕ
tally_text t = spaced (decimal t.confirmed ∷ decimal t.failed ∷ decimal t.delivered ∷ [])

abbrev pub name_by : ℕ → CellName
name_by customer = number_name (codes "customer") customer

-- the text of a customer of whom something was counted
abbrev pub text_by : Tally → Option (List ℕ)
text_by t = if is_nothing t then None else Some (tally_text t)

abbrev pub cell_by : ℕ → Tally → Option Cell
cell_by customer t = key_cell name_by (λ _. text_by t) customer

abbrev pub texts_in : List (ℕ × Tally) → ℕ → Option (List ℕ)
texts_in table customer = text_by (tally_at table customer)

abbrev pub table_cells : List (ℕ × Tally) → List Cell
table_cells table = cells_by name_by (texts_in table) (keys_of table)
