-- Cells that are put one after the other, as entries by rising name, and what stands last at a name.
use Rattle.std.specs.Prelude.{◌≡◌, ℕ, true, is_some, List, Option, Some, None, map, filter_map, fold}
use Rattle.std.specs.Prelude.{if◌then◌else◌}
use Rattle.std.specs.FinMap.Entries as entries
use Rattle.market_events.specs.declared.cells.Cell.{Cell}
use Rattle.market_events.specs.declared.cells.CellName.{CellName}
use Rattle.market_events.specs.Cells.{name_cmp, with_value}
use Rattle.market_events.specs.Copies.{last_some}
use Rattle.market_events.specs.Standing.{same_name}

-- a later cell of the same name takes the place of an earlier one
abbrev pub put_cell : List (CellName × List ℕ) → Cell → List (CellName × List ℕ)
put_cell es c = entries.put name_cmp c.name c.value es

-- the cells, put one after the other
abbrev pub put_all : List (CellName × List ℕ) → List Cell → List (CellName × List ℕ)
put_all es cells = fold put_cell es cells

-- the cell, where there is one
abbrev pub put_some : List (CellName × List ℕ) → Option Cell → List (CellName × List ℕ)
put_some es None = es
put_some es (Some c) = put_cell es c

-- the cell of each of these, where it has one
abbrev pub put_each : {A : Type 0} → (A → Option Cell) → List (CellName × List ℕ) → List A
    → List (CellName × List ℕ)
put_each cell_of es xs = fold (λ es x. put_some es (cell_of x)) es xs

-- the entries as cells
abbrev pub entry_cells_of : List (CellName × List ℕ) → List Cell
entry_cells_of es = map (λ (e : CellName × List ℕ). record { name = e.0; value = e.1 }) es

-- the last value of the cells with this name
abbrev pub last_value : CellName → List Cell → Option (List ℕ)
last_value name cells = last_some (λ (c : Cell). if same_name name c.name then Some c.value else None) cells

-- the cell of a key, where the key has a text
abbrev pub key_cell : {K : Type 0} → (K → CellName) → (K → Option (List ℕ)) → K → Option Cell
key_cell name text k = with_value (name k).table (name k).key (text k)

-- the cells of these keys
abbrev pub cells_by : {K : Type 0} → (K → CellName) → (K → Option (List ℕ)) → List K → List Cell
cells_by name text keys = filter_map (key_cell name text) keys

-- each key that has a text is one of these
abbrev pub Within : {K : Type 0} → (K → Type 0) → (K → Option (List ℕ)) → Type 0
Within {K = K} IsSmall text = (k : K) → is_some (text k) ≡ true → IsSmall k
