-- The cells of packages, by the table of all packages.
use Rattle.std.specs.Prelude.{ℕ, ◌-◌, ◌==◌, List, Option, None, option_map, codes, map, slice_get}
use Rattle.std.specs.Prelude.{if◌then◌else◌}
use Rattle.std.specs.List.{enumerate_from, range_with_len}
use Rattle.market_events.specs.declared.cells.Cell.{Cell}
use Rattle.market_events.specs.declared.cells.CellName.{CellName}
use Rattle.market_events.specs.CellNames.{number_name}
use Rattle.market_events.specs.Cells.{package_text}
use Rattle.shipment_service.specs.declared.package.Package.{Package}

abbrev pub name_by : ℕ → CellName
name_by number = number_name (codes "package") number

abbrev pub text_by : Package → List ℕ
text_by p = package_text p.item p.is_open

abbrev pub cell_by : ℕ × Package → Cell
cell_by p = record { name = name_by p.0; value = text_by p.1 }

abbrev pub table_cells : List Package → List Cell
table_cells packages = map cell_by (enumerate_from 1 packages)

-- the text of the package with the number
abbrev pub texts_in : List Package → ℕ → Option (List ℕ)
texts_in packages number = if number == 0 then None else option_map text_by (slice_get packages (number - 1))

-- the names of so many packages from this number on
abbrev pub names_from : ℕ → ℕ → List CellName
names_from number count = map name_by (range_with_len number count)
