-- The cells of the table are those of the steps.
use Rattle.std.proofs.Common.{◌≡◌, List, [], refl}
use Rattle.market_amounts.specs.declared.keys.ProductKey.{ProductKey}
use Rattle.market_events.specs.declared.changes.Look.{Look}
use Rattle.market_events.specs.CellLists.{put_all, entry_cells_of}
use Rattle.market_events.specs.Cells.{cells_of}
use Rattle.market_events.specs.Products.{changes_made}
use Rattle.market_events.specs.declared.roles.Role.{Role}
use Rattle.market_events.specs.Standing.{Stands}
use Rattle.market_events.specs.Steps.{Step}
use Rattle.market_events.proofs.NamedCells.Keyed.{entries_told}
use Rattle.cart_replica.specs.CopyCells.{copy_cells}
use Rattle.cart_replica.proofs.CopyCells.{copy_cells-same}
use Rattle.product_service.specs.Cells.{table_name}
use Rattle.product_service.specs.Holds.{Holds}
use Rattle.product_service.proofs.Changes.{changes_made-formed}

-- the cells of the entries, put one after the other, are all that is told of the steps
pub cells_told : (entries : List (ProductKey × Look)) (steps : List Step) → Stands Role.Product Holds entries steps
    → entry_cells_of (put_all [] (copy_cells table_name entries)) ≡ cells_of Role.Product steps
cells_told entries steps stands =
    entries_told Role.Product steps (put_all [] (copy_cells table_name entries)) (copy_cells table_name entries) refl
    (copy_cells-same table_name entries (changes_made steps) stands.held.copies (changes_made-formed steps stands.run))
