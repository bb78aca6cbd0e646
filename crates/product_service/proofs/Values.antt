-- The value at a name is that of the steps.
use Rattle.std.proofs.Common.{◌≡◌, ℕ, false, List, [], Option, unwrap_or, ◌↔◌, sym, subst}
use Rattle.market_amounts.specs.declared.keys.ProductKey.{ProductKey}
use Rattle.market_events.specs.declared.cells.CellName.{CellName}
use Rattle.market_events.specs.declared.changes.Look.{Look}
use Rattle.market_events.specs.CellLists.{last_value}
use Rattle.market_events.specs.Cells.{look_cells, cells_of}
use Rattle.market_events.specs.Copies.{ProductChange}
use Rattle.market_events.specs.Products.{changes_made}
use Rattle.market_events.specs.declared.roles.Role.{Role}
use Rattle.market_events.specs.Standing.{Stands, has_cell, value_of}
use Rattle.market_events.specs.Steps.{Step}
use Rattle.market_events.proofs.NamedCells.Keyed.{IsFilled, value_told, none_told}
use Rattle.cart_replica.specs.Copy.{IsCopyOf}
use Rattle.cart_replica.specs.CopyCells.{AreKeysFormed}
use Rattle.cart_replica.proofs.CopyCells.{look_cells-filled}
use Rattle.product_service.specs.Cells.{table_name}
use Rattle.product_service.specs.Holds.{Holds}
use Rattle.product_service.proofs.Changes.{changes_made-formed}

-- a value that is that of whichever changes the entries are the copy of
module _ (entries : List (ProductKey × Look)) (name : CellName) (value : Option (List ℕ))
    (copied : (changes : List ProductChange) → IsCopyOf entries changes → AreKeysFormed changes → value ≡ last_value name (look_cells table_name changes))
    (text : List ℕ) (is : text ≡ unwrap_or value []) (steps : List Step) (stands : Stands Role.Product Holds entries steps) where
  -- it is that of the changes that the steps made
  value_made : value ≡ last_value name (look_cells table_name (changes_made steps))
  value_made = copied (changes_made steps) stands.held.copies (changes_made-formed steps stands.run)

  -- so it is the value of the cell with the name
  pub value_is : text ≡ value_of (cells_of Role.Product steps) name
  value_is = value_told Role.Product steps name value value_made text is

  -- and it is empty only where there is none
  pub value_none : (text ≡ []) ↔ (has_cell (cells_of Role.Product steps) name ≡ false)
  value_none =
      none_told Role.Product steps name value (subst IsFilled (sym value_made) (look_cells-filled table_name (changes_made steps) name)) value_made text is
