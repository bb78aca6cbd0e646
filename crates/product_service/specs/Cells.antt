-- The cells of products, and the names that a body touches.
use Rattle.std.specs.Prelude.{ℕ, List, [], ◌∷◌, Option, Some, None, codes}
use Rattle.market_amounts.specs.declared.keys.ProductKey.{ProductKey}
use Rattle.market_events.specs.declared.bodies.Body.{Body}
use Rattle.market_events.specs.declared.cells.CellName.{CellName}
use Rattle.market_events.specs.CellNames.{key_name}
use Rattle.product_service.specs.Changing.{key_wanted}

-- the table of the products
abbrev pub table_name : List ℕ
table_name = codes "product"

-- the name of the cell of a product, where there is one
abbrev pub names_of : Option ProductKey → List CellName
names_of None = []
names_of (Some key) = key_name table_name key ∷ []

-- the names of the cells that a body touches
abbrev pub names_touched : Body → List CellName
names_touched b = names_of (key_wanted b)
