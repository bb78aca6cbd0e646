-- The value at a name, by the table.
use Rattle.std.proofs.Common.{◌≡◌, ℕ, false, List, [], Option, None, unwrap_or, sym, ◌∙◌, subst, ◌↔◌}
use Rattle.std.specs.Map.{keys_of}
use Rattle.market_events.specs.declared.cells.CellName.{CellName}
use Rattle.market_events.specs.CellLists.{Within}
use Rattle.market_events.specs.Cells.{cells_of, customer_cells}
use Rattle.market_events.specs.Copies.{last_some}
use Rattle.market_events.specs.declared.roles.Role.{Role}
use Rattle.market_events.specs.Standing.{Stands, has_cell, value_of}
use Rattle.market_events.specs.Steps.{Step}
use Rattle.market_events.specs.WellFormed.{IsId}
use Rattle.market_events.proofs.NamedCells.Named.{value_at}
use Rattle.market_events.proofs.NamedCells.Keyed.{IsFilled, at_name, at_none, last_filled, value_told, none_told}
use Rattle.customer_service.specs.declared.tables.Tally.{Tally}
use Rattle.customer_service.specs.Tables.{tally_at}
use Rattle.customer_service.specs.Cells.{name_by, texts_in, table_cells}
use Rattle.customer_service.specs.Holds.{Holds}
use Rattle.customer_service.proofs.TableCells.{table_within, table_same}
use Rattle.customer_service.proofs.Texts.{naming, text_filled, keys_all}

-- what stands at a name, where the steps say what the table has
module _ (table : List (ℕ × Tally)) (steps : List Step) (stands : Stands Role.Customer Holds table steps)
    (name : CellName) (value : Option (List ℕ)) (found : Within IsId (texts_in table) → value ≡ last_some (value_at name) (table_cells table)) (text : List ℕ) (is : text ≡ unwrap_or value []) where
  here : value ≡ last_some (value_at name) (customer_cells steps)
  here = found (table_within table steps stands) ∙ table_same table steps stands name

  pub value_here : text ≡ value_of (cells_of Role.Customer steps) name
  value_here = value_told Role.Customer steps name value here text is

  pub none_here : (text ≡ []) ↔ (has_cell (cells_of Role.Customer steps) name ≡ false)
  none_here =
      none_told Role.Customer steps name value
      (subst IsFilled (sym (found (table_within table steps stands))) (last_filled name_by (texts_in table) (λ c. text_filled (tally_at table c)) (keys_of table) name)) here text is

-- what is found at a name
pub found_at : (table : List (ℕ × Tally)) (name : CellName) (customer : ℕ) → IsId customer → name ≡ name_by customer
    → (value : Option (List ℕ)) → value ≡ texts_in table customer → Within IsId (texts_in table) → value ≡ last_some (value_at name) (table_cells table)
found_at table name customer small is value e within = e ∙ sym (at_name naming (texts_in table) within (keys_of table) (keys_all table) name customer small is)

pub found_none : (table : List (ℕ × Tally)) (name : CellName) → ((c : ℕ) → IsId c → name ≡ name_by c → ⊥)
    → Within IsId (texts_in table) → None ≡ last_some (value_at name) (table_cells table)
found_none table name other within = sym (at_none naming (texts_in table) within (keys_of table) name other)
