-- The value at a name, by the table of orders.
use Rattle.std.proofs.Common.{◌≡◌, ℕ, true, false, List, [], Option, None, unwrap_or, sym, ◌∙◌, subst, ◌↔◌}
use Rattle.std.specs.Map.{keys_of}
use Rattle.market_amounts.specs.declared.keys.RequestId.{RequestId}
use Rattle.market_events.specs.declared.cells.CellName.{CellName}
use Rattle.market_events.specs.CellLists.{Within}
use Rattle.market_events.specs.Cells.{cells_of, order_cells}
use Rattle.market_events.specs.Copies.{last_some}
use Rattle.market_events.specs.Formed.{request_id_formed}
use Rattle.market_events.specs.Standing.{Stands, has_cell, value_of}
use Rattle.market_events.specs.Steps.{Step}
use Rattle.market_events.specs.WellFormed.{IsRequestId}
use Rattle.market_events.proofs.NamedCells.Named.{value_at}
use Rattle.market_events.proofs.NamedCells.Keyed.{IsFilled, at_name, at_none, last_filled, value_told, none_told}
use Rattle.order_service.specs.declared.tables.Order.{Order}
use Rattle.order_service.specs.Cells.{name_by, texts_in, table_cells}
use Rattle.order_service.specs.Tables.{order_at}
use Rattle.order_service.proofs.TableCells.{naming, text_filled, keys_all, small, small_formed, table_within, table_same}
use Rattle.order_service.specs.Holds.{Holds}
use Rattle.market_events.specs.declared.roles.Role.{Role}

-- what stands at a name, where the steps say what the table has
module _ (table : List (RequestId × Order)) (steps : List Step) (stands : Stands Role.Order Holds table steps)
    (name : CellName) (value : Option (List ℕ)) (found : Within IsRequestId (texts_in table) → value ≡ last_some (value_at name) (table_cells table)) (text : List ℕ) (is : text ≡ unwrap_or value []) where
  here : value ≡ last_some (value_at name) (order_cells steps)
  here = found (table_within table steps stands) ∙ table_same table steps stands name

  pub value_here : text ≡ value_of (cells_of Role.Order steps) name
  value_here = value_told Role.Order steps name value here text is

  pub none_here : (text ≡ []) ↔ (has_cell (cells_of Role.Order steps) name ≡ false)
  none_here =
      none_told Role.Order steps name value
      (subst IsFilled (sym (found (table_within table steps stands))) (last_filled name_by (texts_in table) (λ id. text_filled (order_at table id)) (keys_of table) name)) here text is

-- what is found at a name
pub found_at : (table : List (RequestId × Order)) (name : CellName) (id : RequestId) → request_id_formed id ≡ true → name ≡ name_by id
    → (value : Option (List ℕ)) → value ≡ texts_in table id → Within IsRequestId (texts_in table) → value ≡ last_some (value_at name) (table_cells table)
found_at table name id formed is value e within = e ∙ sym (at_name naming (texts_in table) within (keys_of table) (keys_all table) name id (small id formed) is)

pub found_none : (table : List (RequestId × Order)) (name : CellName) → ((id : RequestId) → request_id_formed id ≡ true → name ≡ name_by id → ⊥)
    → Within IsRequestId (texts_in table) → None ≡ last_some (value_at name) (table_cells table)
found_none table name other within = sym (at_none naming (texts_in table) within (keys_of table) name (λ id is. other id (small_formed id is)))
