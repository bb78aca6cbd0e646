-- The value at a name is that of the steps.
use Rattle.std.proofs.Common.{◌≡◌, Bool, true, false, List, [], ◌∷◌, map, filter_map, Option, Some, None, codes, if◌then◌else◌, refl, sym, subst, ◌∙◌}
use Rattle.std.specs.Fmt.{decimal}
use Rattle.std.specs.List.{join_with_byte}
use Rattle.std.specs.Map.{keys_of}
use Rattle.std.specs.Option.{option_or}
use Rattle.cart_replica.specs.CopyCells.{copy_table}
use Rattle.market_amounts.specs.declared.keys.ProductKey.{ProductKey}
use Rattle.market_amounts.specs.declared.keys.RequestId.{RequestId}
use Rattle.market_events.specs.declared.bodies.PricedLine.{PricedLine}
use Rattle.market_events.specs.declared.cells.CellName.{CellName}
use Rattle.market_events.specs.Carts.{changes_taken}
use Rattle.market_events.specs.CellLists.{Within, last_value}
use Rattle.market_events.specs.Cells.{all_cells, level_cell, held_cell, held_line, look_cells}
use Rattle.market_events.specs.Copies.{last_some}
use Rattle.market_events.specs.Formed.{key_formed, request_id_formed, lines_formed}
use Rattle.market_events.specs.declared.roles.Role.{Role}
use Rattle.market_events.specs.Services.{IsRunOf}
use Rattle.market_events.specs.Steps.{Step}
use Rattle.market_events.specs.Stocks.{reservations, on_hand, reserved}
use Rattle.market_events.specs.WellFormed.{IsKey, IsRequestId}
use Rattle.market_events.proofs.NamedCells.Named.{value_at}
use Rattle.market_events.proofs.Values.Formed.{key_decides, request_id_decides}
use Rattle.market_events.proofs.NamedCells.Keyed.{IsFilled, at_name, at_none, key_naming, id_naming, last_filled, or_filled, joined_filled}
use Rattle.cart_replica.proofs.CopyCells.{look_cells-filled}
use Rattle.stock_service.specs.declared.service.Stocks.{Stocks}
use Rattle.stock_service.specs.Amounts.{Amounts}
use Rattle.stock_service.specs.Cells.{level_name, held_name, pieces_text, lines_value, levels_in, held_in, level_cells, held_cells}
use Rattle.stock_service.specs.Holds.{Holds, was_stocked, lines_held}
use Rattle.stock_service.proofs.Formed.{held-formed}
use Rattle.stock_service.proofs.StepCells.{levels_by, held_by, level_cells-by, held_cells-by, keys_stocked, checkouts, stock_cells-parts}
use Rattle.stock_service.proofs.TableCells.{levels_in-all, held_in-all, level_cells-same, held_cells-same}

-- the value at a name, by what the name is
module _ (entries : List (ProductKey × Amounts)) (within : Within IsKey (levels_in entries)) (name : CellName) where
  pub level_at : (key : ProductKey) → key_formed key ≡ true → name ≡ level_name key → levels_in entries key ≡ last_value name (level_cells entries)
  level_at key formed is = sym (at_name (key_naming (codes "stock")) (levels_in entries) within (keys_of entries) (levels_in-all entries) name key ((key_decides key).0 formed) is)

  -- a name of no level has no value
  pub level_nowhere : ((key : ProductKey) → key_formed key ≡ true → name ≡ level_name key → ⊥) → None ≡ last_value name (level_cells entries)
  level_nowhere other = sym (at_none (key_naming (codes "stock")) (levels_in entries) within (keys_of entries) name (λ key small is. other key ((key_decides key).1 small) is))

module _ (entries : List (RequestId × List PricedLine)) (within : Within IsRequestId (held_in entries)) (name : CellName) where
  pub held_at : (id : RequestId) → request_id_formed id ≡ true → name ≡ held_name id → held_in entries id ≡ last_value name (held_cells entries)
  held_at id formed is = sym (at_name (id_naming (codes "held")) (held_in entries) within (keys_of entries) (held_in-all entries) name id ((request_id_decides id).0 formed) is)

  -- and one of no checkout neither
  pub held_nowhere : ((id : RequestId) → request_id_formed id ≡ true → name ≡ held_name id → ⊥) → None ≡ last_value name (held_cells entries)
  held_nowhere other = sym (at_none (id_naming (codes "held")) (held_in entries) within (keys_of entries) name (λ id small is. other id ((request_id_decides id).1 small) is))

-- what the tables show at a name is what the steps do
pub value_is : (stocks : Stocks) (steps : List Step) → IsRunOf Role.Stock steps → Holds stocks steps → (name : CellName) → option_or (last_value name (held_cells stocks.held)) (option_or (last_value name (level_cells stocks.levels)) (last_value name (look_cells copy_table (changes_taken steps))))
    ≡ last_value name (all_cells Role.Stock steps)
value_is stocks steps run kept name =
    (λ i. option_or (held_cells-same stocks steps run kept name i) (option_or (level_cells-same stocks steps run kept name i) (last_some (value_at name) (look_cells copy_table (changes_taken steps)))))
    ∙ sym (stock_cells-parts steps name)

-- no cell is empty
module _ (steps : List Step) (run : IsRunOf Role.Stock steps) where
  joined_lines : (lines : List PricedLine) → lines_formed lines ≡ true → IsFilled (Some (join_with_byte 59 (map held_line lines)))
  joined_lines [] formed = cc
  joined_lines (line ∷ []) formed = joined_filled 58 (decimal line.key.seller) (decimal line.key.product) (decimal line.quantity ∷ [])
  joined_lines (line ∷ other ∷ more) formed = joined_filled 59 (held_line line) (held_line other) (map held_line more)

  -- so the text of what a checkout holds is not empty
  held_filled : (id : RequestId) → IsFilled (held_by steps id)
  held_filled id = by (lines_held steps id) refl
    where
      by : (o : Option (List PricedLine)) → lines_held steps id ≡ o → IsFilled (lines_value o)
      by None is = tt
      by (Some lines) is = joined_lines lines (held-formed steps run id lines is).all

  -- nor is that of a level
  level_filled : (key : ProductKey) → IsFilled (levels_by steps key)
  level_filled key = by (was_stocked steps key)
    where
      by : (b : Bool) → IsFilled (if b then Some (pieces_text (on_hand steps key) (reserved steps key)) else None)
      by true = joined_filled 32 (decimal (on_hand steps key)) (decimal (reserved steps key)) []
      by false = tt

  -- so no cell of stock is
  pub all_filled : (name : CellName) → IsFilled (last_value name (all_cells Role.Stock steps))
  all_filled name =
      subst IsFilled (sym (stock_cells-parts steps name))
      (or_filled (last_some (value_at name) (filter_map (held_cell steps) (reservations steps)))
      (option_or (last_some (value_at name) (filter_map (level_cell steps) steps)) (last_some (value_at name) (look_cells copy_table (changes_taken steps))))
      (subst (λ cells. IsFilled (last_some (value_at name) cells)) (sym (held_cells-by steps run)) (last_filled held_name (held_by steps) held_filled (checkouts (reservations steps)) name))
      (or_filled (last_some (value_at name) (filter_map (level_cell steps) steps)) (last_some (value_at name) (look_cells copy_table (changes_taken steps)))
      (subst (λ cells. IsFilled (last_some (value_at name) cells)) (sym (level_cells-by steps)) (last_filled level_name (levels_by steps) level_filled (keys_stocked steps) name))
      (look_cells-filled copy_table (changes_taken steps) name)))
