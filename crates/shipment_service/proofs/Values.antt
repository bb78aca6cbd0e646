-- The values of the cells of packages, by the table of all packages.
use Rattle.std.proofs.Common.{◌≡◌, ℕ, ◌<◌, ◌^◌, false, List, [], length, Option, None, unwrap_or, ap, sym, ◌∙◌, subst, ◌↔◌}
use Rattle.std.specs.List.{range_with_len}
use Rattle.market_events.specs.declared.cells.CellName.{CellName}
use Rattle.market_events.specs.Cells.{cells_of, shipment_cells}
use Rattle.market_events.specs.Copies.{last_some}
use Rattle.market_events.specs.declared.roles.Role.{Role}
use Rattle.market_events.specs.Standing.{has_cell, value_of}
use Rattle.market_events.specs.Steps.{Step}
use Rattle.market_events.specs.WellFormed.{IsId}
use Rattle.market_events.proofs.NamedCells.Named.{value_at}
use Rattle.market_events.proofs.NamedCells.Keyed.{IsFilled, at_name, at_none, last_filled, value_told, none_told}
use Rattle.shipment_service.specs.declared.package.Package.{Package}
use Rattle.shipment_service.specs.Cells.{name_by, table_cells, texts_in}
use Rattle.shipment_service.specs.Holds.{packages_by}
use Rattle.shipment_service.proofs.TableCells.{naming, table-cells, text-filled, texts-small, texts-all, cells-same}

-- what stands at a name, in a table that is not too long
module _ (ps : List Package) (small : length ps < 2 ^ 32) where
  pub found-at : (name : CellName) (n : ℕ) → IsId n → name ≡ name_by n → (value : Option (List ℕ)) → value ≡ texts_in ps n → value ≡ last_some (value_at name) (table_cells ps)
  found-at name n low is value e =
      e ∙ sym (ap (last_some (value_at name)) (table-cells ps) ∙ at_name naming (texts_in ps) (texts-small ps small) (range_with_len 1 (length ps)) (texts-all ps small) name n low is)

  pub found-none : (name : CellName) → ((n : ℕ) → IsId n → name ≡ name_by n → ⊥) → None ≡ last_some (value_at name) (table_cells ps)
  found-none name other =
      sym (ap (last_some (value_at name)) (table-cells ps) ∙ at_none naming (texts_in ps) (texts-small ps small) (range_with_len 1 (length ps)) name other)

  found-filled : (name : CellName) → IsFilled (last_some (value_at name) (table_cells ps))
  found-filled name = subst (λ cells. IsFilled (last_some (value_at name) cells)) (sym (table-cells ps)) (last_filled name_by (texts_in ps) (text-filled ps) (range_with_len 1 (length ps)) name)

  -- and what the service has there
  module _ (steps : List Step) (is : ps ≡ packages_by steps) (name : CellName) (value : Option (List ℕ)) (found : value ≡ last_some (value_at name) (table_cells ps)) (text : List ℕ) (e : text ≡ unwrap_or value []) where
    here : value ≡ last_some (value_at name) (shipment_cells steps)
    here = found ∙ ap (last_some (value_at name)) (cells-same ps small steps is)

    pub value-here : text ≡ value_of (cells_of Role.Shipment steps) name
    value-here = value_told Role.Shipment steps name value here text e

    pub none-here : (text ≡ []) ↔ (has_cell (cells_of Role.Shipment steps) name ≡ false)
    none-here = none_told Role.Shipment steps name value (subst IsFilled (sym found) (found-filled name)) here text e
