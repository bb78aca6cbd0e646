-- The values of the cells, by the tables.
use Rattle.std.proofs.Common.{◌≡◌, ℕ, false, List, [], Option, None, unwrap_or, ap, sym, ◌∙◌, subst, ◌↔◌}
use Rattle.std.specs.Map.{keys_of}
use Rattle.market_events.specs.declared.cells.CellName.{CellName}
use Rattle.market_events.specs.CellLists.{Within}
use Rattle.market_events.specs.Cells.{cells_of, seller_cells}
use Rattle.market_events.specs.Copies.{last_some}
use Rattle.market_events.specs.Sellers.{SellerChange, seller_changes}
use Rattle.market_events.specs.declared.roles.Role.{Role}
use Rattle.market_events.specs.Services.{IsRunOf}
use Rattle.market_events.specs.Standing.{has_cell, value_of}
use Rattle.market_events.specs.Steps.{Step}
use Rattle.market_events.proofs.NamedCells.Named.{value_at}
use Rattle.market_events.proofs.NamedCells.Keyed.{IsFilled, at_name, at_none, last_filled, value_told, none_told}
use Rattle.seller_service.specs.declared.cells.Place.{Place}
use Rattle.seller_service.specs.Cells.{place_name, text_at, table_cells, IsSpelledPlace}
use Rattle.seller_service.specs.Tables.{changes_at}
use Rattle.seller_service.proofs.Places.{naming, places_in, cells-places, text_filled}
use Rattle.seller_service.proofs.TableCells.{table_within, table_same, all_in}

-- the value at a name, by what a table has there
module _ (table : List (ℕ × List SellerChange)) (steps : List Step) (run : IsRunOf Role.Seller steps) (same : (seller : ℕ) → changes_at table seller ≡ seller_changes steps seller)
    (name : CellName) (value : Option (List ℕ)) (found : Within IsSpelledPlace (text_at (changes_at table)) → value ≡ last_some (value_at name) (table_cells table)) (text : List ℕ) (is : text ≡ unwrap_or value []) where
  here : value ≡ last_some (value_at name) (seller_cells steps)
  here = found (table_within table steps run same) ∙ table_same table steps run same name

  pub value_here : text ≡ value_of (cells_of Role.Seller steps) name
  value_here = value_told Role.Seller steps name value here text is

  pub none_here : (text ≡ []) ↔ (has_cell (cells_of Role.Seller steps) name ≡ false)
  none_here =
      none_told Role.Seller steps name value
      (subst IsFilled (sym (found (table_within table steps run same) ∙ ap (last_some (value_at name)) (cells-places (changes_at table) (keys_of table))))
      (last_filled place_name (text_at (changes_at table)) (text_filled (changes_at table)) (places_in (changes_at table) (keys_of table)) name)) here text is

-- what is found at a name
pub found_at : (table : List (ℕ × List SellerChange)) (name : CellName) (p : Place) → IsSpelledPlace p → name ≡ place_name p
    → (value : Option (List ℕ)) → value ≡ text_at (changes_at table) p → Within IsSpelledPlace (text_at (changes_at table)) → value ≡ last_some (value_at name) (table_cells table)
found_at table name p small is value e within =
    e ∙ sym (at_name naming (text_at (changes_at table)) within (places_in (changes_at table) (keys_of table)) (all_in table) name p small is)
    ∙ sym (ap (last_some (value_at name)) (cells-places (changes_at table) (keys_of table)))

pub found_none : (table : List (ℕ × List SellerChange)) (name : CellName) → ((p : Place) → IsSpelledPlace p → name ≡ place_name p → ⊥)
    → Within IsSpelledPlace (text_at (changes_at table)) → None ≡ last_some (value_at name) (table_cells table)
found_none table name other within =
    sym (at_none naming (text_at (changes_at table)) within (places_in (changes_at table) (keys_of table)) name other)
    ∙ sym (ap (last_some (value_at name)) (cells-places (changes_at table) (keys_of table)))
