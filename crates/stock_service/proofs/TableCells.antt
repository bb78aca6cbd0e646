-- The cells of the tables are those of the steps.
use Rattle.std.proofs.Common.{◌≡◌, Bool, true, List, [], ◌++◌, filter_map, Option, Some, None, is_some, unwrap_or, codes, if◌then◌else◌, refl, ap, sym, ◌∙◌}
use Rattle.std.specs.BTreeMap.{is_at}
use Rattle.std.specs.List.{list_any}
use Rattle.std.specs.Map.{keys_of, lookup}
use Rattle.std.specs.Option.{option_or}
use Rattle.std.proofs.lemmas.Map.Made.{is_some-lookup}
use Rattle.market_amounts.specs.declared.keys.ProductKey.{ProductKey}
use Rattle.market_amounts.specs.declared.keys.RequestId.{RequestId}
use Rattle.market_events.specs.declared.bodies.PricedLine.{PricedLine}
use Rattle.market_events.specs.declared.cells.CellName.{CellName}
use Rattle.market_events.specs.Carts.{changes_taken}
use Rattle.market_events.specs.CellLists.{Within, put_all, entry_cells_of}
use Rattle.market_events.specs.Cells.{cells_of, level_cell, held_cell, stock_cells}
use Rattle.market_events.specs.Copies.{last_some}
use Rattle.market_events.specs.Requests.{same_key, same_id}
use Rattle.market_events.specs.declared.roles.Role.{Role}
use Rattle.market_events.specs.Services.{IsRunOf}
use Rattle.market_events.specs.Steps.{Step, key_cmp, id_cmp}
use Rattle.market_events.specs.Stocks.{reservations, on_hand, reserved}
use Rattle.market_events.specs.WellFormed.{IsKey, IsRequestId}
use Rattle.market_events.proofs.NamedCells.Named.{value_at}
use Rattle.market_events.proofs.NamedCells.Keyed.{HasAll, alike, key_naming, id_naming, last_some-append, entries_told}
use Rattle.market_events.proofs.Values.Keys.{eq_by_key_cmp, eq_by_id_cmp}
use Rattle.cart_replica.specs.CopyCells.{copy_cells, copy_table}
use Rattle.cart_replica.proofs.CopyCells.{copy_cells-same, changes_taken-keys}
use Rattle.stock_service.specs.declared.service.Stocks.{Stocks}
use Rattle.stock_service.specs.Amounts.{Amounts, no_pieces}
use Rattle.stock_service.specs.Cells.{pieces_text, level_value, lines_value, levels_in, held_in, level_cells, held_cells}
use Rattle.stock_service.specs.Holds.{Holds, amounts_by, was_stocked}
use Rattle.stock_service.proofs.StepCells.{levels_by, held_by, level_cells-by, held_cells-by, keys_stocked, checkouts, levels-all, levels-within, held-all, held-within, stock_cells-parts}

-- the levels have an entry of each product that has a text
pub levels_in-all : (entries : List (ProductKey × Amounts)) → HasAll same_key (levels_in entries) (keys_of entries)
levels_in-all entries key some =
    ap (λ (test : ProductKey → Bool). list_any test (keys_of entries)) (λ i k. sym (eq_by_key_cmp key k) i)
    ∙ sym (is_some-lookup (is_at (key_cmp key)) entries) ∙ there (lookup (is_at (key_cmp key)) entries) some
  where
    there : (o : Option Amounts) → is_some (level_value o) ≡ true → is_some o ≡ true
    there None some = some
    there (Some level) some = refl

-- and the lines that are held one of each checkout
pub held_in-all : (entries : List (RequestId × List PricedLine)) → HasAll same_id (held_in entries) (keys_of entries)
held_in-all entries id some =
    ap (λ (test : RequestId → Bool). list_any test (keys_of entries)) (λ i k. sym (eq_by_id_cmp id k) i)
    ∙ sym (is_some-lookup (is_at (id_cmp id)) entries) ∙ there (lookup (is_at (id_cmp id)) entries) some
  where
    there : (o : Option (List PricedLine)) → is_some (lines_value o) ≡ true → is_some o ≡ true
    there None some = some
    there (Some lines) some = refl

-- the tables show what the steps say
module _ (stocks : Stocks) (steps : List Step) (run : IsRunOf Role.Stock steps) (kept : Holds stocks steps) where
  -- the levels have the texts of the steps
  pub level-text : (key : ProductKey) → levels_in stocks.levels key ≡ levels_by steps key
  level-text key = by (lookup (is_at (key_cmp key)) stocks.levels) (kept.each key) (kept.there key)
    where
      by : (o : Option Amounts) → unwrap_or o no_pieces ≡ amounts_by steps key → is_some o ≡ was_stocked steps key → level_value o ≡ levels_by steps key
      by None each there = ap (λ b. if b then Some (pieces_text (on_hand steps key) (reserved steps key)) else None) there
      by (Some level) each there =
          (λ i. Some (pieces_text (each i).on_hand (each i).reserved)) ∙ ap (λ b. if b then Some (pieces_text (on_hand steps key) (reserved steps key)) else None) there

  -- the lines that are held have the texts of the steps
  pub held-text : (id : RequestId) → held_in stocks.held id ≡ held_by steps id
  held-text id = ap lines_value (kept.lines id)

  -- the levels are of well-formed keys
  pub levels_in-within : Within IsKey (levels_in stocks.levels)
  levels_in-within key some = levels-within steps run key (ap is_some (sym (level-text key)) ∙ some)

  -- and what is held is of well-formed checkouts
  pub held_in-within : Within IsRequestId (held_in stocks.held)
  held_in-within id some = held-within steps run id (ap is_some (sym (held-text id)) ∙ some)

  -- the cells of the levels are those of the steps
  pub level_cells-same : (name : CellName) → last_some (value_at name) (level_cells stocks.levels) ≡ last_some (value_at name) (filter_map (level_cell steps) steps)
  level_cells-same name =
      alike (key_naming (codes "stock")) (levels_in stocks.levels) (levels_by steps) levels_in-within (levels-within steps run) (keys_of stocks.levels) (keys_stocked steps)
      (levels_in-all stocks.levels) (levels-all steps) name (λ key small is. level-text key)
      ∙ sym (ap (last_some (value_at name)) (level_cells-by steps))

  -- and so are those of what is held
  pub held_cells-same : (name : CellName) → last_some (value_at name) (held_cells stocks.held) ≡ last_some (value_at name) (filter_map (held_cell steps) (reservations steps))
  held_cells-same name =
      alike (id_naming (codes "held")) (held_in stocks.held) (held_by steps) held_in-within (held-within steps run) (keys_of stocks.held) (checkouts (reservations steps))
      (held_in-all stocks.held) (held-all steps) name (λ id small is. held-text id)
      ∙ sym (ap (last_some (value_at name)) (held_cells-by steps run))

  -- the three tables, one behind the other
  pub table_cells-same : (name : CellName) → last_some (value_at name) (copy_cells copy_table stocks.copy ++ level_cells stocks.levels ++ held_cells stocks.held) ≡ last_some (value_at name) (stock_cells steps)
  table_cells-same name =
      last_some-append (value_at name) (copy_cells copy_table stocks.copy ++ level_cells stocks.levels) (held_cells stocks.held)
      ∙ ap (option_or (last_some (value_at name) (held_cells stocks.held))) (last_some-append (value_at name) (copy_cells copy_table stocks.copy) (level_cells stocks.levels))
      ∙ (λ i. option_or (held_cells-same name i) (option_or (level_cells-same name i) (copy_cells-same copy_table stocks.copy (changes_taken steps) kept.copied (changes_taken-keys Role.Stock steps run) name i)))
      ∙ sym (stock_cells-parts steps name)

  -- so what is told of them is what is told of the steps
  pub cells_told : entry_cells_of (put_all [] (copy_cells copy_table stocks.copy ++ level_cells stocks.levels ++ held_cells stocks.held)) ≡ cells_of Role.Stock steps
  cells_told = entries_told Role.Stock steps (put_all [] (copy_cells copy_table stocks.copy ++ level_cells stocks.levels ++ held_cells stocks.held)) (copy_cells copy_table stocks.copy ++ level_cells stocks.levels ++ held_cells stocks.held) refl table_cells-same
