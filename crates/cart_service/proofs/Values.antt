-- The value at a name is that of the steps.
use Rattle.std.proofs.Common.{◌≡◌, ℕ, ◌<◌, ◌^◌, true, List, [], Option, Some, None, is_some, ap, sym, subst, ◌∙◌, arith}
use Rattle.std.specs.Fmt.{decimal}
use Rattle.std.specs.Option.{option_or}
use Rattle.cart_replica.specs.CopyCells.{copy_table}
use Rattle.cart_service.specs.Tables.{CartTables}
use Rattle.market_amounts.specs.declared.keys.ProductKey.{ProductKey}
use Rattle.market_events.specs.declared.cells.CellName.{CellName}
use Rattle.market_events.specs.declared.roles.Role.{Role}
use Rattle.market_events.specs.Carts.{Held, changes_taken, basket_at}
use Rattle.market_events.specs.CellLists.{cells_by, last_value}
use Rattle.market_events.specs.CellNames.{basket_name}
use Rattle.market_events.specs.Cells.{all_cells, look_cells, held_text}
use Rattle.market_events.specs.Copies.{last_some}
use Rattle.market_events.specs.Formed.{key_formed}
use Rattle.market_events.specs.Standing.{Stands}
use Rattle.market_events.specs.Steps.{Step}
use Rattle.market_events.proofs.NamedCells.Named.{value_at}
use Rattle.market_events.proofs.Values.Formed.{key_decides}
use Rattle.market_events.proofs.NamedCells.Keyed.{basket_naming, at_key, at_none, IsFilled, or_filled, joined_filled, last_filled}
use Rattle.cart_replica.proofs.CopyCells.{look_cells-filled}
use Rattle.cart_service.specs.Cells.{basket_table, basket_cells, AreSmall, basket_text_in}
use Rattle.cart_service.specs.Holds.{Holds}
use Rattle.cart_service.proofs.TableCells.{text_by, lines_asked, basket_cell-by, line_keys, baskets_all, basket_cells-by, basket_cells-same, text_in-by, steps_within, line_cells, cart_cells-parts}

-- the value at a name, by what the name is
module _ (baskets : List (ℕ × List (ProductKey × Held))) (small : AreSmall baskets) (name : CellName) where
  pub line_at : (line : ℕ × ProductKey) → line.0 < 2 ^ 32 → key_formed line.1 ≡ true → name ≡ basket_name basket_table line → basket_text_in baskets line ≡ last_value name (basket_cells baskets)
  line_at line few formed is =
      sym (ap (last_some (value_at name)) (basket_cells-by baskets)
      ∙ ap (λ n. last_some (value_at n) (cells_by (basket_name basket_table) (basket_text_in baskets) (line_keys baskets))) is
      ∙ at_key (basket_naming basket_table) (basket_text_in baskets) small (line_keys baskets) (baskets_all baskets) line (omega arith, (key_decides line.1).0 formed))

  -- a name of no line has no value
  pub line_nowhere : ((line : ℕ × ProductKey) → line.0 < 2 ^ 32 → key_formed line.1 ≡ true → name ≡ basket_name basket_table line → ⊥) → None ≡ last_value name (basket_cells baskets)
  line_nowhere other =
      sym (ap (last_some (value_at name)) (basket_cells-by baskets)
      ∙ at_none (basket_naming basket_table) (basket_text_in baskets) small (line_keys baskets) name
      (λ line ok is. other line (omega (arith, ok.0)) ((key_decides line.1).1 ok.1) is))

-- the baskets have lines of well-formed customers and products alone
pub are_small : (kept : CartTables) (steps : List Step) → Stands Role.Cart Holds kept steps → AreSmall kept.baskets
are_small kept steps stands line some = steps_within steps stands.run line (ap is_some (sym (text_in-by kept.baskets steps stands.held.lines line)) ∙ some)

-- what the tables show at a name is what the steps do
pub value_is : (kept : CartTables) (steps : List Step) → Stands Role.Cart Holds kept steps → (name : CellName)
    → option_or (last_value name (basket_cells kept.baskets)) (last_value name (look_cells copy_table (changes_taken steps))) ≡ last_value name (all_cells Role.Cart steps)
value_is kept steps stands name =
    ap (λ o. option_or o (last_value name (look_cells copy_table (changes_taken steps)))) (basket_cells-same kept.baskets steps stands.run stands.held.lines name)
    ∙ sym (cart_cells-parts steps name)

-- the text of a line is not empty
held_filled : (held : Option Held) → IsFilled (held_text held)
held_filled None = tt
held_filled (Some held) = joined_filled 32 (decimal held.quantity) (decimal held.voucher) []

-- no cell is empty
pub all_filled : (steps : List Step) (name : CellName) → IsFilled (last_value name (all_cells Role.Cart steps))
all_filled steps name =
    subst IsFilled (sym (cart_cells-parts steps name))
    (or_filled (last_some (value_at name) (line_cells steps)) (last_some (value_at name) (look_cells copy_table (changes_taken steps)))
    (subst (λ cells. IsFilled (last_some (value_at name) cells)) (sym (basket_cell-by steps))
    (last_filled (basket_name basket_table) (text_by steps) (λ line. held_filled (basket_at steps line.0 line.1)) (lines_asked steps) name))
    (look_cells-filled copy_table (changes_taken steps) name))
