-- The cells of the cart, by its tables, and the names that an input touches.
use Rattle.std.specs.Prelude.{ℕ, List, [], ◌∷◌, Option, map, codes}
use Rattle.std.specs.BTreeMap.{is_at}
use Rattle.std.specs.List.{flat_map}
use Rattle.std.specs.Map.{keys_of, lookup}
use Rattle.cart_replica.specs.CopyCells.{copy_table}
use Rattle.market_amounts.specs.declared.keys.ProductKey.{ProductKey}
use Rattle.market_events.specs.declared.bodies.Body.{Body}
use Rattle.market_events.specs.declared.bodies.Body.TheVariants as body
use Rattle.market_events.specs.declared.cells.Cell.{Cell}
use Rattle.market_events.specs.declared.cells.CellName.{CellName}
use Rattle.market_events.specs.declared.requests.Ask.{Ask}
use Rattle.market_events.specs.declared.requests.Ask.TheVariants as ask
use Rattle.market_events.specs.Carts.{Held}
use Rattle.market_events.specs.CellLists.{cells_by, Within}
use Rattle.market_events.specs.CellNames.{basket_name, key_name}
use Rattle.market_events.specs.Cells.{held_text}
use Rattle.market_events.specs.Steps.{key_cmp}
use Rattle.market_events.specs.WellFormed.{IsId, IsKey}
use Rattle.cart_service.specs.Tables.{lines_at}

-- the table of the lines
abbrev pub basket_table : List ℕ
basket_table = codes "basket"

-- what the lines have of a product
abbrev pub line_held : List (ProductKey × Held) → ProductKey → Option Held
line_held lines key = lookup (is_at (key_cmp key)) lines

-- the text of a line, by the lines of its customer
abbrev pub held_line_text : List (ProductKey × Held) → ℕ × ProductKey → Option (List ℕ)
held_line_text lines line = held_text (line_held lines line.1)

-- the same, by all baskets
abbrev pub basket_text_in : List (ℕ × List (ProductKey × Held)) → ℕ × ProductKey → Option (List ℕ)
basket_text_in baskets line = held_line_text (lines_at baskets line.0) line

-- the customer with each product of the lines
abbrev pub keys_in : ℕ → List (ProductKey × Held) → List (ℕ × ProductKey)
keys_in customer lines = map (λ key. (customer, key)) (keys_of lines)

-- the cells of a customer's lines
abbrev pub lines_cells : ℕ → List (ProductKey × Held) → List Cell
lines_cells customer lines =
    cells_by (basket_name basket_table) (held_line_text lines) (keys_in customer lines)

-- and of all baskets
abbrev pub basket_cells : List (ℕ × List (ProductKey × Held)) → List Cell
basket_cells baskets =
    flat_map (λ customer. lines_cells customer (lines_at baskets customer)) (keys_of baskets)

-- the names of the cells of a customer's lines
abbrev pub names_in : ℕ → List (ProductKey × Held) → List CellName
names_in customer lines = map (basket_name basket_table) (keys_in customer lines)

-- each line that has a text is of a well-formed customer and product
abbrev pub AreSmall : List (ℕ × List (ProductKey × Held)) → Type 0
AreSmall baskets = Within (λ (line : ℕ × ProductKey). IsId line.0 × IsKey line.1) (basket_text_in baskets)

-- the names of the cells that a request may change
abbrev pub asked_names : List (ℕ × List (ProductKey × Held)) → Ask → List CellName
asked_names baskets (ask.Line customer key quantity voucher) = basket_name basket_table (customer, key) ∷ []
asked_names baskets (ask.Remove customer key) = basket_name basket_table (customer, key) ∷ []
asked_names baskets (ask.Checkout customer) = names_in customer (lines_at baskets customer)
asked_names baskets other = []

-- and those that a body may change
abbrev pub names_touched : List (ℕ × List (ProductKey × Held)) → Body → List CellName
names_touched baskets (body.Changed key version change) = key_name copy_table key ∷ []
names_touched baskets (body.Asked request) = asked_names baskets request.ask
names_touched baskets other = []
