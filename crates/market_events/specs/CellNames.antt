-- Names of cells whose key is a number, a product, the id of a request, or a product in a customer's basket.
use Rattle.std.specs.Prelude.{ℕ, List, [], ◌∷◌, Result, Ok, Err}
use Rattle.std.specs.Fmt.{decimal}
use Rattle.market_amounts.specs.declared.keys.ProductKey.{ProductKey}
use Rattle.market_amounts.specs.declared.keys.RequestId.{RequestId}
use Rattle.market_events.specs.declared.cells.CellName.{CellName}
use Rattle.market_words.specs.declared.faults.WordFault.{WordFault}
use Rattle.market_words.specs.declared.faults.WordFault.TheVariants.{Field}
use Rattle.market_events.specs.Cells.{basket_key}
use Rattle.market_words.specs.Words.{pieces, number_id}
use Rattle.market_words.specs.Results.{◌>>=◌}
use Rattle.market_events.specs.Texts.{id_text, key_text}

abbrev pub name_in : List ℕ → List ℕ → CellName
name_in table key = record { table = table; key = key }

abbrev pub number_name : List ℕ → ℕ → CellName
number_name table n = name_in table (decimal n)

abbrev pub key_name : List ℕ → ProductKey → CellName
key_name table key = name_in table (key_text key)

abbrev pub id_name : List ℕ → RequestId → CellName
id_name table id = name_in table (id_text id)

abbrev pub basket_name : List ℕ → ℕ × ProductKey → CellName
basket_name table line = name_in table (basket_key line.0 line.1)

abbrev pub basket_of_pieces : List (List ℕ) → Result (ℕ × ProductKey) WordFault
basket_of_pieces (customer ∷ seller ∷ product ∷ []) =
    number_id customer >>= λ c. number_id seller >>= λ s. number_id product >>= λ p. Ok
    (c, record { seller = s; product = p })
basket_of_pieces other = Err Field

-- CUSTOMER:SELLER:PRODUCT
abbrev pub basket_line_of : List ℕ → Result (ℕ × ProductKey) WordFault
basket_line_of text = basket_of_pieces (pieces 58 text)
