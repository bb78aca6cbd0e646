-- The cells of the accounts, by their table, and the customer whose cell a body may change.
use Rattle.std.specs.Prelude.{ℕ, List, Option, Some, None, codes}
use Rattle.std.specs.Map.{keys_of}
use Rattle.market_events.specs.declared.bodies.Body.{Body}
use Rattle.market_events.specs.declared.bodies.Body.TheVariants as body
use Rattle.market_events.specs.declared.cells.Cell.{Cell}
use Rattle.market_events.specs.declared.cells.CellName.{CellName}
use Rattle.market_events.specs.declared.requests.Ask.{Ask}
use Rattle.market_events.specs.declared.requests.Ask.TheVariants as ask
use Rattle.market_events.specs.CellLists.{key_cell, cells_by}
use Rattle.market_events.specs.CellNames.{number_name}
use Rattle.market_events.specs.Cells.{account_text}
use Rattle.payment_service.specs.declared.tables.Account.{Account}
use Rattle.payment_service.specs.Tables.{spent_in, account_at, limit_held}

abbrev pub name_by : ℕ → CellName
name_by customer = number_name (codes "account") customer

-- the text of an account, where there is one
abbrev pub text_by : Option Account → Option (List ℕ)
text_by account = account_text (spent_in account) (limit_held account)

abbrev pub cell_by : ℕ → Option Account → Option Cell
cell_by customer account = key_cell name_by (λ _. text_by account) customer

abbrev pub texts_in : List (ℕ × Account) → ℕ → Option (List ℕ)
texts_in table customer = text_by (account_at table customer)

abbrev pub table_cells : List (ℕ × Account) → List Cell
table_cells table = cells_by name_by (texts_in table) (keys_of table)

-- the customer whose account a body may change
abbrev pub card_holder : Ask → Option ℕ
card_holder (ask.Card customer limit) = Some customer
card_holder other = None

abbrev pub customer_by : Body → Option ℕ
customer_by (body.Asked request) = card_holder request.ask
customer_by (body.Invoice checkout customer lines total) = Some customer
customer_by other = None
