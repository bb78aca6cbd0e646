-- The cells of the orders, by their table, and the checkout whose cell a body may change.
use Rattle.std.specs.Prelude.{ℕ, List, [], ◌∷◌, Option, Some, None, codes}
use Rattle.std.specs.Fmt.{decimal}
use Rattle.std.specs.Map.{keys_of}
use Rattle.market_amounts.specs.declared.keys.RequestId.{RequestId}
use Rattle.market_events.specs.declared.bodies.Body.{Body}
use Rattle.market_events.specs.declared.bodies.Body.TheVariants as body
use Rattle.market_events.specs.declared.cells.Cell.{Cell}
use Rattle.market_events.specs.declared.cells.CellName.{CellName}
use Rattle.market_events.specs.CellLists.{cells_by}
use Rattle.market_events.specs.CellNames.{id_name}
use Rattle.market_events.specs.Texts.{spaced, status_text}
use Rattle.order_service.specs.declared.tables.Order.{Order}
use Rattle.order_service.specs.Tables.{order_at}

abbrev pub name_by : RequestId → CellName
name_by checkout = id_name (codes "order") checkout

-- the text of an order
abbrev pub text_by : Option Order → Option (List ℕ)
text_by None = None
text_by (Some order) =
    Some (spaced (status_text order.status ∷ decimal order.total ∷ decimal order.undelivered ∷ []))

abbrev pub texts_in : List (RequestId × Order) → RequestId → Option (List ℕ)
texts_in table checkout = text_by (order_at table checkout)

abbrev pub table_cells : List (RequestId × Order) → List Cell
table_cells table = cells_by name_by (texts_in table) (keys_of table)

-- the checkout whose order a body changes, but for a delivery
abbrev pub checkout_changed : Body → Option RequestId
checkout_changed (body.StockConfirmed checkout customer lines) = Some checkout
checkout_changed (body.Confirmed checkout customer lines total) = Some checkout
checkout_changed (body.Failed checkout customer rule) = Some checkout
checkout_changed (body.Shipped checkout) = Some checkout
checkout_changed other = None
