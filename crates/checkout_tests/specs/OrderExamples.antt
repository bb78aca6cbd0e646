-- What the tests speak of.
use Rattle.std.specs.Prelude.{ℕ, List, [], ◌∷◌, ◌++◌, map}
use Rattle.std.specs.List.{range_with_len}
use Rattle.market_amounts.specs.declared.keys.ProductKey.{ProductKey}
use Rattle.market_events.specs.declared.bodies.Body.TheVariants as body
use Rattle.market_events.specs.declared.bodies.Ending.TheVariants as ending
use Rattle.market_events.specs.declared.bodies.Item.{Item}
use Rattle.market_events.specs.declared.bodies.PricedLine.{PricedLine}
use Rattle.market_events.specs.declared.links.TheConstants.{ORDER_TO_CART, PAYMENT_TO_ORDER}
use Rattle.market_events.specs.declared.links.TheConstants.{SHIPMENT_TO_ORDER, STOCK_TO_ORDER}
use Rattle.market_events.specs.Examples.{a_key, a_line, an_id, makes, quiet, mug, cup}
use Rattle.market_events.specs.ExamplesOrder.{two_lines, two_invoices}
use Rattle.market_events.specs.Steps.{Step}

-- a line of seller 5 at the greatest amounts
abbrev pub greatest_line : ℕ → PricedLine
greatest_line product = a_line (a_key 5 product) 1000 1000000000 1000000000 0

-- so many of them
unfoldable pub greatest_lines : ℕ → List PricedLine
greatest_lines count = map greatest_line (range_with_len 0 count)

-- a product of checkout 6 that is delivered to this customer
abbrev pub item_for : ℕ → ProductKey → List Item
item_for customer key = record { checkout = an_id 7 6; customer = customer; key = key } ∷ []

-- checkout 6, a mug and a cup, is paid and shipped
abbrev pub two_shipped : List Step
two_shipped =
    makes (STOCK_TO_ORDER, body.StockConfirmed (an_id 7 6) 7 two_lines) two_invoices
    ∷ quiet (PAYMENT_TO_ORDER, body.Confirmed (an_id 7 6) 7 two_lines 2010)
    ∷ makes (SHIPMENT_TO_ORDER, body.Shipped (an_id 7 6))
    ((ORDER_TO_CART, body.Ended (an_id 7 6) (ending.Whole 2010)) ∷ []) ∷ []

-- its mug is delivered to its customer, and its cup to customer 8
abbrev pub strange_cup : List Step
strange_cup =
    two_shipped
    ++ quiet (SHIPMENT_TO_ORDER, body.Delivered (item_for 7 mug))
    ∷ quiet (SHIPMENT_TO_ORDER, body.Delivered (item_for 8 cup)) ∷ []
