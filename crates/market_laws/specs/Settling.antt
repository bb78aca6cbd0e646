-- The way on which a reservation is settled: stock tells orders, orders tell payments, and payments tell
-- stock.
use Rattle.std.specs.Prelude.{ℕ, ◌+◌, Bool, count_by}
use Rattle.market_amounts.specs.declared.keys.RequestId.{RequestId}
use Rattle.market_events.specs.declared.bodies.Body.{Body}
use Rattle.market_events.specs.declared.links.Link.{Link}
use Rattle.market_events.specs.Services.{invoices}
use Rattle.market_events.specs.Stocks.{settles}
use Rattle.market_events.specs.declared.links.TheConstants.{STOCK_TO_ORDER, ORDER_TO_PAYMENT}
use Rattle.market_events.specs.declared.links.TheConstants.{PAYMENT_TO_STOCK}
use Rattle.market_history.specs.Checkouts.{bodies_of}
use Rattle.market_history.specs.Histories.{Histories}
use Rattle.market_history.specs.Outstanding.{outstanding}
use Rattle.market_laws.specs.Runs.{holds_pieces}

-- how many outstanding events of the link pass the test
abbrev pub outstanding_on : Histories → Link → (Body → Bool) → ℕ
outstanding_on h link test = count_by test (bodies_of (outstanding h link))

-- how many events of the checkout are on this way: of its pieces, its invoice, and its payment or the failure
-- of it
abbrev pub on_its_way : Histories → RequestId → ℕ
on_its_way h c = outstanding_on h STOCK_TO_ORDER (holds_pieces c)
    + outstanding_on h ORDER_TO_PAYMENT (invoices c) + outstanding_on h PAYMENT_TO_STOCK (settles c)
