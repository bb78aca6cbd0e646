-- A checkout that is not paid, carried through the services.
use Rattle.std.proofs.Common.{◌≡◌, ℕ, ◌≤◌, true, false, ◌&&◌, List, [], ◌∷◌, ◌++◌, length, refl, sym, subst, arith}
use Rattle.std.specs.List.{list_any, list_all}
use Rattle.market_amounts.specs.declared.keys.RequestId.{RequestId}
use Rattle.market_events.specs.declared.bodies.Body.{Body}
use Rattle.market_events.specs.declared.bodies.Body.TheVariants as body
use Rattle.market_events.specs.declared.bodies.Ending.TheVariants as ending
use Rattle.market_events.specs.declared.bodies.PayRule.{PayRule}
use Rattle.market_events.specs.declared.bodies.PricedLine.{PricedLine}
use Rattle.market_events.specs.declared.links.TheConstants.{CART_TO_STOCK, STOCK_TO_ORDER, ORDER_TO_PAYMENT, ORDER_TO_SELLER, ORDER_TO_CART, PAYMENT_TO_STOCK, PAYMENT_TO_ORDER, PAYMENT_TO_CUSTOMER, PAYMENT_TO_SELLER}
use Rattle.market_events.specs.declared.replies.Reply.TheVariants as reply
use Rattle.market_events.specs.declared.requests.Ask.TheVariants as ask
use Rattle.market_events.specs.declared.requests.Request.{Request}
use Rattle.market_events.specs.Carts.{undone_by_payment}
use Rattle.market_events.specs.Copies.{copy_of}
use Rattle.market_events.specs.Formed.{body_formed, request_id_formed, id_formed, lines_formed, checkout_formed}
use Rattle.market_events.specs.Links.{cart_node}
use Rattle.market_events.specs.Orders.{is_of}
use Rattle.market_events.specs.Payments.{failed_rows}
use Rattle.market_events.specs.declared.roles.Role.{Role}
use Rattle.market_events.specs.Services.{answers, is_known}
use Rattle.market_events.specs.Steps.{Sending, told}
use Rattle.market_events.specs.Stocks.{Reservation}
use Rattle.market_events.specs.WellFormed.{total_of}
use Rattle.market_events.proofs.Values.Lists.{and_both, and_from}
use Rattle.market_history.specs.Acts.{Acts}
use Rattle.market.specs.Agreeing.{HasTables}
use Rattle.market.specs.Carrying.{Taken, AreRuns, IsNew, IsTrace, with_request, request_fits, request_answers, link_asked, most_made}
use Rattle.market_history.specs.Sequential.{Verdict, with_checkout}
use Rattle.market.proofs.Agreeing.Carts.{ended_fits, ended_made, carts_answered}
use Rattle.market.proofs.Agreeing.Customers as customers
use Rattle.market.proofs.Agreeing.Orders as orders
use Rattle.market.proofs.Agreeing.Payments as payments
use Rattle.market.proofs.Agreeing.Sellers as sellers
use Rattle.market.proofs.Agreeing.Stocks as stocks
use Rattle.market.proofs.Carrying.Ends.{Ends}
use Rattle.market.proofs.Agreeing.Staying.{products_hold, shipments_hold}
use Rattle.market.proofs.Carrying.Traces.{Traced, then_passed, then_told}

module _ (taken : Taken) (acts : Acts) (runs : AreRuns taken) (tables : HasTables taken acts) (id : RequestId) (customer : ℕ) (lines : List PricedLine) where
  abbrev r : Request
  r = record { id = id; ask = ask.Checkout customer }

  abbrev checkout : Reservation
  checkout = record { checkout = id; customer = customer; lines = lines }

  module _ (new : IsNew taken r) (fit : request_fits taken r ≡ true) (sent : request_answers taken r ≡ (CART_TO_STOCK, body.Reserve id customer lines) ∷ [])
      (formed : checkout_formed id customer lines ≡ true) (reason : PayRule)
      (known : list_all (λ (line : PricedLine). is_known (copy_of acts.changes line.key)) lines ≡ true)
      (reserved : answers Role.Stock taken.stocks CART_TO_STOCK (body.Reserve id customer lines) ≡ (STOCK_TO_ORDER, body.StockConfirmed id customer lines) ∷ []) where
    abbrev invoice : Body
    invoice = body.Invoice id customer lines (total_of lines)

    abbrev failed : Body
    failed = body.Failed id customer reason

    id_is_formed : request_id_formed id ≡ true
    id_is_formed = (and_both (request_id_formed id) (id_formed customer) (and_both (request_id_formed id && id_formed customer) (lines_formed lines) formed).0).0

    ended_formed : body_formed (body.Ended id (ending.Undone reason)) ≡ true
    ended_formed = and_from (request_id_formed id) true id_is_formed refl

    new_checkout : list_any (is_of id) (acts.whole ++ acts.unpaid) ≡ false
    new_checkout = orders.new_checkout taken.orders acts tables.orders id customer lines (new.fresh Role.Order) formed (new.few Role.Order)

    abbrev unpaid_trace : List Sending
    unpaid_trace =
        (CART_TO_STOCK, body.Reserve id customer lines) ∷ (STOCK_TO_ORDER, body.StockConfirmed id customer lines) ∷ (ORDER_TO_SELLER, invoice) ∷ (ORDER_TO_PAYMENT, invoice)
        ∷ (PAYMENT_TO_STOCK, failed) ∷ (PAYMENT_TO_CUSTOMER, failed) ∷ (PAYMENT_TO_SELLER, failed) ∷ (PAYMENT_TO_ORDER, failed) ∷ (ORDER_TO_CART, body.Ended id (ending.Undone reason))
        ∷ told cart_node id (reply.Undone (undone_by_payment reason)) ∷ []

    module _ (refused : answers Role.Payment taken.payments ORDER_TO_PAYMENT invoice ≡ failed_rows failed) where
      carried_unpaid : Traced (with_request taken r) ((CART_TO_STOCK, body.Reserve id customer lines) ∷ []) unpaid_trace
      carried_unpaid =
          then_passed _ CART_TO_STOCK _ _ _ _ (stocks.reserve_fits taken.stocks acts tables.stocks (runs Role.Stock) id customer lines (new.fresh Role.Stock) formed known (new.few Role.Stock)) reserved
          (then_passed _ STOCK_TO_ORDER _ _ _ _ (orders.invoice_fits taken.orders acts tables.orders id customer lines (new.fresh Role.Order) formed (new.few Role.Order)) (orders.invoice_made taken.orders acts tables.orders id customer lines (new.fresh Role.Order) formed (new.few Role.Order))
          (then_passed _ ORDER_TO_SELLER _ _ _ _ (sellers.seller_invoice_fits taken.sellers acts tables.sellers id customer lines (new.fresh Role.Seller) new_checkout formed (new.few Role.Seller)) (sellers.seller_invoice_made taken.sellers acts tables.sellers id customer lines (new.fresh Role.Seller) new_checkout formed (new.few Role.Seller))
          (then_passed _ ORDER_TO_PAYMENT _ _ _ _ (payments.invoice_fits taken.payments acts tables.payments id customer lines (new.fresh Role.Payment) formed (new.few Role.Payment)) refused
          (then_passed _ PAYMENT_TO_STOCK _ _ _ _ (stocks.stock_failure_fits taken.stocks acts tables.stocks (runs Role.Stock) id customer lines (new.fresh Role.Stock) formed known (new.few Role.Stock) reserved reason) (stocks.stock_failure_made taken.stocks acts tables.stocks (runs Role.Stock) id customer lines (new.fresh Role.Stock) formed known (new.few Role.Stock) reserved reason)
          (then_passed _ PAYMENT_TO_CUSTOMER _ _ _ _ (customers.failure_fits taken.customers acts tables.customers id customer lines (new.fresh Role.Customer) formed (new.few Role.Customer) reason) (customers.failure_made taken.customers acts tables.customers id customer lines (new.fresh Role.Customer) formed (new.few Role.Customer) reason)
          (then_passed _ PAYMENT_TO_SELLER _ _ _ _ (sellers.seller_failure_fits taken.sellers acts tables.sellers id customer lines (new.fresh Role.Seller) new_checkout formed (new.few Role.Seller) reason) (sellers.seller_failure_made taken.sellers acts tables.sellers id customer lines (new.fresh Role.Seller) new_checkout formed (new.few Role.Seller) reason)
          (then_passed _ PAYMENT_TO_ORDER _ _ _ _ (orders.failed_fits taken.orders acts tables.orders id customer lines (new.fresh Role.Order) formed (new.few Role.Order) reason) (orders.failed_made taken.orders acts tables.orders id customer lines (new.fresh Role.Order) formed (new.few Role.Order) reason)
          (then_passed _ ORDER_TO_CART _ _ _ _ (ended_fits taken.carts acts tables.carts (link_asked r) id customer lines (new.fresh Role.Cart) (new.few Role.Cart) sent (ending.Undone reason) ended_formed) (ended_made taken.carts acts tables.carts (link_asked r) id customer lines (new.fresh Role.Cart) (new.few Role.Cart) sent (ending.Undone reason) ended_formed)
          (then_told _ cart_node id (reply.Undone (undone_by_payment reason)))))))))))

      abbrev after : Acts
      after = with_checkout acts checkout (Verdict.Unpaid reason)

      pub ends_unpaid : Ends taken r (reply.Undone (undone_by_payment reason)) (with_checkout acts checkout (Verdict.Unpaid reason))
      ends_unpaid = record {
        fit = fit;
        trace = unpaid_trace;
        carried = subst (λ made. IsTrace (with_request taken r) made unpaid_trace) (sym sent) carried_unpaid.is;
        replied = refl;
        tables = record {
          products = products_hold taken.products acts after tables.products refl;
          carts = carts_answered taken.carts acts tables.carts (link_asked r) id customer lines (new.fresh Role.Cart) (new.few Role.Cart) sent (ending.Undone reason) ended_formed after refl refl;
          stocks = stocks.stocks_unpaid taken.stocks acts tables.stocks (runs Role.Stock) id customer lines (new.fresh Role.Stock) formed known (new.few Role.Stock) reserved reason after refl refl refl;
          orders = orders.orders_unpaid taken.orders acts tables.orders id customer lines (new.fresh Role.Order) formed (new.few Role.Order) reason after refl refl refl;
          payments = payments.payments_unpaid taken.payments acts tables.payments id customer lines (new.fresh Role.Payment) formed (new.few Role.Payment) reason refused after refl refl;
          shipments = shipments_hold taken.shipments acts after tables.shipments refl refl;
          customers = customers.customers_unpaid taken.customers acts tables.customers id customer lines (new.fresh Role.Customer) formed (new.few Role.Customer) reason after refl refl refl;
          sellers = sellers.sellers_unpaid taken.sellers acts tables.sellers id customer lines (new.fresh Role.Seller) new_checkout formed (new.few Role.Seller) reason after refl refl refl (λ s. refl);
        };
        few = few_unpaid;
        apart = λ other apart fresh. rw apart;
      }
        where
          few_unpaid : length unpaid_trace ≤ most_made
          few_unpaid = omega arith
