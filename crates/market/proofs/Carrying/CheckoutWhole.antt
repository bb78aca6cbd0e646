-- A checkout that is whole, carried through the services.
use Rattle.std.proofs.Common.{◌≡◌, ℕ, ◌≤◌, true, false, List, [], ◌∷◌, ◌++◌, length, refl, sym, subst, arith}
use Rattle.std.specs.List.{list_any, list_all}
use Rattle.market_amounts.specs.declared.keys.RequestId.{RequestId}
use Rattle.market_events.specs.declared.bodies.Body.{Body}
use Rattle.market_events.specs.declared.bodies.Body.TheVariants as body
use Rattle.market_events.specs.declared.bodies.Ending.TheVariants as ending
use Rattle.market_events.specs.declared.bodies.PricedLine.{PricedLine}
use Rattle.market_events.specs.declared.links.TheConstants.{CART_TO_STOCK, STOCK_TO_ORDER, ORDER_TO_PAYMENT, ORDER_TO_SELLER, ORDER_TO_CART, PAYMENT_TO_STOCK, PAYMENT_TO_ORDER, PAYMENT_TO_SHIPMENT, PAYMENT_TO_CUSTOMER, PAYMENT_TO_SELLER, SHIPMENT_TO_ORDER, SHIPMENT_TO_SELLER}
use Rattle.market_events.specs.declared.replies.Reply.TheVariants as reply
use Rattle.market_events.specs.declared.requests.Ask.TheVariants as ask
use Rattle.market_events.specs.declared.requests.Request.{Request}
use Rattle.market_events.specs.Copies.{copy_of}
use Rattle.market_events.specs.Formed.{body_formed, checkout_formed}
use Rattle.market_events.specs.Links.{cart_node}
use Rattle.market_events.specs.Orders.{is_of}
use Rattle.market_events.specs.Payments.{confirmed_rows}
use Rattle.market_events.specs.declared.roles.Role.{Role}
use Rattle.market_events.specs.Services.{answers, is_known}
use Rattle.market_events.specs.Steps.{Sending, told}
use Rattle.market_events.specs.Stocks.{Reservation}
use Rattle.market_events.specs.WellFormed.{total_of}
use Rattle.market_history.specs.Acts.{Acts}
use Rattle.market.specs.Agreeing.{HasTables}
use Rattle.market.specs.Carrying.{Taken, AreRuns, IsNew, IsTrace, with_request, request_fits, request_answers, link_asked, most_made}
use Rattle.market_history.specs.Sequential.{Verdict, with_checkout}
use Rattle.market.proofs.Agreeing.Carts.{ended_fits, ended_made, carts_answered}
use Rattle.market.proofs.Agreeing.Customers as customers
use Rattle.market.proofs.Agreeing.Orders as orders
use Rattle.market.proofs.Agreeing.Payments as payments
use Rattle.market.proofs.Agreeing.Sellers as sellers
use Rattle.market.proofs.Agreeing.Shipments as shipments
use Rattle.market.proofs.Agreeing.Stocks as stocks
use Rattle.market.proofs.Carrying.Ends.{Ends}
use Rattle.market.proofs.Agreeing.Staying.{products_hold}
use Rattle.market.proofs.Carrying.Traces.{Traced, then_passed, then_told}

module _ (taken : Taken) (acts : Acts) (runs : AreRuns taken) (tables : HasTables taken acts) (id : RequestId) (customer : ℕ) (lines : List PricedLine) where
  abbrev r : Request
  r = record { id = id; ask = ask.Checkout customer }

  abbrev checkout : Reservation
  checkout = record { checkout = id; customer = customer; lines = lines }

  module _ (new : IsNew taken r) (fit : request_fits taken r ≡ true) (sent : request_answers taken r ≡ (CART_TO_STOCK, body.Reserve id customer lines) ∷ [])
      (formed : checkout_formed id customer lines ≡ true) (total_formed : body_formed (body.Ended id (ending.Whole (total_of lines))) ≡ true)
      (known : list_all (λ (line : PricedLine). is_known (copy_of acts.changes line.key)) lines ≡ true)
      (reserved : answers Role.Stock taken.stocks CART_TO_STOCK (body.Reserve id customer lines) ≡ (STOCK_TO_ORDER, body.StockConfirmed id customer lines) ∷ []) where
    abbrev invoice : Body
    invoice = body.Invoice id customer lines (total_of lines)

    abbrev paid : Body
    paid = body.Confirmed id customer lines (total_of lines)

    new_checkout : list_any (is_of id) (acts.whole ++ acts.unpaid) ≡ false
    new_checkout = orders.new_checkout taken.orders acts tables.orders id customer lines (new.fresh Role.Order) formed (new.few Role.Order)

    abbrev whole_trace : List Sending
    whole_trace =
        (CART_TO_STOCK, body.Reserve id customer lines) ∷ (STOCK_TO_ORDER, body.StockConfirmed id customer lines) ∷ (ORDER_TO_SELLER, invoice) ∷ (ORDER_TO_PAYMENT, invoice)
        ∷ (PAYMENT_TO_STOCK, paid) ∷ (PAYMENT_TO_CUSTOMER, paid) ∷ (PAYMENT_TO_SELLER, paid) ∷ (PAYMENT_TO_ORDER, paid) ∷ (PAYMENT_TO_SHIPMENT, paid)
        ∷ (SHIPMENT_TO_SELLER, body.Shipped id) ∷ (SHIPMENT_TO_ORDER, body.Shipped id) ∷ (ORDER_TO_CART, body.Ended id (ending.Whole (total_of lines)))
        ∷ told cart_node id (reply.Whole (total_of lines)) ∷ []

    module _ (confirmed : answers Role.Payment taken.payments ORDER_TO_PAYMENT invoice ≡ confirmed_rows paid) where
      carried_whole : Traced (with_request taken r) ((CART_TO_STOCK, body.Reserve id customer lines) ∷ []) whole_trace
      carried_whole =
          then_passed _ CART_TO_STOCK _ _ _ _ (stocks.reserve_fits taken.stocks acts tables.stocks (runs Role.Stock) id customer lines (new.fresh Role.Stock) formed known (new.few Role.Stock)) reserved
          (then_passed _ STOCK_TO_ORDER _ _ _ _ (orders.invoice_fits taken.orders acts tables.orders id customer lines (new.fresh Role.Order) formed (new.few Role.Order)) (orders.invoice_made taken.orders acts tables.orders id customer lines (new.fresh Role.Order) formed (new.few Role.Order))
          (then_passed _ ORDER_TO_SELLER _ _ _ _ (sellers.seller_invoice_fits taken.sellers acts tables.sellers id customer lines (new.fresh Role.Seller) new_checkout formed (new.few Role.Seller)) (sellers.seller_invoice_made taken.sellers acts tables.sellers id customer lines (new.fresh Role.Seller) new_checkout formed (new.few Role.Seller))
          (then_passed _ ORDER_TO_PAYMENT _ _ _ _ (payments.invoice_fits taken.payments acts tables.payments id customer lines (new.fresh Role.Payment) formed (new.few Role.Payment)) confirmed
          (then_passed _ PAYMENT_TO_STOCK _ _ _ _ (stocks.stock_payment_fits taken.stocks acts tables.stocks (runs Role.Stock) id customer lines (new.fresh Role.Stock) formed known (new.few Role.Stock) reserved) (stocks.stock_payment_made taken.stocks acts tables.stocks (runs Role.Stock) id customer lines (new.fresh Role.Stock) formed known (new.few Role.Stock) reserved)
          (then_passed _ PAYMENT_TO_CUSTOMER _ _ _ _ (customers.payment_fits taken.customers acts tables.customers id customer lines (new.fresh Role.Customer) formed (new.few Role.Customer)) (customers.payment_made taken.customers acts tables.customers id customer lines (new.fresh Role.Customer) formed (new.few Role.Customer))
          (then_passed _ PAYMENT_TO_SELLER _ _ _ _ (sellers.seller_payment_fits taken.sellers acts tables.sellers id customer lines (new.fresh Role.Seller) new_checkout formed (new.few Role.Seller)) (sellers.seller_payment_made taken.sellers acts tables.sellers id customer lines (new.fresh Role.Seller) new_checkout formed (new.few Role.Seller))
          (then_passed _ PAYMENT_TO_ORDER _ _ _ _ (orders.paid_fits taken.orders acts tables.orders id customer lines (new.fresh Role.Order) formed (new.few Role.Order)) (orders.paid_made taken.orders acts tables.orders id customer lines (new.fresh Role.Order) formed (new.few Role.Order))
          (then_passed _ PAYMENT_TO_SHIPMENT _ _ _ _ (shipments.shipment_fits taken.shipments acts tables.shipments (runs Role.Shipment) id customer lines (new.fresh Role.Shipment) formed (new.few Role.Shipment)) (shipments.shipment_made taken.shipments acts tables.shipments (runs Role.Shipment) id customer lines (new.fresh Role.Shipment) formed (new.few Role.Shipment))
          (then_passed _ SHIPMENT_TO_SELLER _ _ _ _ (sellers.seller_shipment_fits taken.sellers acts tables.sellers id customer lines (new.fresh Role.Seller) new_checkout formed (new.few Role.Seller)) (sellers.seller_shipment_made taken.sellers acts tables.sellers id customer lines (new.fresh Role.Seller) new_checkout formed (new.few Role.Seller))
          (then_passed _ SHIPMENT_TO_ORDER _ _ _ _ (orders.shipped_fits taken.orders acts tables.orders id customer lines (new.fresh Role.Order) formed (new.few Role.Order)) (orders.shipped_made taken.orders acts tables.orders id customer lines (new.fresh Role.Order) formed (new.few Role.Order))
          (then_passed _ ORDER_TO_CART _ _ _ _ (ended_fits taken.carts acts tables.carts (link_asked r) id customer lines (new.fresh Role.Cart) (new.few Role.Cart) sent (ending.Whole (total_of lines)) total_formed) (ended_made taken.carts acts tables.carts (link_asked r) id customer lines (new.fresh Role.Cart) (new.few Role.Cart) sent (ending.Whole (total_of lines)) total_formed)
          (then_told _ cart_node id (reply.Whole (total_of lines))))))))))))))

      pub ends_whole : Ends taken r (reply.Whole (total_of lines)) (with_checkout acts checkout Verdict.Whole)
      ends_whole = record {
        fit = fit;
        trace = whole_trace;
        carried = subst (λ made. IsTrace (with_request taken r) made whole_trace) (sym sent) carried_whole.is;
        replied = refl;
        tables = record {
          products = products_hold taken.products acts (with_checkout acts checkout Verdict.Whole) tables.products refl;
          carts = carts_answered taken.carts acts tables.carts (link_asked r) id customer lines (new.fresh Role.Cart) (new.few Role.Cart) sent (ending.Whole (total_of lines)) total_formed (with_checkout acts checkout Verdict.Whole) refl refl;
          stocks = stocks.stocks_whole taken.stocks acts tables.stocks (runs Role.Stock) id customer lines (new.fresh Role.Stock) formed known (new.few Role.Stock) reserved (with_checkout acts checkout Verdict.Whole) refl refl refl;
          orders = orders.orders_whole taken.orders acts tables.orders id customer lines (new.fresh Role.Order) formed (new.few Role.Order) (with_checkout acts checkout Verdict.Whole) refl refl refl;
          payments = payments.payments_whole taken.payments acts tables.payments id customer lines (new.fresh Role.Payment) formed (new.few Role.Payment) confirmed (with_checkout acts checkout Verdict.Whole) refl refl;
          shipments = shipments.shipments_whole taken.shipments acts tables.shipments (runs Role.Shipment) id customer lines (new.fresh Role.Shipment) formed (new.few Role.Shipment) (with_checkout acts checkout Verdict.Whole) refl refl;
          customers = customers.customers_whole taken.customers acts tables.customers id customer lines (new.fresh Role.Customer) formed (new.few Role.Customer) (with_checkout acts checkout Verdict.Whole) refl refl refl;
          sellers = sellers.sellers_whole taken.sellers acts tables.sellers id customer lines (new.fresh Role.Seller) new_checkout formed (new.few Role.Seller) (with_checkout acts checkout Verdict.Whole) refl refl refl (λ s. refl);
        };
        few = few_whole;
        apart = λ other apart fresh. rw apart;
      }
        where
          few_whole : length whole_trace ≤ most_made
          few_whole = omega arith
