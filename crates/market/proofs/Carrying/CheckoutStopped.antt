-- A checkout that is answered at the cart, and one that is short of pieces, carried through the services.
use Rattle.std.proofs.Common.{◌≡◌, ℕ, ◌≤◌, true, List, [], ◌∷◌, length, refl, sym, subst, arith}
use Rattle.std.specs.List.{list_all}
use Rattle.market_amounts.specs.declared.keys.ProductKey.{ProductKey}
use Rattle.market_amounts.specs.declared.keys.RequestId.{RequestId}
use Rattle.market_events.specs.declared.bodies.Body.TheVariants as body
use Rattle.market_events.specs.declared.bodies.PricedLine.{PricedLine}
use Rattle.market_events.specs.declared.bodies.StockRule.TheVariants as stock
use Rattle.market_events.specs.declared.links.TheConstants.{CART_TO_STOCK, STOCK_TO_CART}
use Rattle.market_events.specs.declared.replies.Reply.TheVariants as reply
use Rattle.market_events.specs.declared.replies.UndoneRule.{UndoneRule}
use Rattle.market_events.specs.declared.replies.UndoneRule.TheVariants as undone
use Rattle.market_events.specs.declared.requests.Ask.TheVariants as ask
use Rattle.market_events.specs.declared.requests.Request.{Request}
use Rattle.market_events.specs.Copies.{copy_of}
use Rattle.market_events.specs.Formed.{body_formed, checkout_formed}
use Rattle.market_events.specs.Links.{cart_node}
use Rattle.market_events.specs.declared.roles.Role.{Role}
use Rattle.market_events.specs.Services.{answers, is_known}
use Rattle.market_events.specs.Steps.{Sending, told}
use Rattle.market_events.specs.Stocks.{Reservation}
use Rattle.market_history.specs.Acts.{Acts}
use Rattle.market.specs.Agreeing.{HasTables}
use Rattle.market.specs.Carrying.{Taken, AreRuns, IsNew, IsTrace, with_request, request_fits, request_answers, link_asked, most_made}
use Rattle.market_history.specs.Sequential.{Verdict, with_checkout}
use Rattle.market.proofs.Agreeing.Carts.{carts_stopped, carts_refused, short_fits, short_made}
use Rattle.market.proofs.Agreeing.Stocks as stocks
use Rattle.market.proofs.Carrying.Ends.{Ends, ends_told}
use Rattle.market.proofs.Agreeing.Staying.{products_hold, orders_hold, payments_hold, shipments_hold, customers_hold, sellers_hold}
use Rattle.market.proofs.Carrying.Traces.{Traced, then_passed, then_told}

module _ (taken : Taken) (acts : Acts) (runs : AreRuns taken) (tables : HasTables taken acts) (id : RequestId) (customer : ℕ) (lines : List PricedLine) where
  abbrev r : Request
  r = record { id = id; ask = ask.Checkout customer }

  abbrev checkout : Reservation
  checkout = record { checkout = id; customer = customer; lines = lines }

  abbrev stopped : UndoneRule → Acts
  stopped rule = with_checkout acts checkout (Verdict.Stopped rule)

  -- it is answered at the cart
  pub ends_stopped : (rule : UndoneRule) → request_fits taken r ≡ true → request_answers taken r ≡ told cart_node id (reply.Undone rule) ∷ [] → Ends taken r (reply.Undone rule) (stopped rule)
  ends_stopped rule fit made =
      let carts = carts_stopped taken.carts acts tables.carts (link_asked r) id customer rule made in
      ends_told taken r cart_node (reply.Undone rule) (stopped rule) fit made (record {
        products = products_hold taken.products acts (stopped rule) tables.products refl;
        carts = record { changes = carts.changes; baskets = carts.baskets };
        stocks = record { changes = tables.stocks.changes; stocked = tables.stocks.stocked; sold = tables.stocks.sold; settled = tables.stocks.settled };
        orders = orders_hold taken.orders acts (stopped rule) tables.orders refl refl refl;
        payments = payments_hold taken.payments acts (stopped rule) tables.payments refl refl;
        shipments = shipments_hold taken.shipments acts (stopped rule) tables.shipments refl refl;
        customers = customers_hold taken.customers acts (stopped rule) tables.customers refl refl refl;
        sellers = sellers_hold taken.sellers acts (stopped rule) tables.sellers refl refl refl (λ s. refl);
      })

  -- stock refuses it
  module _ (key : ProductKey) (new : IsNew taken r) (fit : request_fits taken r ≡ true) (sent : request_answers taken r ≡ (CART_TO_STOCK, body.Reserve id customer lines) ∷ [])
      (formed : checkout_formed id customer lines ≡ true) (short_formed : body_formed (body.ReserveFailed id key stock.Short) ≡ true)
      (known : list_all (λ (line : PricedLine). is_known (copy_of acts.changes line.key)) lines ≡ true)
      (refused : answers Role.Stock taken.stocks CART_TO_STOCK (body.Reserve id customer lines) ≡ (STOCK_TO_CART, body.ReserveFailed id key stock.Short) ∷ []) where
    abbrev short_trace : List Sending
    short_trace = (CART_TO_STOCK, body.Reserve id customer lines) ∷ (STOCK_TO_CART, body.ReserveFailed id key stock.Short) ∷ told cart_node id (reply.Undone (undone.Short key)) ∷ []

    carried_short : Traced (with_request taken r) ((CART_TO_STOCK, body.Reserve id customer lines) ∷ []) short_trace
    carried_short =
        then_passed _ CART_TO_STOCK _ _ _ _ (stocks.reserve_fits taken.stocks acts tables.stocks (runs Role.Stock) id customer lines (new.fresh Role.Stock) formed known (new.few Role.Stock)) refused
        (then_passed _ STOCK_TO_CART _ _ _ _ (short_fits taken.carts acts tables.carts (link_asked r) id customer lines (new.fresh Role.Cart) (new.few Role.Cart) sent key stock.Short short_formed) (short_made taken.carts acts tables.carts (link_asked r) id customer lines (new.fresh Role.Cart) (new.few Role.Cart) sent key stock.Short short_formed)
        (then_told _ cart_node id (reply.Undone (undone.Short key))))

    abbrev after : Acts
    after = with_checkout acts checkout (Verdict.Short key)

    pub ends_short : Ends taken r (reply.Undone (undone.Short key)) (with_checkout acts checkout (Verdict.Short key))
    ends_short = record {
      fit = fit;
      trace = short_trace;
      carried = subst (λ made. IsTrace (with_request taken r) made short_trace) (sym sent) carried_short.is;
      replied = refl;
      tables = record {
        products = products_hold taken.products acts after tables.products refl;
        carts = carts_refused taken.carts acts tables.carts (link_asked r) id customer lines (new.fresh Role.Cart) (new.few Role.Cart) sent key stock.Short short_formed after refl refl;
        stocks = stocks.stocks_short taken.stocks acts tables.stocks (runs Role.Stock) id customer lines (new.fresh Role.Stock) formed known (new.few Role.Stock) key stock.Short refused after refl refl refl;
        orders = orders_hold taken.orders acts after tables.orders refl refl refl;
        payments = payments_hold taken.payments acts after tables.payments refl refl;
        shipments = shipments_hold taken.shipments acts after tables.shipments refl refl;
        customers = customers_hold taken.customers acts after tables.customers refl refl refl;
        sellers = sellers_hold taken.sellers acts after tables.sellers refl refl refl (λ s. refl);
      };
      few = few_short;
      apart = λ other apart fresh. rw apart;
    }
      where
        few_short : length short_trace ≤ most_made
        few_short = omega arith
