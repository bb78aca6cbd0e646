-- A request that its service answers with a reply alone.
use Rattle.std.proofs.Common.{◌≡◌, ℕ, true, [], ◌∷◌, refl, ap, sym, ◌∙◌}
use Rattle.market_amounts.specs.declared.keys.ProductKey.{ProductKey}
use Rattle.market_amounts.specs.declared.keys.RequestId.{RequestId}
use Rattle.market_events.specs.declared.requests.Ask.{Ask}
use Rattle.market_events.specs.declared.requests.Ask.TheVariants as ask
use Rattle.market_events.specs.Copies.{copy_of}
use Rattle.market_events.specs.Links.{customer_node, seller_node, payment_node}
use Rattle.market_events.specs.Steps.{told}
use Rattle.market_history.specs.Acts.{Acts, basket_by, on_hand_by, status_by, total_by}
use Rattle.market.specs.Agreeing.{HasTables}
use Rattle.market.specs.Carrying.{Taken, with_request, request_fits, request_answers}
use Rattle.market_history.specs.Sequential.{rows_for, acts_asked, reply_among}
use Rattle.market.proofs.Agreeing.Carts.{carts_answer, carts_viewed, carts_lined, carts_removed}
use Rattle.market.proofs.Agreeing.Customers.{customers_answer, customers_asked}
use Rattle.market.proofs.Agreeing.Orders.{orders_answer, orders_asked}
use Rattle.market.proofs.Agreeing.Payments.{payments_answer, payments_carded}
use Rattle.market.proofs.Agreeing.Sellers.{sellers_answer, sellers_asked}
use Rattle.market.proofs.Agreeing.Stocks.{stocks_answer, stocks_stocked, stocks_asked}
use Rattle.market.proofs.Carrying.Ends.{Ends, ends_told}
use Rattle.market.proofs.Agreeing.Staying.{products_hold, carts_hold, stocks_hold, orders_hold, payments_hold, shipments_hold, customers_hold, sellers_hold}
use Rattle.market.proofs.Carrying.Shapes.{TellsReply, view_shape, line_shape, remove_shape, stock_shape, level_shape, order_shape}

module _ (taken : Taken) (acts : Acts) (tables : HasTables taken acts) (id : RequestId) where
  -- it ends with the reply of its service, and what it leaves
  abbrev pub EndsAsked : Ask → Type 0
  EndsAsked what = Ends taken (record { id = id; ask = what }) (reply_among (rows_for acts id what)) (acts_asked acts id what)

  abbrev pub FitsAsked : Ask → Type 0
  FitsAsked what = request_fits taken (record { id = id; ask = what }) ≡ true

  one_reply : (what : Ask) → FitsAsked what → request_answers taken (record { id = id; ask = what }) ≡ rows_for acts id what → TellsReply id (rows_for acts id what)
      → HasTables (with_request taken (record { id = id; ask = what })) (acts_asked acts id what) → EndsAsked what
  one_reply what fit made shape after =
      ends_told taken (record { id = id; ask = what }) shape.service (reply_among (rows_for acts id what)) (acts_asked acts id what) fit
      (made ∙ shape.rows_are ∙ ap (λ reply. told shape.service id reply ∷ []) (sym (ap reply_among shape.rows_are))) after

  pub ends_view : (key : ProductKey) → FitsAsked (ask.View key) → EndsAsked (ask.View key)
  ends_view key fit =
      one_reply (ask.View key) fit (carts_answer taken.carts acts tables.carts _ id (ask.View key)) (view_shape id (copy_of acts.changes key))
      (record { products = tables.products; carts = carts_viewed taken.carts acts tables.carts _ id key; stocks = tables.stocks; orders = tables.orders; payments = tables.payments; shipments = tables.shipments; customers = tables.customers; sellers = tables.sellers })

  -- what is left of a basket, or stocked, is nothing to the other services
  pub ends_line : (customer : ℕ) (key : ProductKey) (quantity voucher : ℕ) → FitsAsked (ask.Line customer key quantity voucher) → EndsAsked (ask.Line customer key quantity voucher)
  ends_line customer key quantity voucher fit =
      let what = ask.Line customer key quantity voucher in
      one_reply what fit (carts_answer taken.carts acts tables.carts _ id what) (line_shape id key quantity (copy_of acts.changes key) (basket_by acts.baskets customer))
      (record {
        products = products_hold taken.products acts (acts_asked acts id what) tables.products refl;
        carts = carts_lined taken.carts acts tables.carts _ id customer key quantity voucher;
        stocks = stocks_hold taken.stocks acts (acts_asked acts id what) tables.stocks refl refl refl;
        orders = orders_hold taken.orders acts (acts_asked acts id what) tables.orders refl refl refl;
        payments = payments_hold taken.payments acts (acts_asked acts id what) tables.payments refl refl;
        shipments = shipments_hold taken.shipments acts (acts_asked acts id what) tables.shipments refl refl;
        customers = customers_hold taken.customers acts (acts_asked acts id what) tables.customers refl refl refl;
        sellers = sellers_hold taken.sellers acts (acts_asked acts id what) tables.sellers refl refl refl (λ s. refl);
      })

  pub ends_remove : (customer : ℕ) (key : ProductKey) → FitsAsked (ask.Remove customer key) → EndsAsked (ask.Remove customer key)
  ends_remove customer key fit =
      let what = ask.Remove customer key in
      one_reply what fit (carts_answer taken.carts acts tables.carts _ id what) (remove_shape id key (basket_by acts.baskets customer))
      (record {
        products = products_hold taken.products acts (acts_asked acts id what) tables.products refl;
        carts = carts_removed taken.carts acts tables.carts _ id customer key;
        stocks = stocks_hold taken.stocks acts (acts_asked acts id what) tables.stocks refl refl refl;
        orders = orders_hold taken.orders acts (acts_asked acts id what) tables.orders refl refl refl;
        payments = payments_hold taken.payments acts (acts_asked acts id what) tables.payments refl refl;
        shipments = shipments_hold taken.shipments acts (acts_asked acts id what) tables.shipments refl refl;
        customers = customers_hold taken.customers acts (acts_asked acts id what) tables.customers refl refl refl;
        sellers = sellers_hold taken.sellers acts (acts_asked acts id what) tables.sellers refl refl refl (λ s. refl);
      })

  pub ends_stock : (key : ProductKey) (pieces : ℕ) → FitsAsked (ask.Stock key pieces) → EndsAsked (ask.Stock key pieces)
  ends_stock key pieces fit =
      let what = ask.Stock key pieces in
      one_reply what fit (stocks_answer taken.stocks acts tables.stocks _ id what) (stock_shape id pieces (copy_of acts.changes key) (on_hand_by acts key))
      (record {
        products = products_hold taken.products acts (acts_asked acts id what) tables.products refl;
        carts = carts_hold taken.carts acts (acts_asked acts id what) tables.carts refl refl;
        stocks = stocks_stocked taken.stocks acts tables.stocks _ id key pieces;
        orders = orders_hold taken.orders acts (acts_asked acts id what) tables.orders refl refl refl;
        payments = payments_hold taken.payments acts (acts_asked acts id what) tables.payments refl refl;
        shipments = shipments_hold taken.shipments acts (acts_asked acts id what) tables.shipments refl refl;
        customers = customers_hold taken.customers acts (acts_asked acts id what) tables.customers refl refl refl;
        sellers = sellers_hold taken.sellers acts (acts_asked acts id what) tables.sellers refl refl refl (λ s. refl);
      })

  pub ends_level : (key : ProductKey) → FitsAsked (ask.Level key) → EndsAsked (ask.Level key)
  ends_level key fit =
      one_reply (ask.Level key) fit (stocks_answer taken.stocks acts tables.stocks _ id (ask.Level key)) (level_shape id (copy_of acts.changes key) (on_hand_by acts key) 0)
      (record { products = tables.products; carts = tables.carts; stocks = stocks_asked taken.stocks acts tables.stocks _ id (ask.Level key) (λ k. refl); orders = tables.orders; payments = tables.payments; shipments = tables.shipments; customers = tables.customers; sellers = tables.sellers })

  pub ends_order : (checkout : RequestId) → FitsAsked (ask.Order checkout) → EndsAsked (ask.Order checkout)
  ends_order checkout fit =
      one_reply (ask.Order checkout) fit (orders_answer taken.orders acts tables.orders _ id (ask.Order checkout)) (order_shape id (status_by acts checkout) (total_by acts checkout))
      (record { products = tables.products; carts = tables.carts; stocks = tables.stocks; orders = orders_asked taken.orders acts tables.orders _ id (ask.Order checkout); payments = tables.payments; shipments = tables.shipments; customers = tables.customers; sellers = tables.sellers })

  pub ends_card : (customer limit : ℕ) → FitsAsked (ask.Card customer limit) → EndsAsked (ask.Card customer limit)
  ends_card customer limit fit =
      let what = ask.Card customer limit in
      one_reply what fit (payments_answer taken.payments acts tables.payments _ id what) (record { service = payment_node; reply = _; rows_are = refl })
      (record {
        products = products_hold taken.products acts (acts_asked acts id what) tables.products refl;
        carts = carts_hold taken.carts acts (acts_asked acts id what) tables.carts refl refl;
        stocks = stocks_hold taken.stocks acts (acts_asked acts id what) tables.stocks refl refl refl;
        orders = orders_hold taken.orders acts (acts_asked acts id what) tables.orders refl refl refl;
        payments = payments_carded taken.payments acts tables.payments _ id customer limit;
        shipments = shipments_hold taken.shipments acts (acts_asked acts id what) tables.shipments refl refl;
        customers = customers_hold taken.customers acts (acts_asked acts id what) tables.customers refl refl refl;
        sellers = sellers_hold taken.sellers acts (acts_asked acts id what) tables.sellers refl refl refl (λ s. refl);
      })

  pub ends_customer : (customer : ℕ) → FitsAsked (ask.Customer customer) → EndsAsked (ask.Customer customer)
  ends_customer customer fit =
      one_reply (ask.Customer customer) fit (customers_answer taken.customers acts tables.customers _ id (ask.Customer customer)) (record { service = customer_node; reply = _; rows_are = refl })
      (record { products = tables.products; carts = tables.carts; stocks = tables.stocks; orders = tables.orders; payments = tables.payments; shipments = tables.shipments; customers = customers_asked taken.customers acts tables.customers _ id (ask.Customer customer); sellers = tables.sellers })

  pub ends_dashboard : (seller : ℕ) → FitsAsked (ask.Dashboard seller) → EndsAsked (ask.Dashboard seller)
  ends_dashboard seller fit =
      one_reply (ask.Dashboard seller) fit (sellers_answer taken.sellers acts tables.sellers _ id (ask.Dashboard seller)) (record { service = seller_node; reply = _; rows_are = refl })
      (record { products = tables.products; carts = tables.carts; stocks = tables.stocks; orders = tables.orders; payments = tables.payments; shipments = tables.shipments; customers = tables.customers; sellers = sellers_asked taken.sellers acts tables.sellers _ id (ask.Dashboard seller) })
