-- A request to deliver: nothing waits, or a delivery that customers, sellers and orders take, and a reply.
use Rattle.std.proofs.Common.{◌≡◌, ℕ, ◌≤◌, true, false, List, [], ◌∷◌, ◌++◌, length, refl, ap, sym, subst, ◌∙◌, append-nil, arith}
use Rattle.std.specs.List.{list_any, list_all, flat_map}
use Rattle.market_amounts.specs.declared.keys.RequestId.{RequestId}
use Rattle.market_events.specs.declared.bodies.Body.{Body}
use Rattle.market_events.specs.declared.bodies.Body.TheVariants as body
use Rattle.market_events.specs.declared.bodies.Item.{Item}
use Rattle.market_events.specs.declared.links.TheConstants.{SHIPMENT_TO_ORDER, SHIPMENT_TO_SELLER, SHIPMENT_TO_CUSTOMER}
use Rattle.market_events.specs.declared.replies.Reply.{Reply}
use Rattle.market_events.specs.declared.replies.Reply.TheVariants as reply
use Rattle.market_events.specs.declared.requests.Ask.TheVariants as ask
use Rattle.market_events.specs.declared.requests.Request.{Request}
use Rattle.market_events.specs.Formed.{items_formed}
use Rattle.market_events.specs.Links.{shipment_node}
use Rattle.market_events.specs.Requests.{same_id}
use Rattle.market_events.specs.declared.roles.Role.{Role}
use Rattle.market_events.specs.Services.{items_apart}
use Rattle.market_events.specs.Shipments.{deliver_rows, delivered_of, oldest_of}
use Rattle.market_events.specs.Steps.{Sending, told}
use Rattle.market_events.proofs.Runs.Orders.{is_item_for}
use Rattle.market_history.specs.Acts.{Acts, packages_waiting}
use Rattle.market.specs.Agreeing.{HasTables}
use Rattle.market.specs.Carrying.{Taken, AreRuns, IsNew, IsTrace, with_request, request_fits, request_answers, link_asked, most_made}
use Rattle.market_history.specs.Sequential.{rows_for, with_items, entry_delivered, reply_among}
use Rattle.market.proofs.Agreeing.Customers as customers
use Rattle.market.proofs.Agreeing.Orders as orders
use Rattle.market.proofs.Agreeing.Sellers as sellers
use Rattle.market.proofs.Agreeing.Shipments as shipments
use Rattle.market.proofs.Agreeing.Checkouts.{is_line_in}
use Rattle.market.proofs.Carrying.Ends.{Ends, ends_told}
use Rattle.market.proofs.Agreeing.Staying.{products_hold, carts_hold, stocks_hold, orders_hold, payments_hold, customers_hold, sellers_hold}
use Rattle.market.proofs.Carrying.Traces.{Traced, then_passed, then_told, any_concerns}

module _ (taken : Taken) (acts : Acts) (runs : AreRuns taken) (tables : HasTables taken acts) (id : RequestId) where
  abbrev r : Request
  r = record { id = id; ask = ask.Deliver }

  abbrev waiting : List Item
  waiting = packages_waiting acts.whole acts.items

  abbrev served : List Item
  served = delivered_of waiting

  abbrev count : ℕ
  count = length (oldest_of waiting)

  abbrev after : Acts
  after = with_items acts served

  module _ (new : IsNew taken r) (fit : request_fits taken r ≡ true) where
    made : request_answers taken r ≡ deliver_rows id served count
    made = shipments.shipments_answer taken.shipments acts tables.shipments (link_asked r) id ask.Deliver

    -- nothing waits
    none : served ≡ [] → Ends taken r (reply_among (rows_for acts id ask.Deliver)) after
    none empty =
        ends_told taken r shipment_node (reply_among (rows_for acts id ask.Deliver)) after fit
        (made ∙ no_rows ∙ ap (λ reply. told shipment_node id reply ∷ []) (sym (ap reply_among no_rows)))
        (record {
          products = products_hold taken.products acts after tables.products refl;
          carts = carts_hold taken.carts acts after tables.carts refl refl;
          stocks = stocks_hold taken.stocks acts after tables.stocks refl refl refl;
          orders = orders_hold taken.orders acts after tables.orders refl refl no_more;
          payments = payments_hold taken.payments acts after tables.payments refl refl;
          shipments = shipments.shipments_served taken.shipments acts tables.shipments (link_asked r) id after refl refl;
          customers = customers_hold taken.customers acts after tables.customers refl refl no_more;
          sellers = sellers_hold taken.sellers acts after tables.sellers refl refl no_more (λ seller. ap (λ items. acts.entries seller ++ flat_map (entry_delivered acts seller) items) empty ∙ append-nil (acts.entries seller));
        })
      where
        no_rows : deliver_rows id served count ≡ told shipment_node id (reply.Delivered 0 0) ∷ []
        no_rows = ap (λ items. deliver_rows id items count) empty

        no_more : acts.items ++ served ≡ acts.items
        no_more = ap (λ items. acts.items ++ items) empty ∙ append-nil acts.items

    -- a delivery
    module _ (i : Item) (more : List Item) (some : served ≡ i ∷ more) where
      abbrev delivery : Body
      delivery = body.Delivered served

      abbrev delivered_reply : Reply
      delivered_reply = reply.Delivered count (length served)

      abbrev trace : List Sending
      trace = (SHIPMENT_TO_CUSTOMER, delivery) ∷ (SHIPMENT_TO_SELLER, delivery) ∷ (SHIPMENT_TO_ORDER, delivery) ∷ told shipment_node id delivered_reply ∷ []

      rows : deliver_rows id served count ≡ trace
      rows = ap (λ items. deliver_rows id items count) some ∙ ap (λ items. (SHIPMENT_TO_CUSTOMER, body.Delivered items) ∷ (SHIPMENT_TO_SELLER, body.Delivered items) ∷ (SHIPMENT_TO_ORDER, body.Delivered items) ∷ told shipment_node id (reply.Delivered count (length items)) ∷ []) (sym some)

      formed : items_formed served ≡ true
      formed = shipments.delivered_formed taken.shipments acts tables.shipments (runs Role.Shipment) (subst (λ items. 1 ≤ length items) (sym some) (omega arith))

      apart : items_apart acts.items served ≡ true
      apart = shipments.delivered_apart taken.shipments acts tables.shipments

      of_whole : list_all (is_line_in acts.whole) served ≡ true
      of_whole = shipments.delivered_lines taken.shipments acts tables.shipments

      carried : Traced (with_request taken r) trace trace
      carried =
          then_passed _ SHIPMENT_TO_CUSTOMER _ _ _ _ (customers.delivery_fits taken.customers acts tables.customers served formed apart (new.few Role.Customer)) (customers.delivery_made taken.customers acts tables.customers served formed apart (new.few Role.Customer))
          (then_passed _ SHIPMENT_TO_SELLER _ _ _ _ (sellers.seller_delivery_fits taken.sellers acts tables.sellers served formed apart of_whole (new.few Role.Seller)) (sellers.seller_delivery_made taken.sellers acts tables.sellers served formed apart of_whole (new.few Role.Seller))
          (then_passed _ SHIPMENT_TO_ORDER _ _ _ _ (orders.order_delivery_fits taken.orders acts tables.orders served formed apart of_whole (new.few Role.Order)) (orders.order_delivery_made taken.orders acts tables.orders served formed apart of_whole (new.few Role.Order))
          (then_told _ shipment_node id delivered_reply)))

      delivers : Ends taken r (reply_among (rows_for acts id ask.Deliver)) after
      delivers = record {
        fit = fit;
        trace = trace;
        carried = subst (λ made. IsTrace (with_request taken r) made trace) (sym (made ∙ rows)) carried.is;
        replied = ap (λ reply. reply ∷ []) (sym (ap reply_among rows));
        tables = record {
          products = products_hold taken.products acts after tables.products refl;
          carts = carts_hold taken.carts acts after tables.carts refl refl;
          stocks = stocks_hold taken.stocks acts after tables.stocks refl refl refl;
          orders = orders.orders_served taken.orders acts tables.orders served formed apart of_whole (new.few Role.Order) after refl refl refl;
          payments = payments_hold taken.payments acts after tables.payments refl refl;
          shipments = shipments.shipments_served taken.shipments acts tables.shipments (link_asked r) id after refl refl;
          customers = customers.customers_served taken.customers acts tables.customers served formed apart (new.few Role.Customer) after refl refl refl;
          sellers = sellers.sellers_served taken.sellers acts tables.sellers served formed apart of_whole (new.few Role.Seller) after refl refl refl (λ seller. refl);
        };
        few = few_four;
        apart = λ other differs fresh. old other differs (shipments.delivered_old taken.shipments acts tables.shipments (runs Role.Shipment) other (fresh Role.Shipment));
      }
        where
          few_four : 4 ≤ most_made
          few_four = omega arith

          old : (other : RequestId) → same_id id other ≡ false → list_any (is_item_for other) served ≡ false → any_concerns other trace ≡ false
          old other differs none = rw (none, differs)

    by_items : (items : List Item) → served ≡ items → Ends taken r (reply_among (rows_for acts id ask.Deliver)) after
    by_items [] is = none is
    by_items (i ∷ more) is = delivers i more is

    pub ends_deliver : Ends taken r (reply_among (rows_for acts id ask.Deliver)) after
    ends_deliver = by_items served refl
