-- A request for the products: a reply alone, or a change that stock and the cart take, and a reply.
use Rattle.std.proofs.Common.{◌≡◌, ℕ, ◌≤◌, true, not, ◌⊎◌, ⊎_elim, List, [], ◌∷◌, ◌++◌, refl, ap, sym, subst, ◌∙◌, append-nil, arith}
use Rattle.market_amounts.specs.declared.keys.ProductKey.{ProductKey}
use Rattle.market_amounts.specs.declared.keys.RequestId.{RequestId}
use Rattle.market_events.specs.declared.bodies.Body.TheVariants as body
use Rattle.market_events.specs.declared.changes.Change.TheVariants as change
use Rattle.market_events.specs.declared.links.TheConstants.{PRODUCT_TO_CART, PRODUCT_TO_STOCK}
use Rattle.market_events.specs.declared.requests.Ask.{Ask}
use Rattle.market_events.specs.declared.requests.Ask.TheVariants as ask
use Rattle.market_events.specs.declared.requests.Request.{Request}
use Rattle.market_events.specs.Copies.{copy_of}
use Rattle.market_events.specs.Formed.{body_formed}
use Rattle.market_events.specs.Links.{product_node}
use Rattle.market_events.specs.Products.{changed, product_asked}
use Rattle.market_events.specs.declared.roles.Role.{Role}
use Rattle.market_events.specs.Services.{answers, fits}
use Rattle.market_events.specs.Steps.{Sending, told}
use Rattle.market_events.proofs.Values.Lists.{and_both}
use Rattle.market_events.proofs.Shapes.WellFormed.{are_formed, answers-formed}
use Rattle.market_history.specs.Acts.{Acts, product_table}
use Rattle.market.specs.Agreeing.{HasTables}
use Rattle.market.specs.Carrying.{Taken, AreRuns, IsNew, IsTrace, with_taken, with_request, all_passed, request_fits, request_answers, role_asked, link_asked, most_made}
use Rattle.market_history.specs.Sequential.{changes_in, with_changes, reply_among}
use Rattle.market.proofs.Agreeing.Carts as carts
use Rattle.market.proofs.Agreeing.Products.{products_answer, versions_agree, products_asked}
use Rattle.market.proofs.Agreeing.Stocks as stocks
use Rattle.market.proofs.Carrying.Ends.{Ends, ends_told}
use Rattle.market.proofs.Agreeing.Staying.{carts_hold, stocks_hold, orders_hold, payments_hold, shipments_hold, customers_hold, sellers_hold}
use Rattle.market.proofs.Carrying.Shapes.{TellsReply, TellsChange, create_shape, price_shape, delete_shape}
use Rattle.market.proofs.Carrying.Traces.{Traced, then_passed, then_told}

module _ (taken : Taken) (acts : Acts) (runs : AreRuns taken) (tables : HasTables taken acts) (id : RequestId) (what : Ask) where
  abbrev r : Request
  r = record { id = id; ask = what }

  abbrev rows : List Sending
  rows = product_asked (product_table acts) id what

  abbrev after : Acts
  after = with_changes acts rows

  module _ (to_products : role_asked r ≡ Role.Product) (new : IsNew taken r) (fit : request_fits taken r ≡ true) (made : request_answers taken r ≡ rows)
      (taken_there : with_request taken r ≡ with_taken taken Role.Product (link_asked r) (body.Asked r)) (formed : are_formed rows ≡ true) where
    -- a reply alone
    replies : TellsReply id rows → Ends taken r (reply_among rows) after
    replies shape =
        ends_told taken r shape.service (reply_among rows) after fit
        (made ∙ shape.rows_are ∙ ap (λ reply. told shape.service id reply ∷ []) (sym (ap reply_among shape.rows_are)))
        (subst (λ t. HasTables t after) (sym taken_there) (record {
          products = products_asked taken.products acts tables.products (link_asked r) id what;
          carts = carts_hold taken.carts acts after tables.carts unchanged refl;
          stocks = stocks_hold taken.stocks acts after tables.stocks unchanged refl refl;
          orders = orders_hold taken.orders acts after tables.orders refl refl refl;
          payments = payments_hold taken.payments acts after tables.payments refl refl;
          shipments = shipments_hold taken.shipments acts after tables.shipments refl refl;
          customers = customers_hold taken.customers acts after tables.customers refl refl refl;
          sellers = sellers_hold taken.sellers acts after tables.sellers refl refl refl (λ s. refl);
        }))
      where
        unchanged : acts.changes ++ changes_in rows ≡ acts.changes
        unchanged = ap (λ rows. acts.changes ++ changes_in rows) shape.rows_are ∙ append-nil acts.changes

    -- a change, and a reply
    changes : (shape : TellsChange acts id rows) → Ends taken r (reply_among rows) after
    changes shape = record {
      fit = fit;
      trace = changed id shape.key shape.version shape.made shape.reply;
      carried = subst (λ made. IsTrace (with_request taken r) made (changed id shape.key shape.version shape.made shape.reply)) (sym (made ∙ shape.rows_are))
          (subst (λ t. Traced t (changed id shape.key shape.version shape.made shape.reply) (changed id shape.key shape.version shape.made shape.reply)) (sym taken_there)
          (then_passed _ PRODUCT_TO_STOCK _ _ _ _ (stocks.stock_change_fits taken.stocks acts tables.stocks shape.key shape.version shape.made change_formed shape.fit (new.few Role.Stock)) (stocks.stock_change_made taken.stocks acts tables.stocks shape.key shape.version shape.made change_formed shape.fit (new.few Role.Stock))
          (then_passed _ PRODUCT_TO_CART _ _ _ _ (carts.cart_change_fits taken.carts acts tables.carts shape.key shape.version shape.made change_formed shape.fit (new.few Role.Cart)) (carts.cart_change_made taken.carts acts tables.carts shape.key shape.version shape.made change_formed shape.fit (new.few Role.Cart))
          (then_told _ product_node id shape.reply)))).is;
      replied = ap (λ reply. reply ∷ []) (sym (ap reply_among shape.rows_are));
      tables = subst (λ t. HasTables (all_passed t (changed id shape.key shape.version shape.made shape.reply)) after) (sym taken_there) (record {
        products = products_asked taken.products acts tables.products (link_asked r) id what;
        carts = carts.carts_changed taken.carts acts tables.carts shape.key shape.version shape.made change_formed shape.fit (new.few Role.Cart) after one_change refl;
        stocks = stocks.stocks_changed taken.stocks acts tables.stocks shape.key shape.version shape.made change_formed shape.fit (new.few Role.Stock) after one_change refl refl;
        orders = orders_hold taken.orders acts after tables.orders refl refl refl;
        payments = payments_hold taken.payments acts after tables.payments refl refl;
        shipments = shipments_hold taken.shipments acts after tables.shipments refl refl;
        customers = customers_hold taken.customers acts after tables.customers refl refl refl;
        sellers = sellers_hold taken.sellers acts after tables.sellers refl refl refl (λ s. refl);
      });
      few = few_three;
      apart = λ other apart fresh. rw apart;
    }
      where
        few_three : 3 ≤ most_made
        few_three = omega arith

        change_formed : body_formed (body.Changed shape.key shape.version shape.made) ≡ true
        change_formed = (and_both (body_formed (body.Changed shape.key shape.version shape.made)) _ (sym (ap are_formed shape.rows_are) ∙ formed)).0

        one_change : acts.changes ++ changes_in rows ≡ acts.changes ++ record { key = shape.key; version = shape.version; change = shape.made } ∷ []
        one_change = ap (λ rows. acts.changes ++ changes_in rows) shape.rows_are

    by_shape : TellsReply id rows ⊎ TellsChange acts id rows → Ends taken r (reply_among rows) after
    by_shape shape = ⊎_elim replies changes shape

module _ (taken : Taken) (acts : Acts) (runs : AreRuns taken) (tables : HasTables taken acts) (id : RequestId) where
  formed_rows : (what : Ask) → (let r : Request = record { id = id; ask = what } in role_asked r ≡ Role.Product → answers Role.Product taken.products (link_asked r) (body.Asked r) ≡ product_asked (product_table acts) id what
      → fits Role.Product taken.products (link_asked r) (body.Asked r) ≡ true → are_formed (product_asked (product_table acts) id what) ≡ true)
  formed_rows what to_products made fit = sym (ap are_formed made) ∙ answers-formed Role.Product taken.products _ _ (runs Role.Product) fit

  pub ends_create : (key : ProductKey) (price freight : ℕ) → (let r : Request = record { id = id; ask = ask.Create key price freight } in IsNew taken r → request_fits taken r ≡ true → Ends taken r (reply_among (product_asked (product_table acts) id (ask.Create key price freight))) (with_changes acts (product_asked (product_table acts) id (ask.Create key price freight))))
  ends_create key price freight new fit =
      let made = products_answer taken.products acts tables.products _ id (ask.Create key price freight) in
      by_shape taken acts runs tables id (ask.Create key price freight) refl new fit made refl (formed_rows (ask.Create key price freight) refl made fit)
      (create_shape acts (versions_agree taken.products acts tables.products (runs Role.Product)) id key (change.Created price freight) (λ look gone. ap not gone) (copy_of acts.changes key) refl)

  pub ends_price : (key : ProductKey) (price : ℕ) → (let r : Request = record { id = id; ask = ask.Price key price } in IsNew taken r → request_fits taken r ≡ true → Ends taken r (reply_among (product_asked (product_table acts) id (ask.Price key price))) (with_changes acts (product_asked (product_table acts) id (ask.Price key price))))
  ends_price key price new fit =
      let made = products_answer taken.products acts tables.products _ id (ask.Price key price) in
      by_shape taken acts runs tables id (ask.Price key price) refl new fit made refl (formed_rows (ask.Price key price) refl made fit)
      (price_shape acts (versions_agree taken.products acts tables.products (runs Role.Product)) id key price (copy_of acts.changes key) refl)

  pub ends_delete : (key : ProductKey) → (let r : Request = record { id = id; ask = ask.Delete key } in IsNew taken r → request_fits taken r ≡ true → Ends taken r (reply_among (product_asked (product_table acts) id (ask.Delete key))) (with_changes acts (product_asked (product_table acts) id (ask.Delete key))))
  ends_delete key new fit =
      let made = products_answer taken.products acts tables.products _ id (ask.Delete key) in
      by_shape taken acts runs tables id (ask.Delete key) refl new fit made refl (formed_rows (ask.Delete key) refl made fit)
      (delete_shape acts (versions_agree taken.products acts tables.products (runs Role.Product)) id key (copy_of acts.changes key) refl)
