-- A checkout, by what it comes to.
use Rattle.std.proofs.Common.{◌≡◌, ℕ, ◌+◌, Bool, true, false, ◌&&◌, nat_le, List, [], ◌∷◌, Option, Some, None, filter_map, if◌then◌else◌, refl, ap, sym, ◌∙◌, le-leb}
use Rattle.std.specs.List.{list_all}
use Rattle.market_amounts.specs.declared.keys.ProductKey.{ProductKey}
use Rattle.market_amounts.specs.declared.keys.RequestId.{RequestId}
use Rattle.market_events.specs.declared.bodies.Body.TheVariants as body
use Rattle.market_events.specs.declared.bodies.Ending.TheVariants as ending
use Rattle.market_events.specs.declared.bodies.PayRule.TheVariants as pay
use Rattle.market_events.specs.declared.bodies.PricedLine.{PricedLine}
use Rattle.market_events.specs.declared.bodies.StockRule.TheVariants as stock
use Rattle.market_events.specs.declared.changes.Look.{Look}
use Rattle.market_events.specs.declared.links.TheConstants.{CART_TO_STOCK, STOCK_TO_CART, STOCK_TO_ORDER}
use Rattle.market_events.specs.declared.links.TheConstants.{ORDER_TO_PAYMENT}
use Rattle.market_events.specs.declared.replies.UndoneRule.TheVariants as undone
use Rattle.market_events.specs.declared.requests.Ask.TheVariants as ask
use Rattle.market_events.specs.declared.requests.Request.{Request}
use Rattle.market_events.specs.Carts.{Held, checkout_rows, first_gone, priced}
use Rattle.market_events.specs.Copies.{copy_of}
use Rattle.market_events.specs.Formed.{body_formed, request_id_formed, id_formed, lines_formed, checkout_formed}
use Rattle.market_events.specs.Payments.{confirmed_rows, failed_rows, invoice_rows}
use Rattle.market_events.specs.declared.roles.Role.{Role}
use Rattle.market_events.specs.Services.{answers, is_known}
use Rattle.market_events.specs.Stocks.{Reservation, reserve_rows}
use Rattle.market_events.specs.WellFormed.{total_of, total_max}
use Rattle.market_events.proofs.Values.Lists.{and_both, and_from}
use Rattle.market_events.proofs.Shapes.WellFormed.{are_formed, answers-formed}
use Rattle.market_events.proofs.Runs.Totals.{lines_formed-total}
use Rattle.market_history.specs.Acts.{Acts, basket_by, limit_by, on_hand_by, stock_table, paid_for_checkouts}
use Rattle.market.specs.Agreeing.{HasTables}
use Rattle.market.specs.Carrying.{Taken, AreRuns, IsNew, request_fits, request_answers, link_asked}
use Rattle.market_history.specs.Sequential.{Verdict, first_short, verdict, verdict_of_basket, verdict_of_stock, verdict_of_card, reply_to_verdict, with_checkout, basket_priced}
use Rattle.market.proofs.Agreeing.Carts.{carts_answer}
use Rattle.market.proofs.Agreeing.Payments as payments
use Rattle.market.proofs.Agreeing.Stocks as stocks
use Rattle.market.proofs.Agreeing.CheckoutLines.{lines_live, lines_known, short_of, refused_short}
use Rattle.market.proofs.Carrying.CheckoutStopped.{ends_stopped, ends_short}
use Rattle.market.proofs.Carrying.CheckoutUnpaid.{ends_unpaid}
use Rattle.market.proofs.Carrying.CheckoutWhole.{ends_whole}
use Rattle.market.proofs.Carrying.Ends.{Ends}

-- the end of a checkout that is whole is well formed
whole_formed : (id : RequestId) (customer : ℕ) (lines : List PricedLine) → checkout_formed id customer lines ≡ true → body_formed (body.Ended id (ending.Whole (total_of lines))) ≡ true
whole_formed id customer lines formed =
    let all = and_both (request_id_formed id && id_formed customer) (lines_formed lines) formed in
    and_from (request_id_formed id) (nat_le (total_of lines) total_max) (and_both (request_id_formed id) (id_formed customer) all.0).0 (le-leb (total_of lines) total_max (lines_formed-total lines all.1))

module _ (taken : Taken) (acts : Acts) (runs : AreRuns taken) (tables : HasTables taken acts) (id : RequestId) (customer : ℕ) where
  abbrev r : Request
  r = record { id = id; ask = ask.Checkout customer }

  abbrev lines : List PricedLine
  lines = basket_priced acts customer

  abbrev checkout : Reservation
  checkout = record { checkout = id; customer = customer; lines = lines }

  abbrev basket : List (ProductKey × Held)
  basket = basket_by acts.baskets customer

  abbrev look : ProductKey → Look
  look = copy_of acts.changes

  abbrev due : ℕ
  due = paid_for_checkouts acts.whole customer + total_of lines

  abbrev short : Option ProductKey
  short = first_short (on_hand_by acts) lines

  -- it ends as this verdict says
  abbrev EndsAs : Verdict → Type 0
  EndsAs v = Ends taken r (reply_to_verdict v (total_of lines)) (with_checkout acts checkout v)

  module _ (new : IsNew taken r) (fit : request_fits taken r ≡ true) where
    rows : request_answers taken r ≡ checkout_rows id customer look basket (first_gone look basket)
    rows = carts_answer taken.carts acts tables.carts (link_asked r) id (ask.Checkout customer)

    module _ (sent : request_answers taken r ≡ (CART_TO_STOCK, body.Reserve id customer lines) ∷ []) where
      formed : checkout_formed id customer lines ≡ true
      formed = (and_both (checkout_formed id customer lines) true (sym (ap are_formed sent) ∙ answers-formed Role.Cart taken.carts (link_asked r) (body.Asked r) (runs Role.Cart) fit)).0

      known : list_all (λ (line : PricedLine). is_known (copy_of acts.changes line.key)) lines ≡ true
      known = lines_known look lines (lines_live look basket)

      reserve_made : answers Role.Stock taken.stocks CART_TO_STOCK (body.Reserve id customer lines) ≡ reserve_rows id customer lines (short_of short)
      reserve_made =
          stocks.reserve_made taken.stocks acts tables.stocks (runs Role.Stock) id customer lines (new.fresh Role.Stock) formed known (new.few Role.Stock)
          ∙ ap (reserve_rows id customer lines) (refused_short (stock_table acts) (λ key. refl) lines (lines_live look basket))

      short_formed : (key : ProductKey) → answers Role.Stock taken.stocks CART_TO_STOCK (body.Reserve id customer lines) ≡ (STOCK_TO_CART, body.ReserveFailed id key stock.Short) ∷ [] → body_formed (body.ReserveFailed id key stock.Short) ≡ true
      short_formed key made =
          (and_both (body_formed (body.ReserveFailed id key stock.Short)) true (sym (ap are_formed made)
          ∙ answers-formed Role.Stock taken.stocks CART_TO_STOCK (body.Reserve id customer lines) (runs Role.Stock) (stocks.reserve_fits taken.stocks acts tables.stocks (runs Role.Stock) id customer lines (new.fresh Role.Stock) formed known (new.few Role.Stock)))).0

      invoice_made : answers Role.Payment taken.payments ORDER_TO_PAYMENT (body.Invoice id customer lines (total_of lines)) ≡ invoice_rows id customer lines (total_of lines) (limit_by acts.cards customer) (paid_for_checkouts acts.whole customer)
      invoice_made = payments.invoice_made taken.payments acts tables.payments id customer lines (new.fresh Role.Payment) formed (new.few Role.Payment)

      by_card : answers Role.Stock taken.stocks CART_TO_STOCK (body.Reserve id customer lines) ≡ (STOCK_TO_ORDER, body.StockConfirmed id customer lines) ∷ [] → body_formed (body.Ended id (ending.Whole (total_of lines))) ≡ true
          → (limit : Option ℕ) → limit_by acts.cards customer ≡ limit → EndsAs (verdict_of_card limit due)
      by_card reserved total_formed None is =
          ends_unpaid taken acts runs tables id customer lines new fit sent formed pay.NoCard known reserved (invoice_made ∙ ap (λ limit. invoice_rows id customer lines (total_of lines) limit (paid_for_checkouts acts.whole customer)) is)
      by_card reserved total_formed (Some limit) is = within (nat_le due limit) refl
        where
          made : (b : Bool) → nat_le due limit ≡ b → answers Role.Payment taken.payments ORDER_TO_PAYMENT (body.Invoice id customer lines (total_of lines))
              ≡ (if b then confirmed_rows (body.Confirmed id customer lines (total_of lines)) else failed_rows (body.Failed id customer pay.OverLimit))
          made b at =
              invoice_made ∙ ap (λ limit. invoice_rows id customer lines (total_of lines) limit (paid_for_checkouts acts.whole customer)) is
              ∙ ap (λ b. if b then confirmed_rows (body.Confirmed id customer lines (total_of lines)) else failed_rows (body.Failed id customer pay.OverLimit)) at

          within : (b : Bool) → nat_le due limit ≡ b → EndsAs (if b then Verdict.Whole else Verdict.Unpaid pay.OverLimit)
          within true at = ends_whole taken acts runs tables id customer lines new fit sent formed total_formed known reserved (made true at)
          within false at = ends_unpaid taken acts runs tables id customer lines new fit sent formed pay.OverLimit known reserved (made false at)

      by_stock : body_formed (body.Ended id (ending.Whole (total_of lines))) ≡ true → (o : Option ProductKey) → short ≡ o → EndsAs (verdict_of_stock o (limit_by acts.cards customer) due)
      by_stock total_formed (Some key) is =
          let refused = reserve_made ∙ ap (λ o. reserve_rows id customer lines (short_of o)) is in
          ends_short taken acts runs tables id customer lines key new fit sent formed (short_formed key refused) known refused
      by_stock total_formed None is = by_card (reserve_made ∙ ap (λ o. reserve_rows id customer lines (short_of o)) is) total_formed (limit_by acts.cards customer) refl

      total_is_formed : body_formed (body.Ended id (ending.Whole (total_of lines))) ≡ true
      total_is_formed = whole_formed id customer lines formed

    by_basket : (bs : List (ProductKey × Held)) (gone : Option ProductKey) → basket ≡ bs → first_gone look basket ≡ gone → EndsAs (verdict_of_basket bs gone short (limit_by acts.cards customer) due)
    by_basket [] found empty first = ends_stopped taken acts runs tables id customer lines undone.CartEmpty fit (rows ∙ (λ i. checkout_rows id customer look (empty i) (first i)))
    by_basket (e ∷ es) (Some key) some first = ends_stopped taken acts runs tables id customer lines (undone.Gone key) fit (rows ∙ (λ i. checkout_rows id customer look (some i) (first i)))
    by_basket (e ∷ es) None some first =
        let sent = rows ∙ (λ i. checkout_rows id customer look (some i) (first i)) ∙ ap (λ bs. (CART_TO_STOCK, body.Reserve id customer (filter_map (priced look) bs)) ∷ []) (sym some) in
        by_stock sent (total_is_formed sent) short refl

    pub ends_checkout : EndsAs (verdict acts customer)
    ends_checkout = by_basket basket (first_gone look basket) refl refl
