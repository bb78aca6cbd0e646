-- How invoices are made: to sellers and to payments, once, in the block of the StockConfirmed.
use Rattle.std.proofs.Common.{◌≡◌, ℕ, ◌≤◌, List, Option, Some, None, count_by, refl, ap, sym, ◌∙◌, subst, arith}
use Rattle.market_amounts.specs.declared.keys.RequestId.{RequestId}
use Rattle.market_events.specs.declared.bodies.Body.{Body}
use Rattle.market_events.specs.declared.bodies.Body.TheVariants as body
use Rattle.market_events.specs.declared.bodies.PricedLine.{PricedLine}
use Rattle.market_events.specs.declared.events.Event.{Event}
use Rattle.market_events.specs.declared.links.Link.{Link}
use Rattle.market_events.specs.declared.links.TheConstants.{STOCK_TO_ORDER, ORDER_TO_PAYMENT, ORDER_TO_SELLER}
use Rattle.market_events.specs.declared.replies.OrderStatus.{OrderStatus}
use Rattle.market_events.specs.declared.requests.Ask.{Ask}
use Rattle.market_events.specs.declared.requests.Ask.TheVariants as ask
use Rattle.market_events.specs.Links.{receiver_of, order_node}
use Rattle.market_events.specs.Orders.{OrderSums, order_sums, order_rows, order_asked, order_reply_rows}
use Rattle.market_events.specs.Services.{invoices}
use Rattle.market_events.specs.WellFormed.{total_of}
use Rattle.market_events.proofs.Runs.Orders.{answers-order}
use Rattle.market_events.proofs.Values.Same.{same_id-self}
use Rattle.market_history.specs.Histories.{Histories}
use Rattle.market_history.specs.Lawful.{IsLawful}
use Rattle.market_laws.specs.Causes.{IsCausedBy, MakesJust, on_each, InvoicesHaveCauses, invoice_links}
use Rattle.market_laws.specs.Cuts.{steps_at, TookAt, MadeAt}
use Rattle.market_laws.specs.Runs.{Member}
use Rattle.market_laws.proofs.Causes.Blocks.{made-few, not-among, same-body, makes-these, among-answers, caused-by, made-by, made-at, took-at}
use Rattle.market_laws.proofs.Causes.Replies.{AllTold, told-member}
use Rattle.market_laws.proofs.Origins.Causes.{cause}
use Rattle.market_laws.proofs.Fits.KindsOnLinks.{came}
use Rattle.market_laws.proofs.Fits.Payments.{invoices-few}
use Rattle.market_laws.proofs.Runs.Orders.{invoices-to-seller}

-- orders answer a request by telling a lane
pub order-tells : (s : OrderSums) (id : RequestId) (a : Ask) → AllTold (order_asked s id a)
order-tells s id (ask.Order checkout) = by (s.status checkout)
  where
    by : (status : Option OrderStatus) → AllTold (order_reply_rows id status (s.total checkout))
    by None = (tt, tt)
    by (Some status) = (tt, tt)
order-tells s id other = tt

-- they invoice what stock holds alone
invoiced_for : (s : OrderSums) (b : Body) (link : Link) (c : RequestId) (customer : ℕ) (lines : List PricedLine) (total : ℕ) → Member (link, body.Invoice c customer lines total) (order_rows s b)
    → b ≡ body.StockConfirmed c customer lines
invoiced_for s (body.Asked request) link c customer lines total here =
    absurd (told-member (order_asked s request.id request.ask) (link, body.Invoice c customer lines total) (order-tells s request.id request.ask) here)
invoiced_for s (body.StockConfirmed id buyer ls) link c customer lines total here =
    let same : body.Invoice c customer lines total ≡ body.Invoice id buyer ls (total_of ls) = same-body invoice_links (body.Invoice id buyer ls (total_of ls)) (link, body.Invoice c customer lines total) here in cc
invoiced_for s (body.Failed id buyer rule) link c customer lines total here =
    absurd (not-among (invoices c) (order_rows s (body.Failed id buyer rule)) (link, body.Invoice c customer lines total) refl here (same_id-self c))
invoiced_for s (body.Shipped id) link c customer lines total here =
    absurd (not-among (invoices c) (order_rows s (body.Shipped id)) (link, body.Invoice c customer lines total) refl here (same_id-self c))
invoiced_for s other link c customer lines total here = absurd here

module _ (h : Histories) (lawful : IsLawful h) (c : RequestId) where
  invoiced : (made : Event) (m : MadeAt h order_node made) (customer : ℕ) (lines : List PricedLine) (total : ℕ) → made.body ≡ body.Invoice c customer lines total
      → IsCausedBy h order_node made m STOCK_TO_ORDER (body.StockConfirmed c customer lines)
  invoiced made m customer lines total is =
      let o = cause h order_node made lawful (omega arith) m in
      let steps = steps_at order_node o.took.before in
      let b = body.Invoice c customer lines total in
      let here = subst (λ l. Member (made.link, b) l) (answers-order steps o.event.link o.event.body) (among-answers h order_node made m o b is) in
      let for = invoiced_for (order_sums steps) o.event.body made.link c customer lines total here in
      caused-by h order_node made m o STOCK_TO_ORDER (body.StockConfirmed c customer lines) (came h order_node o.event o.took (body.StockConfirmed c customer lines) for (omega arith) tt STOCK_TO_ORDER refl) for

  -- the block of a StockConfirmed
  abbrev Invoices : (n : ℕ) (event : Event) → TookAt h n event → ℕ → List PricedLine → Type 0
  Invoices n event t customer lines = (total : ℕ) × MakesJust h n event t (on_each invoice_links (body.Invoice c customer lines total))

  makes_invoices : (event : Event) (customer : ℕ) (lines : List PricedLine) → event.body ≡ body.StockConfirmed c customer lines → (t : TookAt h order_node event) → Invoices order_node event t customer lines
  makes_invoices event customer lines is t =
      let steps = steps_at order_node t.before in (
        total_of lines,
        makes-these h lawful order_node (omega arith) event t (on_each invoice_links (body.Invoice c customer lines (total_of lines)))
            (answers-order steps event.link event.body ∙ ap (order_rows (order_sums steps)) is),
      )

  -- how invoices are made
  pub invoices-caused : InvoicesHaveCauses h c
  invoices-caused = record {
    cause = λ n made m customer lines total is.
        let by = made-by h lawful n made m (body.Invoice c customer lines total) is tt order_node invoice_links refl in
        (by.0, made-at h made (λ n m. IsCausedBy h n made m STOCK_TO_ORDER (body.StockConfirmed c customer lines)) order_node n by.1 (λ m. invoiced made m customer lines total is) m);
    makes = λ n event t customer lines on is.
        took-at h event (λ n t. Invoices n event t customer lines) order_node n (sym (ap receiver_of on) ∙ t.ready.1) (makes_invoices event customer lines is) t;
    once_to_seller = made-few h lawful order_node (omega arith) ORDER_TO_SELLER (invoices c) (λ steps run. subst (λ bs. count_by (invoices c) bs ≤ 1) (invoices-to-seller steps run) (invoices-few c steps run));
    once_to_payment = made-few h lawful order_node (omega arith) ORDER_TO_PAYMENT (invoices c) (invoices-few c);
  }
