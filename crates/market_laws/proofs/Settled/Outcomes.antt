-- In settled histories stock's reservations are what orders took, what they invoiced, and what payments settled, in one order
-- (orders-held, sellers-held, settled-held). So what was paid are the reservations that a test picks (paid-held), and what the cart
-- told to be undone for want of payment are the others (unpaid-held).
use Rattle.std.proofs.Common.{◌≡◌, ℕ, ◌+◌, ◌≤◌, Bool, false, not, List, [], ◌∷◌, ◌++◌, is_some, filter, filter_map, count_by, refl, ap, sym, ◌∙◌, subst, arith}
use Rattle.std.specs.List.{flat_map, list_any}
use Rattle.market_amounts.specs.declared.keys.RequestId.{RequestId}
use Rattle.market_events.specs.declared.bodies.Body.{Body}
use Rattle.market_events.specs.declared.bodies.Body.TheVariants as body
use Rattle.market_events.specs.declared.bodies.Ending.TheVariants as ending
use Rattle.market_events.specs.declared.bodies.PayRule.{PayRule}
use Rattle.market_events.specs.declared.links.TheConstants.{ORDER_TO_PAYMENT, PAYMENT_TO_STOCK, STOCK_TO_ORDER, ORDER_TO_SELLER, ORDER_TO_CART, PAYMENT_TO_ORDER}
use Rattle.market_events.specs.declared.replies.Reply.TheVariants as reply
use Rattle.market_events.specs.declared.replies.UndoneRule.TheVariants as undone
use Rattle.market_events.specs.Links.{cart_node, stock_node, order_node, payment_node, seller_node}
use Rattle.market_events.specs.Orders.{checkouts_taken, is_of}
use Rattle.market_events.specs.declared.roles.Role.{Role}
use Rattle.market_events.specs.Steps.{Sending, taken_bodies, made_in, made_on}
use Rattle.market_events.specs.Stocks.{Reservation, reservation_in, reservations, confirms, fails}
use Rattle.market_events.proofs.Values.Lists.{any-none}
use Rattle.market_events.proofs.Values.Same.{same_id-self}
use Rattle.market_events.proofs.Steps.SellerEntries.{invoice_in, invoices_taken}
use Rattle.market_events.proofs.Runs.Stock.{reserved_once}
use Rattle.market_history.specs.Blocks.{service_steps}
use Rattle.market_history.specs.Book.{paid_in, undone_at, unpaid_of, undone_sent}
use Rattle.market_history.specs.Histories.{Histories, journal_at}
use Rattle.market_history.specs.Lawful.{IsLawful}
use Rattle.market_history.specs.Outstanding.{IsSettled}
use Rattle.market_laws.specs.Runs.{Member}
use Rattle.market_laws.proofs.Origins.Cuts.{any_of_member}
use Rattle.market_laws.proofs.Origins.Made.{steps-run}
use Rattle.market_laws.proofs.Views.GatheredOnLinks.{gathered-made}
use Rattle.market_laws.proofs.Settled.Passing.{single}
use Rattle.market_laws.proofs.Runs.PaymentOutcomes.{AreSettled, payments-settled, failed_in, Picks, paid-picked, unpaid-others}
use Rattle.market_laws.proofs.Runs.Gathered.{invoices-held, ended_unpaid, ends-failed, told_unpaid, told-unpaid}
use Rattle.market_laws.proofs.Runs.Orders.{invoices-to-seller}
use Rattle.market_laws.proofs.Runs.Payments.{invoices-once, payments-to-order, settles-is-invoices}
use Rattle.market_laws.proofs.Settled.Counts.{settles-parts}
use Rattle.market_laws.proofs.Settled.Links.{ComesOn}
use Rattle.market_laws.proofs.Settled.Ways.{counted}

-- where these bodies come in
held-orders : ComesOn order_node STOCK_TO_ORDER (λ b. is_some (reservation_in b))
held-orders (body.StockConfirmed checkout customer lines) passes = (tt, refl)
held-orders other passes = cc

invoice-payments : ComesOn payment_node ORDER_TO_PAYMENT (λ b. is_some (invoice_in b))
invoice-payments (body.Invoice checkout customer lines total) passes = (tt, refl)
invoice-payments other passes = cc

invoice-sellers : ComesOn seller_node ORDER_TO_SELLER (λ b. is_some (invoice_in b))
invoice-sellers (body.Invoice checkout customer lines total) passes = (tt, refl)
invoice-sellers other passes = cc

end-cart : ComesOn cart_node ORDER_TO_CART (λ b. is_some (ended_unpaid b))
end-cart (body.Ended checkout (ending.Undone rule)) passes = (tt, refl)
end-cart (body.Ended checkout (ending.Whole total)) passes = cc
end-cart other passes = cc

failed-orders : ComesOn order_node PAYMENT_TO_ORDER (λ b. is_some (failed_in b))
failed-orders (body.Failed checkout customer rule) passes = (tt, refl)
failed-orders other passes = cc

-- what was reserved for those that are told to be unpaid
unpaid-lists : (h : Histories) (made : List Sending)
    → flat_map (unpaid_of h) (filter_map undone_sent made) ≡ flat_map (λ id. filter (is_of id) (reservations (service_steps h Role.Stock))) (filter_map told_unpaid made)
unpaid-lists h [] = refl
unpaid-lists h (m ∷ made) = one m (unpaid-lists h made)
  where
    Held : RequestId → List Reservation
    Held id = filter (is_of id) (reservations (service_steps h Role.Stock))

    one : (m : Sending) → flat_map (unpaid_of h) (filter_map undone_sent made) ≡ flat_map Held (filter_map told_unpaid made) → flat_map (unpaid_of h) (filter_map undone_sent (m ∷ made)) ≡ flat_map Held (filter_map told_unpaid (m ∷ made))
    one (link, body.Told id (reply.Undone undone.NoCard)) rest = ap (λ l. Held id ++ l) rest
    one (link, body.Told id (reply.Undone undone.OverLimit)) rest = ap (λ l. Held id ++ l) rest
    one (link, body.Told id (reply.Undone undone.CartEmpty)) rest = rest
    one (link, body.Told id (reply.Undone (undone.Gone key))) rest = rest
    one (link, body.Told id (reply.Undone (undone.Short key))) rest = rest
    one other rest = rest

module _ (h : Histories) where
  -- what stock reserved, and what payments settled
  abbrev pub held : List Reservation
  held = reservations (service_steps h Role.Stock)

  abbrev pub settling : List Body
  settling = made_on PAYMENT_TO_STOCK (service_steps h Role.Payment)

  -- the checkout was paid
  abbrev pub was_paid : Reservation → Bool
  was_paid r = list_any (confirms r.checkout) settling

module _ (h : Histories) (lawful : IsLawful h) (settled : IsSettled h) where
  pub orders-held : checkouts_taken (service_steps h Role.Order) ≡ held h
  orders-held = gathered-made h lawful settled order_node stock_node STOCK_TO_ORDER (omega arith) (omega arith) (omega arith) refl refl reservation_in held-orders

  orders-invoiced : filter_map invoice_in (made_on ORDER_TO_PAYMENT (service_steps h Role.Order)) ≡ held h
  orders-invoiced = invoices-held (service_steps h Role.Order) (steps-run order_node (journal_at h order_node)) ∙ orders-held

  payments-held : filter_map invoice_in (taken_bodies (service_steps h Role.Payment)) ≡ held h
  payments-held = gathered-made h lawful settled payment_node order_node ORDER_TO_PAYMENT (omega arith) (omega arith) (omega arith) refl refl invoice_in invoice-payments ∙ orders-invoiced

  pub sellers-held : invoices_taken (service_steps h Role.Seller) ≡ held h
  sellers-held =
      gathered-made h lawful settled seller_node order_node ORDER_TO_SELLER (omega arith) (omega arith) (omega arith) refl refl invoice_in invoice-sellers
      ∙ ap (filter_map invoice_in) (sym (invoices-to-seller (service_steps h Role.Order) (steps-run order_node (journal_at h order_node)))) ∙ orders-invoiced

  pub settled-held : AreSettled (held h) (settling h)
  settled-held = subst (λ rs. AreSettled rs (settling h)) payments-held (payments-settled (service_steps h Role.Payment) (steps-run payment_node (journal_at h payment_node)))

  -- a checkout is settled once at most
  pub settled-few : (id : RequestId) → count_by (confirms id) (settling h) + count_by (fails id) (settling h) ≤ 1
  settled-few id =
      let run = steps-run payment_node (journal_at h payment_node) in
      omega (arith, settles-parts id (settling h), settles-is-invoices (service_steps h Role.Payment) run id, invoices-once (service_steps h Role.Payment) run id)

  -- one that failed was not paid
  failed-unpaid : (id : RequestId) (customer : ℕ) (rule : PayRule) → Member (body.Failed id customer rule) (settling h) → list_any (confirms id) (settling h) ≡ false
  failed-unpaid id customer rule here =
      any-none (confirms id) (settling h) (omega (arith, settled-few id, counted (fails id) (body.Failed id customer rule) (settling h) here (same_id-self id)))

  pub paid-picks : Picks (was_paid h) (settling h)
  paid-picks = record {
    yes = λ r total here. any_of_member (confirms r.checkout) (body.Confirmed r.checkout r.customer r.lines total) (settling h) here (same_id-self r.checkout);
    no = λ r rule here. failed-unpaid r.checkout r.customer rule here;
  }

  -- a reservation is the one of its checkout
  pub held-alone : (r : Reservation) → Member r (held h) → filter (is_of r.checkout) (held h) ≡ r ∷ []
  held-alone r here =
      let few = reserved_once (service_steps h Role.Stock) (steps-run stock_node (journal_at h stock_node)) r.checkout in
      let some = counted (is_of r.checkout) r (held h) here (same_id-self r.checkout) in
      single (is_of r.checkout) r (held h) (omega arith) here (same_id-self r.checkout)

  pub paid-held : filter_map paid_in (settling h) ≡ filter (was_paid h) (held h)
  paid-held = paid-picked (was_paid h) settled-held paid-picks

  -- the carts told those that failed, in this order
  told-failed : filter_map told_unpaid (made_in (service_steps h Role.Cart)) ≡ filter_map failed_in (settling h)
  told-failed =
      told-unpaid (service_steps h Role.Cart) (steps-run cart_node (journal_at h cart_node))
      ∙ gathered-made h lawful settled cart_node order_node ORDER_TO_CART (omega arith) (omega arith) (omega arith) refl refl ended_unpaid end-cart
      ∙ ends-failed (service_steps h Role.Order) (steps-run order_node (journal_at h order_node))
      ∙ gathered-made h lawful settled order_node payment_node PAYMENT_TO_ORDER (omega arith) (omega arith) (omega arith) refl refl failed_in failed-orders
      ∙ ap (filter_map failed_in) (sym (payments-to-order (service_steps h Role.Payment) (steps-run payment_node (journal_at h payment_node))))

  pub unpaid-held : flat_map (unpaid_of h) (undone_at h) ≡ filter (λ (r : Reservation). not (was_paid h r)) (held h)
  unpaid-held =
      unpaid-lists h (made_in (service_steps h Role.Cart))
      ∙ ap (flat_map (λ id. filter (is_of id) (held h))) told-failed
      ∙ unpaid-others (was_paid h) (held h) settled-held paid-picks held-alone
