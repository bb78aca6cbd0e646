-- In settled histories the counts of a checkout's events agree from service to service, so as many of it ended as were sent on:
-- what the cart sent on to stock was refused, or its pieces are held (sent-on); what is held was paid for or was not
-- (held-settled); and what the cart took of ends is as much as it sent on (ended-sent).
use Rattle.std.proofs.Common.{◌≡◌, ℕ, ◌+◌, ◌<◌, ◌≤◌, Bool, true, false, cond, List, count_by, refl, ap, sym, ◌∙◌, subst, arith}
use Rattle.market_amounts.specs.declared.keys.RequestId.{RequestId}
use Rattle.market_events.specs.declared.bodies.Body.{Body}
use Rattle.market_events.specs.declared.bodies.Body.TheVariants as body
use Rattle.market_events.specs.Carried.{carries, service_carries}
use Rattle.market_events.specs.Links.{cart_node, stock_node, order_node, payment_node, shipment_node}
use Rattle.market_events.specs.Orders.{ships}
use Rattle.market_events.specs.Requests.{same_id}
use Rattle.market_events.specs.Services.{ends, invoices, reserves}
use Rattle.market_events.specs.Steps.{Step, taken_bodies, made_on}
use Rattle.market_events.specs.Stocks.{confirms, fails, settles}
use Rattle.market_events.specs.declared.links.TheConstants.{CART_TO_STOCK, STOCK_TO_CART, STOCK_TO_ORDER, PAYMENT_TO_ORDER, PAYMENT_TO_SHIPMENT, SHIPMENT_TO_ORDER}
use Rattle.market_events.specs.declared.links.TheConstants.{ORDER_TO_PAYMENT, ORDER_TO_CART, PAYMENT_TO_STOCK}
use Rattle.market_events.specs.declared.links.Link.{Link}
use Rattle.market_events.proofs.Values.Lists.{sum_by_agree, sum_by_plus}
use Rattle.market_history.specs.Blocks.{services}
use Rattle.market_history.specs.Histories.{Histories, journal_at}
use Rattle.market_history.specs.Lawful.{IsLawful}
use Rattle.market_history.specs.Outstanding.{IsSettled}
use Rattle.market_history.proofs.GrowSent.{bodies_on}
use Rattle.market_laws.specs.Cuts.{steps_at}
use Rattle.market_laws.specs.Runs.{holds_pieces, is_payment}
use Rattle.market_laws.proofs.Causes.FewOnLinks.{made-of-member, count-members}
use Rattle.market_laws.proofs.Origins.Made.{steps-run, whole}
use Rattle.market_laws.proofs.Origins.Senders.{made-as}
use Rattle.market_laws.proofs.Settled.Passing.{count-kept}
use Rattle.market_laws.proofs.Runs.Orders.{invoices-is-held, ends-is}
use Rattle.market_laws.proofs.Runs.Payments.{payments-to-order, payments-to-shipment, settles-is-invoices}
use Rattle.market_laws.proofs.Runs.Shipments.{shipped-is}
use Rattle.market_laws.proofs.Runs.Stock.{answered-is}
use Rattle.market_laws.proofs.Settled.Links.{ComesOn, count-made}

-- stock refused the checkout, and its order ended
abbrev pub refuses : RequestId → Body → Bool
refuses id (body.ReserveFailed checkout key rule) = same_id checkout id
refuses id other = false

abbrev pub finishes : RequestId → Body → Bool
finishes id (body.Ended checkout ending) = same_id checkout id
finishes id other = false

-- where each kind comes in
pub reserves-come : (id : RequestId) → ComesOn stock_node CART_TO_STOCK (reserves id)
reserves-come id (body.Reserve checkout customer lines) passes = (tt, refl)
reserves-come id other passes = cc

pub refuses-come : (id : RequestId) → ComesOn cart_node STOCK_TO_CART (refuses id)
refuses-come id (body.ReserveFailed checkout key rule) passes = (tt, refl)
refuses-come id other passes = cc

pub holds-come : (id : RequestId) → ComesOn order_node STOCK_TO_ORDER (holds_pieces id)
holds-come id (body.StockConfirmed checkout customer lines) passes = (tt, refl)
holds-come id other passes = cc

pub invoices-come : (id : RequestId) → ComesOn payment_node ORDER_TO_PAYMENT (invoices id)
invoices-come id (body.Invoice checkout customer lines total) passes = (tt, refl)
invoices-come id other passes = cc

pub finishes-come : (id : RequestId) → ComesOn cart_node ORDER_TO_CART (finishes id)
finishes-come id (body.Ended checkout ending) passes = (tt, refl)
finishes-come id other passes = cc

pub fails-come : (id : RequestId) → ComesOn order_node PAYMENT_TO_ORDER (fails id)
fails-come id (body.Failed checkout customer rule) passes = (tt, refl)
fails-come id other passes = cc

pub confirms-come : (id : RequestId) → ComesOn shipment_node PAYMENT_TO_SHIPMENT (confirms id)
confirms-come id (body.Confirmed checkout customer lines total) passes = (tt, refl)
confirms-come id other passes = cc

pub ships-come : (id : RequestId) → ComesOn order_node SHIPMENT_TO_ORDER (ships id)
ships-come id (body.Shipped checkout) passes = (tt, refl)
ships-come id other passes = cc

-- an end is a refusal of stock, or the end of an order
ends-parts : (id : RequestId) (bs : List Body) → count_by (ends id) bs ≡ count_by (refuses id) bs + count_by (finishes id) bs
ends-parts id bs = sum_by_agree (λ b. cond (ends id b) 1 0) (λ b. cond (refuses id b) 1 0 + cond (finishes id b) 1 0) each bs ∙ sum_by_plus (λ b. cond (refuses id b) 1 0) (λ b. cond (finishes id b) 1 0) bs
  where
    each : (b : Body) → cond (ends id b) 1 0 ≡ cond (refuses id b) 1 0 + cond (finishes id b) 1 0
    each (body.ReserveFailed checkout key rule) = omega arith
    each (body.Ended checkout ending) = omega arith
    each other = omega arith

-- what settles a checkout pays it, or fails it
pub settles-parts : (id : RequestId) (bs : List Body) → count_by (settles id) bs ≡ count_by (confirms id) bs + count_by (fails id) bs
settles-parts id bs = sum_by_agree (λ b. cond (settles id b) 1 0) (λ b. cond (confirms id b) 1 0 + cond (fails id b) 1 0) each bs ∙ sum_by_plus (λ b. cond (confirms id b) 1 0) (λ b. cond (fails id b) 1 0) bs
  where
    each : (b : Body) → cond (settles id b) 1 0 ≡ cond (confirms id b) 1 0 + cond (fails id b) 1 0
    each (body.Confirmed checkout customer lines total) = omega arith
    each (body.Failed checkout customer rule) = omega arith
    each other = omega arith

-- what pays a checkout is a payment
pub confirms-payment : (id : RequestId) (b : Body) → confirms id b ≡ true → is_payment b ≡ true
confirms-payment id (body.Confirmed checkout customer lines total) passes = refl
confirms-payment id other passes = cc

module _ (h : Histories) (lawful : IsLawful h) where
  abbrev pub steps_now : ℕ → List Step
  steps_now n = steps_at n (journal_at h n)

  -- of what is made on a link no more passes one test than another, where that is so of all that the link carries
  pub count-carried : (n : ℕ) → n < services → (link : Link) (test other : Body → Bool) → ((b : Body) → carries link b ≡ true → test b ≡ true → other b ≡ true) → count_by test (made_on link (steps_now n)) ≤ count_by other (made_on link (steps_now n))
  count-carried n lt link test other each =
      subst (λ bs. count_by test bs ≤ count_by other bs) (whole h lawful n lt link)
      (count-members test other (bodies_on link (journal_at h n)) (λ b here passes.
      let m = made-of-member h lawful n (omega arith) link b here in
      let carried = (made-as h lawful n m.event m.made).carried in
      each b (subst (λ l. carries l b ≡ true) m.on (subst (λ x. carries m.event.link x ≡ true) m.body_is carried)) passes))

  -- from stock to the cart only refusals end, and from orders to the cart only ends of orders
  stock_refuses : (id : RequestId) (b : Body) → service_carries STOCK_TO_CART b ≡ true → ends id b ≡ true → refuses id b ≡ true
  stock_refuses id (body.ReserveFailed checkout key rule) carried passes = passes
  stock_refuses id (body.Ended checkout ending) carried passes = carried
  stock_refuses id other carried passes = cc

  orders_finish : (id : RequestId) (b : Body) → service_carries ORDER_TO_CART b ≡ true → ends id b ≡ true → finishes id b ≡ true
  orders_finish id (body.Ended checkout ending) carried passes = passes
  orders_finish id (body.ReserveFailed checkout key rule) carried passes = carried
  orders_finish id other carried passes = cc

  refuses-end : (id : RequestId) (b : Body) → refuses id b ≡ true → ends id b ≡ true
  refuses-end id (body.ReserveFailed checkout key rule) passes = passes
  refuses-end id other passes = cc

  finishes-end : (id : RequestId) (b : Body) → finishes id b ≡ true → ends id b ≡ true
  finishes-end id (body.Ended checkout ending) passes = passes
  finishes-end id other passes = cc

  pub refused-by-stock : (id : RequestId) → count_by (ends id) (made_on STOCK_TO_CART (steps_now stock_node)) ≡ count_by (refuses id) (made_on STOCK_TO_CART (steps_now stock_node))
  refused-by-stock id = omega (
    arith,
    count-carried stock_node (omega arith) STOCK_TO_CART (ends id) (refuses id) (stock_refuses id),
    count-carried stock_node (omega arith) STOCK_TO_CART (refuses id) (ends id) (λ b carried. refuses-end id b),
  )

  pub finished-by-orders : (id : RequestId) → count_by (ends id) (made_on ORDER_TO_CART (steps_now order_node)) ≡ count_by (finishes id) (made_on ORDER_TO_CART (steps_now order_node))
  finished-by-orders id = omega (
    arith,
    count-carried order_node (omega arith) ORDER_TO_CART (ends id) (finishes id) (orders_finish id),
    count-carried order_node (omega arith) ORDER_TO_CART (finishes id) (ends id) (λ b carried. finishes-end id b),
  )

  module _ (settled : IsSettled h) (id : RequestId) where
    -- what was sent on is held, or was refused
    pub sent-on : count_by (holds_pieces id) (made_on STOCK_TO_ORDER (steps_now stock_node)) + count_by (ends id) (made_on STOCK_TO_CART (steps_now stock_node)) ≡ count_by (reserves id) (made_on CART_TO_STOCK (steps_now cart_node))
    sent-on =
        answered-is (steps_now stock_node) (steps-run stock_node (journal_at h stock_node)) id
        ∙ count-made h lawful settled stock_node cart_node CART_TO_STOCK (omega arith) (omega arith) (omega arith) refl refl (reserves id) (reserves-come id)

    -- orders took what is held
    pub held-orders : count_by (holds_pieces id) (taken_bodies (steps_now order_node)) ≡ count_by (holds_pieces id) (made_on STOCK_TO_ORDER (steps_now stock_node))
    held-orders = count-made h lawful settled order_node stock_node STOCK_TO_ORDER (omega arith) (omega arith) (omega arith) refl refl (holds_pieces id) (holds-come id)

    -- and invoiced it
    pub held-invoiced : count_by (invoices id) (made_on ORDER_TO_PAYMENT (steps_now order_node)) ≡ count_by (holds_pieces id) (made_on STOCK_TO_ORDER (steps_now stock_node))
    held-invoiced = invoices-is-held (steps_now order_node) (steps-run order_node (journal_at h order_node)) id ∙ held-orders

    -- so it was paid for, or was not
    pub held-settled : count_by (confirms id) (made_on PAYMENT_TO_STOCK (steps_now payment_node)) + count_by (fails id) (made_on PAYMENT_TO_STOCK (steps_now payment_node)) ≡ count_by (holds_pieces id) (made_on STOCK_TO_ORDER (steps_now stock_node))
    held-settled = sym (settles-parts id (made_on PAYMENT_TO_STOCK (steps_now payment_node))) ∙ settles-is-invoices (steps_now payment_node) (steps-run payment_node (journal_at h payment_node)) id
        ∙ count-made h lawful settled payment_node order_node ORDER_TO_PAYMENT (omega arith) (omega arith) (omega arith) refl refl (invoices id) (invoices-come id) ∙ held-invoiced

    -- orders took each failure, and a shipment for each payment
    pub failed-orders : count_by (fails id) (taken_bodies (steps_now order_node)) ≡ count_by (fails id) (made_on PAYMENT_TO_STOCK (steps_now payment_node))
    failed-orders =
        count-made h lawful settled order_node payment_node PAYMENT_TO_ORDER (omega arith) (omega arith) (omega arith) refl refl (fails id) (fails-come id)
        ∙ ap (count_by (fails id)) (sym (payments-to-order (steps_now payment_node) (steps-run payment_node (journal_at h payment_node))))

    pub paid-shipments : count_by (confirms id) (taken_bodies (steps_now shipment_node)) ≡ count_by (confirms id) (made_on PAYMENT_TO_STOCK (steps_now payment_node))
    paid-shipments =
        count-made h lawful settled shipment_node payment_node PAYMENT_TO_SHIPMENT (omega arith) (omega arith) (omega arith) refl refl (confirms id) (confirms-come id)
        ∙ ap (count_by (confirms id)) (payments-to-shipment (steps_now payment_node) (steps-run payment_node (journal_at h payment_node))) ∙ count-kept (confirms id) is_payment (confirms-payment id) (made_on PAYMENT_TO_STOCK (steps_now payment_node))

    pub shipped-orders : count_by (ships id) (taken_bodies (steps_now order_node)) ≡ count_by (confirms id) (made_on PAYMENT_TO_STOCK (steps_now payment_node))
    shipped-orders =
        count-made h lawful settled order_node shipment_node SHIPMENT_TO_ORDER (omega arith) (omega arith) (omega arith) refl refl (ships id) (ships-come id)
        ∙ shipped-is (steps_now shipment_node) (steps-run shipment_node (journal_at h shipment_node)) id ∙ paid-shipments

    -- orders ended what is held
    pub ended-held : count_by (ends id) (made_on ORDER_TO_CART (steps_now order_node)) ≡ count_by (holds_pieces id) (made_on STOCK_TO_ORDER (steps_now stock_node))
    ended-held = omega (arith, ends-is (steps_now order_node) (steps-run order_node (journal_at h order_node)) id, failed-orders, shipped-orders, held-settled)

    -- the cart took each refusal, and each end
    pub refused-cart : count_by (refuses id) (taken_bodies (steps_now cart_node)) ≡ count_by (ends id) (made_on STOCK_TO_CART (steps_now stock_node))
    refused-cart = count-made h lawful settled cart_node stock_node STOCK_TO_CART (omega arith) (omega arith) (omega arith) refl refl (refuses id) (refuses-come id) ∙ sym (refused-by-stock id)

    pub finished-cart : count_by (finishes id) (taken_bodies (steps_now cart_node)) ≡ count_by (ends id) (made_on ORDER_TO_CART (steps_now order_node))
    finished-cart = count-made h lawful settled cart_node order_node ORDER_TO_CART (omega arith) (omega arith) (omega arith) refl refl (finishes id) (finishes-come id) ∙ sym (finished-by-orders id)

    -- the cart took as many ends as it sent on
    pub ended-sent : count_by (ends id) (taken_bodies (steps_now cart_node)) ≡ count_by (reserves id) (made_on CART_TO_STOCK (steps_now cart_node))
    ended-sent = omega (arith, ends-parts id (taken_bodies (steps_now cart_node)), refused-cart, finished-cart, ended-held, sent-on)
