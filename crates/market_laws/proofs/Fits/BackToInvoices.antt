-- Back from deliveries to payments (paid-item), from payments to the invoice of a checkout (invoice-back, unpaid-back,
-- paid-back) and to what stock holds for it (held-before); and what was made twice is taken before what follows the second
-- (twin-taken, paid-before).
use Rattle.std.proofs.Common.{◌≡◌, ℕ, ◌<◌, ◌≤◌, true, List, slice_index, refl, ap, sym, ◌∙◌, subst, arith}
use Rattle.std.specs.List.{list_any}
use Rattle.market_amounts.specs.declared.keys.RequestId.{RequestId}
use Rattle.market_events.specs.declared.bodies.Body.{Body}
use Rattle.market_events.specs.declared.bodies.Body.TheVariants as body
use Rattle.market_events.specs.declared.bodies.Item.{Item}
use Rattle.market_events.specs.declared.bodies.PayRule.{PayRule}
use Rattle.market_events.specs.declared.bodies.PricedLine.{PricedLine}
use Rattle.market_events.specs.declared.events.Event.{Event}
use Rattle.market_events.specs.declared.links.Link.TheVariants.{Service}
use Rattle.market_events.specs.declared.links.TheConstants.{SERVICE_LINKS, ORDER_TO_PAYMENT, PAYMENT_TO_STOCK, PAYMENT_TO_ORDER, PAYMENT_TO_SELLER}
use Rattle.market_events.specs.declared.links.TheConstants.{PAYMENT_TO_SHIPMENT, SHIPMENT_TO_ORDER}
use Rattle.market_events.specs.Links.{sender_of, receiver_of, order_node, payment_node, shipment_node}
use Rattle.market_events.specs.declared.roles.Role.{Role}
use Rattle.market_events.specs.declared.links.Link.{Link}
use Rattle.market_events.specs.Services.{IsRunOf, invoices, is_line_of}
use Rattle.market_events.specs.Steps.{Step, taken_bodies, made_on}
use Rattle.market_events.specs.Stocks.{confirms}
use Rattle.market_events.proofs.Values.Same.{same_id-self}
use Rattle.market_history.specs.Blocks.{services}
use Rattle.market_history.specs.Histories.{Histories}
use Rattle.market_history.specs.Lawful.{IsLawful}
use Rattle.market_laws.specs.Cuts.{steps_at, TookAt, MadeAt, FitsBelow}
use Rattle.market_laws.specs.Runs.{Member, is_payment}
use Rattle.market_laws.proofs.Origins.Cuts.{any_of_member}
use Rattle.market_laws.proofs.Origins.Made.{took-before, took-below}
use Rattle.market_laws.proofs.Origins.Back.{Back, BackSome, took-origin, took-origin-some}
use Rattle.market_laws.proofs.Origins.Senders.{took-made-on}
use Rattle.market_laws.proofs.Pasts.Made.{past-taken}
use Rattle.market_laws.proofs.Pasts.Ready.{past-ready}
use Rattle.market_laws.proofs.Fits.SameOnTwoLinks.{Twin}
use Rattle.market_laws.proofs.Fits.AloneOnLinks.{invoice-payment, confirm-shipment, came-alone}
use Rattle.market_laws.proofs.Runs.Counts.{member-filter}
use Rattle.market_laws.proofs.Runs.Orders.{invoice-held}
use Rattle.market_laws.proofs.Runs.Payments.{payments-to-order, payments-to-shipment, payments-to-seller, confirmed-invoice, failed-invoice}
use Rattle.market_laws.proofs.Runs.Shipments.{delivered-paid}

-- what payments make on the link they make to stock as well
abbrev pub GoesToStock : Link → Type 0
GoesToStock link = (steps : List Step) → IsRunOf Role.Payment steps → (b : Body) → Member b (made_on link steps) → Member b (made_on PAYMENT_TO_STOCK steps)

pub to_stock-order : GoesToStock PAYMENT_TO_ORDER
to_stock-order steps run b here = subst (λ bs. Member b bs) (sym (payments-to-order steps run)) here

pub to_stock-shipment : GoesToStock PAYMENT_TO_SHIPMENT
to_stock-shipment steps run b here = member-filter is_payment b (made_on PAYMENT_TO_STOCK steps) (subst (λ bs. Member b bs) (payments-to-shipment steps run) here)

pub to_stock-seller : GoesToStock PAYMENT_TO_SELLER
to_stock-seller steps run b here = subst (λ bs. Member b bs) (sym (payments-to-seller steps run)) here

-- an invoice of a checkout of this customer
abbrev pub IsInvoiceOf : RequestId → ℕ → Body → Type 0
IsInvoiceOf checkout customer b = (lines : List PricedLine) × (total : ℕ) × (b ≡ body.Invoice checkout customer lines total)

module _ (h : Histories) (s : ℕ) (event : Event) (lawful : IsLawful h) (t : TookAt h s event) (link : Link) (on : event.link ≡ link) (leaves : sender_of link ≡ payment_node) (to_stock : GoesToStock link) (checkout : RequestId) (customer : ℕ) where
  -- from a payment
  pub invoice-back : (lines : List PricedLine) (total : ℕ) → event.body ≡ body.Confirmed checkout customer lines total → Back h payment_node event t.clock (body.Invoice checkout customer lines total)
  invoice-back lines total is =
      took-origin h lawful s event t link payment_node on leaves (omega arith) (body.Invoice checkout customer lines total)
      (λ steps run here. confirmed-invoice steps run checkout customer lines total (to_stock steps run (body.Confirmed checkout customer lines total) (subst (λ b. Member b (made_on link steps)) is here)))

  -- and where there is none
  pub unpaid-back : (rule : PayRule) → event.body ≡ body.Failed checkout customer rule → BackSome h payment_node event t.clock (IsInvoiceOf checkout customer)
  unpaid-back rule is =
      took-origin-some h lawful s event t link payment_node on leaves (omega arith) (IsInvoiceOf checkout customer)
      (λ steps run here.
      let found = failed-invoice steps run checkout customer rule (to_stock steps run (body.Failed checkout customer rule) (subst (λ b. Member b (made_on link steps)) is here)) in
      (body.Invoice checkout customer found.0 found.1, found.2, (found.0, found.1, refl)))

-- a payment that shipments took goes back to its invoice
pub paid-back : (h : Histories) (g : Event) → IsLawful h → (took : TookAt h shipment_node g) (checkout : RequestId) (customer : ℕ) (lines : List PricedLine) (total : ℕ) → g.body ≡ body.Confirmed checkout customer lines total
    → Back h payment_node g took.clock (body.Invoice checkout customer lines total)
paid-back h g lawful took checkout customer lines total is =
    invoice-back h shipment_node g lawful took PAYMENT_TO_SHIPMENT (came-alone h shipment_node g took (confirms checkout) PAYMENT_TO_SHIPMENT (confirm-shipment checkout) (ap (confirms checkout) is ∙ same_id-self checkout)) refl to_stock-shipment
    checkout customer lines total is

-- a payment of an item that has a line of it
abbrev pub IsPaidItem : Item → Body → Type 0
IsPaidItem item b = (lines : List PricedLine) × (total : ℕ) × (b ≡ body.Confirmed item.checkout item.customer lines total) × (is_line_of lines item ≡ true)

-- an item of a delivery on the link goes back to its payment, where the link's deliveries go to orders
pub paid-item : (h : Histories) (s : ℕ) (event : Event) → IsLawful h → (t : TookAt h s event) (link : Link) → event.link ≡ link → sender_of link ≡ shipment_node → (items : List Item) → event.body ≡ body.Delivered items
    → ((steps : List Step) → IsRunOf Role.Shipment steps → Member (body.Delivered items) (made_on link steps) → Member (body.Delivered items) (made_on SHIPMENT_TO_ORDER steps)) → (item : Item) → Member item items
    → BackSome h shipment_node event t.clock (IsPaidItem item)
paid-item h s event lawful t link on leaves items is to_orders item here =
    took-origin-some h lawful s event t link shipment_node on leaves (omega arith) (IsPaidItem item)
    (λ steps run made.
    let paid = delivered-paid steps run items (to_orders steps run (subst (λ b. Member b (made_on link steps)) is made)) item here in
    (body.Confirmed item.checkout item.customer paid.lines paid.total, paid.taken, (paid.lines, paid.total, refl, paid.line)))

module _ (h : Histories) (f : Event) (lawful : IsLawful h) (took : TookAt h payment_node f) (checkout : RequestId) (customer : ℕ) (lines : List PricedLine) (total : ℕ) (is : f.body ≡ body.Invoice checkout customer lines total) where
  -- an invoice that payments took came from orders
  pub invoice-on : f.link ≡ ORDER_TO_PAYMENT
  invoice-on = came-alone h payment_node f took (invoices checkout) ORDER_TO_PAYMENT (invoice-payment checkout) (ap (invoices checkout) is ∙ same_id-self checkout)

  -- and was made for what stock holds
  held_back : Back h order_node f took.clock (body.StockConfirmed checkout customer lines)
  held_back =
      took-origin h lawful payment_node f took ORDER_TO_PAYMENT order_node invoice-on refl (omega arith) (body.StockConfirmed checkout customer lines)
      (λ steps run here. (invoice-held steps run checkout customer lines total (subst (λ b. Member b (made_on ORDER_TO_PAYMENT steps)) is here)).0)

  -- which orders took before
  pub held-before : (event : Event) (t : TookAt h order_node event) → took.clock < t.clock → Member (body.StockConfirmed checkout customer lines) (taken_bodies (steps_at order_node t.before))
  held-before event t less =
      let back = held_back in
      let far = back.before in
      subst (λ b. Member b (taken_bodies (steps_at order_node t.before))) back.origin.body_is
      (took-before h lawful order_node (omega arith) event t back.origin.event back.origin.took (omega arith) back.origin.fit)

-- a payment of this checkout
abbrev pub IsPaymentOf : RequestId → Body → Type 0
IsPaymentOf checkout b = (customer : ℕ) × (lines : List PricedLine) × (total : ℕ) × (b ≡ body.Confirmed checkout customer lines total)

module _ (h : Histories) (s : ℕ) (event : Event) (lawful : IsLawful h) (t : TookAt h s event) (lt : s < services) (below : FitsBelow h t.clock) where
  -- what was made twice, the second for something that the event counts, was taken before
  pub twin-taken : (n k : ℕ) → k < SERVICE_LINKS → receiver_of (Service k) ≡ s → (f : Event) (x : Twin h n k f) → slice_index f.past k ≤ slice_index event.past k → Member f.body (taken_bodies (steps_at s t.before))
  twin-taken n k small into f x counts =
      let counted = x.counted in
      let early = past-ready h s event lawful t k n small into x.event x.at x.on (omega arith) in
      subst (λ b. Member b (taken_bodies (steps_at s t.before))) x.body_is (took-below h lawful s lt event t below x.event early.took early.clock)

  -- a checkout that shipments ship on a link was paid on the link of index k
  pub paid-before : (link : Link) (k : ℕ) → event.link ≡ link → sender_of link ≡ shipment_node → k < SERVICE_LINKS → receiver_of (Service k) ≡ s
      → ((g : Event) → MadeAt h payment_node g → g.link ≡ PAYMENT_TO_SHIPMENT → Twin h payment_node k g) → (checkout : RequestId)
      → ((steps : List Step) → IsRunOf Role.Shipment steps → Member event.body (made_on link steps) → (b : Body) × Member b (taken_bodies steps) × IsPaymentOf checkout b)
      → list_any (confirms checkout) (taken_bodies (steps_at s t.before)) ≡ true
  paid-before link k on leaves small into twins checkout run =
      let some = took-origin-some h lawful s event t link shipment_node on leaves (omega arith) (IsPaymentOf checkout) run in
      let origin = some.back.origin in
      let g = origin.event in
      let passes : confirms checkout g.body ≡ true = ap (confirms checkout) (origin.body_is ∙ some.holds.3) ∙ same_id-self checkout in
      let to_shipment = came-alone h shipment_node g origin.took (confirms checkout) PAYMENT_TO_SHIPMENT (confirm-shipment checkout) passes in
      let made : MadeAt h payment_node g = (took-made-on h lawful shipment_node g PAYMENT_TO_SHIPMENT origin.took to_shipment).made in
      let here = twin-taken payment_node k small into g (twins g made to_shipment) (past-taken h shipment_node event lawful some.back.made g k small origin.took origin.clock) in
      any_of_member (confirms checkout) g.body (taken_bodies (steps_at s t.before)) here passes
