-- The same body on two links: an invoice goes to sellers before it goes to payments, and a payment to orders and to sellers before
-- it goes to shipments (invoice-twin, paid-twin-order, paid-twin-seller); the event on the later link counts the other in its past.
use Rattle.std.proofs.Common.{◌≡◌, ℕ, ◌<◌, ◌≤◌, Bool, true, false, List, [], ◌∷◌, ◌++◌, Option, Some, None, slice_index, inl, inr, refl, ap, sym, ◌∙◌, subst, arith}
use Rattle.std.specs.List.{list_any}
use Rattle.market_amounts.specs.declared.keys.RequestId.{RequestId}
use Rattle.market_events.specs.declared.bodies.Body.{Body}
use Rattle.market_events.specs.declared.bodies.Body.TheVariants as body
use Rattle.market_events.specs.declared.events.Event.{Event}
use Rattle.market_events.specs.declared.links.Link.{Link}
use Rattle.market_events.specs.declared.links.Link.TheVariants.{Service}
use Rattle.market_events.specs.declared.links.TheConstants.{SERVICE_LINKS, ORDER_TO_PAYMENT, ORDER_TO_SELLER}
use Rattle.market_events.specs.declared.links.TheConstants.{PAYMENT_TO_STOCK, PAYMENT_TO_ORDER}
use Rattle.market_events.specs.declared.links.TheConstants.{PAYMENT_TO_SHIPMENT, PAYMENT_TO_CUSTOMER}
use Rattle.market_events.specs.declared.links.TheConstants.{PAYMENT_TO_SELLER}
use Rattle.market_events.specs.declared.replies.OrderStatus.{OrderStatus}
use Rattle.market_events.specs.declared.requests.Ask.{Ask}
use Rattle.market_events.specs.declared.requests.Ask.TheVariants as ask
use Rattle.market_events.specs.Links.{same_link, order_node, payment_node, index_of}
use Rattle.market_events.specs.Orders.{OrderSums, order_sums, order_rows, order_asked, order_reply_rows}
use Rattle.market_events.specs.Payments.{PaymentSums, payment_sums, payment_rows, payment_asked, confirmed_rows, failed_rows}
use Rattle.market_events.specs.Steps.{Sending}
use Rattle.market_events.specs.WellFormed.{total_of}
use Rattle.market_events.proofs.Values.Offers.{same_link-same}
use Rattle.market_events.proofs.Runs.Orders.{answers-order}
use Rattle.market_events.proofs.Steps.Payments.{answers-payment}
use Rattle.market_history.specs.Blocks.{services}
use Rattle.market_history.specs.Histories.{Histories}
use Rattle.market_history.specs.Lawful.{IsLawful}
use Rattle.market_laws.specs.Cuts.{steps_at, MadeAt}
use Rattle.market_laws.specs.Runs.{Member}
use Rattle.market_laws.proofs.Origins.Causes.{Cause, cause, sibling}
use Rattle.market_laws.proofs.Origins.Cuts.{Order, first, equal, second, two_places, any_of_member, no_place}
use Rattle.market_laws.proofs.Pasts.Made.{past-made}
use Rattle.market_laws.proofs.Runs.Counts.{member-between}
use Rattle.market_laws.proofs.Runs.Payments.{invoice_cases}

-- the same body, which the node made before on the link of index k; its number is counted
pub record Twin (h : Histories) (n k : ℕ) (f : Event) : Type 0 where
  pub event : Event
  pub at : MadeAt h n event
  pub on : event.link ≡ Service k
  pub body_is : event.body ≡ f.body
  pub counted : event.number ≤ slice_index f.past k

-- it goes on this link
abbrev goes_on : Link → Sending → Bool
goes_on link s = same_link s.0 link

-- this body stands on the link before the rest of the list
abbrev Leads : Link → Body → List Sending → Type 0
Leads link b front = (us : List Sending) × (vs : List Sending) × (front ≡ us ++ (link, b) ∷ vs)

-- what stands before the one of its link stands before it
leads : (us : List Sending) (z : Sending) (vs front : List Sending) (y : Sending) (back : List Sending) (link : Link) → us ++ z ∷ vs ≡ front ++ y ∷ back → y.0 ≡ link
    → list_any (goes_on link) us ≡ false → same_link z.0 link ≡ false → (rest : List Sending) × (front ≡ us ++ z ∷ rest)
leads us z vs front y back link is on none other = by (two_places us z vs front y back is)
  where
    itself : goes_on link y ≡ true
    itself = ap (λ l. same_link l link) on ∙ same_link-same link

    by : Order us z front y → (rest : List Sending) × (front ≡ us ++ z ∷ rest)
    by (first rest is) = (rest, is)
    by (equal is same) = let no : same_link z.0 link ≡ true = ap (λ (s : Sending). same_link s.0 link) same ∙ itself in let never : ⊥ = cc in absurd never
    by (second rest is) =
        let here : Member y us = subst (λ l. Member y l) (sym is) (member-between front y rest) in
        let any : list_any (goes_on link) us ≡ true = any_of_member (goes_on link) y us here itself in
        let never : ⊥ = cc in absurd never

-- nothing of a link stands in a list with nothing on it
absent : (rows front : List Sending) (y : Sending) (back : List Sending) (link : Link) → rows ≡ front ++ y ∷ back → y.0 ≡ link → list_any (goes_on link) rows ≡ false → ⊥
absent rows front y back link is on none =
    let here : Member y rows = subst (λ l. Member y l) (sym is) (member-between front y back) in
    let any : list_any (goes_on link) rows ≡ true = any_of_member (goes_on link) y rows here (ap (λ l. same_link l link) on ∙ same_link-same link) in
    cc

module _ (h : Histories) (n : ℕ) (f : Event) (lawful : IsLawful h) (lt : n < services) (m : MadeAt h n f) where
  -- where the block that made it made the same first on the link of index k
  twin : (k : ℕ) → k < SERVICE_LINKS → ((c : Cause h n f m) → Leads (Service k) f.body c.front) → Twin h n k f
  twin k small lead =
      let c = cause h n f lawful lt m in
      let parts = lead c in
      let s = sibling h n f m c lawful parts.0 (Service k) f.body parts.1 parts.2 in
      record { event = s.event; at = s.at; on = s.link_is; body_is = s.body_is; counted = past-made h n f lawful m s.event k small s.at s.link_is s.clock }

-- what orders answer a request goes on no service link
quiet_order : (s : OrderSums) (id : RequestId) (a : Ask) → list_any (goes_on ORDER_TO_PAYMENT) (order_asked s id a) ≡ false
quiet_order s id (ask.Order checkout) = by (s.status checkout)
  where
    by : (status : Option OrderStatus) → list_any (goes_on ORDER_TO_PAYMENT) (order_reply_rows id status (s.total checkout)) ≡ false
    by None = refl
    by (Some status) = refl
quiet_order s id other = refl

-- an invoice's rows have one body
one_invoice : (b : Body) (y : Sending) → Member y ((ORDER_TO_SELLER, b) ∷ (ORDER_TO_PAYMENT, b) ∷ []) → y.1 ≡ b
one_invoice b y (inl e) = ap (λ (s : Sending). s.1) e
one_invoice b y (inr (inl e)) = ap (λ (s : Sending). s.1) e
one_invoice b y (inr (inr never)) = absurd never

-- an invoice to payments stands after the same to sellers
invoice_leads : (s : OrderSums) (b : Body) (front : List Sending) (link : Link) (c : Body) (back : List Sending) → order_rows s b ≡ front ++ (link, c) ∷ back → link ≡ ORDER_TO_PAYMENT → Leads ORDER_TO_SELLER c front
invoice_leads s (body.Asked request) front link c back is on = absurd (absent (order_asked s request.id request.ask) front (link, c) back ORDER_TO_PAYMENT is on (quiet_order s request.id request.ask))
invoice_leads s (body.StockConfirmed checkout customer lines) front link c back is on =
    let invoice : Body = body.Invoice checkout customer lines (total_of lines) in
    let lead = leads [] (ORDER_TO_SELLER, invoice) ((ORDER_TO_PAYMENT, invoice) ∷ []) front (link, c) back ORDER_TO_PAYMENT is on refl refl in
    let same : c ≡ invoice = one_invoice invoice (link, c) (subst (λ l. Member (link, c) l) (sym is) (member-between front (link, c) back)) in
    ([], lead.0, lead.1 ∙ ap (λ b. (ORDER_TO_SELLER, b) ∷ lead.0) (sym same))
invoice_leads s (body.Failed checkout customer rule) front link c back is on = absurd (absent (order_rows s (body.Failed checkout customer rule)) front (link, c) back ORDER_TO_PAYMENT is on refl)
invoice_leads s (body.Shipped checkout) front link c back is on = absurd (absent (order_rows s (body.Shipped checkout)) front (link, c) back ORDER_TO_PAYMENT is on refl)
invoice_leads s other front link c back is on = absurd (no_place front (link, c) back is)

-- a payment to shipments stands after the same on the link
abbrev PaidLead : Link → List Sending → Type 0
PaidLead earlier rows = (front : List Sending) (link : Link) (c : Body) (back : List Sending) → rows ≡ front ++ (link, c) ∷ back → link ≡ PAYMENT_TO_SHIPMENT → Leads earlier c front

-- a payment's rows have one body
one_body : (b : Body) (y : Sending) → Member y (confirmed_rows b) → y.1 ≡ b
one_body b y (inl e) = ap (λ (s : Sending). s.1) e
one_body b y (inr (inl e)) = ap (λ (s : Sending). s.1) e
one_body b y (inr (inr (inl e))) = ap (λ (s : Sending). s.1) e
one_body b y (inr (inr (inr (inl e)))) = ap (λ (s : Sending). s.1) e
one_body b y (inr (inr (inr (inr (inl e))))) = ap (λ (s : Sending). s.1) e
one_body b y (inr (inr (inr (inr (inr never))))) = absurd never

module _ (earlier : Link) (us vs : Body → List Sending) (parts : (b : Body) → confirmed_rows b ≡ us b ++ (earlier, b) ∷ vs b) (none : (b : Body) → list_any (goes_on PAYMENT_TO_SHIPMENT) (us b) ≡ false)
    (other : same_link earlier PAYMENT_TO_SHIPMENT ≡ false) where
  paid : (b : Body) → PaidLead earlier (confirmed_rows b)
  paid b = λ front link c back is on.
      let lead = leads (us b) (earlier, b) (vs b) front (link, c) back PAYMENT_TO_SHIPMENT (sym (parts b) ∙ is) on (none b) other in
      let same : c ≡ b = one_body b (link, c) (subst (λ l. Member (link, c) l) (sym is) (member-between front (link, c) back)) in
      (us b, lead.0, lead.1 ∙ ap (λ x. us b ++ (earlier, x) ∷ lead.0) (sym same))

  unpaid : (b : Body) → PaidLead earlier (failed_rows b)
  unpaid b = λ front link c back is on. absurd (absent (failed_rows b) front (link, c) back PAYMENT_TO_SHIPMENT is on refl)

  nothing : PaidLead earlier []
  nothing = λ front link c back is on. absurd (no_place front (link, c) back is)

  asked : (s : PaymentSums) (id : RequestId) (a : Ask) → PaidLead earlier (payment_asked s id a)
  asked s id (ask.Card customer limit) = λ front link c back is on. absurd (absent (payment_asked s id (ask.Card customer limit)) front (link, c) back PAYMENT_TO_SHIPMENT is on refl)
  asked s id other = nothing

  paid_leads : (s : PaymentSums) (b : Body) → PaidLead earlier (payment_rows s b)
  paid_leads s (body.Asked request) = asked s request.id request.ask
  paid_leads s (body.Invoice checkout customer lines total) =
      invoice_cases (PaidLead earlier) s checkout customer lines total (paid (body.Confirmed checkout customer lines total)) (λ rule. unpaid (body.Failed checkout customer rule))
  paid_leads s other = nothing

leads_order : (s : PaymentSums) (b : Body) → PaidLead PAYMENT_TO_ORDER (payment_rows s b)
leads_order = paid_leads PAYMENT_TO_ORDER (λ b. (PAYMENT_TO_STOCK, b) ∷ (PAYMENT_TO_CUSTOMER, b) ∷ (PAYMENT_TO_SELLER, b) ∷ []) (λ b. (PAYMENT_TO_SHIPMENT, b) ∷ []) (λ b. refl) (λ b. refl) refl

leads_seller : (s : PaymentSums) (b : Body) → PaidLead PAYMENT_TO_SELLER (payment_rows s b)
leads_seller = paid_leads PAYMENT_TO_SELLER (λ b. (PAYMENT_TO_STOCK, b) ∷ (PAYMENT_TO_CUSTOMER, b) ∷ []) (λ b. (PAYMENT_TO_ORDER, b) ∷ (PAYMENT_TO_SHIPMENT, b) ∷ []) (λ b. refl) (λ b. refl) refl

module _ (h : Histories) (f : Event) (lawful : IsLawful h) where
  -- of an invoice to payments
  pub invoice-twin : MadeAt h order_node f → f.link ≡ ORDER_TO_PAYMENT → Twin h order_node (index_of ORDER_TO_SELLER) f
  invoice-twin m on =
      twin h order_node f lawful (omega arith) m (index_of ORDER_TO_SELLER) (omega arith)
      (λ c. invoice_leads (order_sums (steps_at order_node c.took.before)) c.event.body c.front f.link f.body c.back
      (sym (answers-order (steps_at order_node c.took.before) c.event.link c.event.body) ∙ c.answered) on)

  paid_twin : (k : ℕ) → k < SERVICE_LINKS → ((s : PaymentSums) (b : Body) → PaidLead (Service k) (payment_rows s b)) → MadeAt h payment_node f → f.link ≡ PAYMENT_TO_SHIPMENT → Twin h payment_node k f
  paid_twin k small lead m on =
      twin h payment_node f lawful (omega arith) m k small
      (λ c. lead (payment_sums (steps_at payment_node c.took.before)) c.event.body c.front f.link f.body c.back
      (sym (answers-payment (steps_at payment_node c.took.before) c.event.link c.event.body) ∙ c.answered) on)

  -- of a payment to shipments
  pub paid-twin-order : MadeAt h payment_node f → f.link ≡ PAYMENT_TO_SHIPMENT → Twin h payment_node (index_of PAYMENT_TO_ORDER) f
  paid-twin-order = paid_twin (index_of PAYMENT_TO_ORDER) (omega arith) leads_order

  pub paid-twin-seller : MadeAt h payment_node f → f.link ≡ PAYMENT_TO_SHIPMENT → Twin h payment_node (index_of PAYMENT_TO_SELLER) f
  paid-twin-seller = paid_twin (index_of PAYMENT_TO_SELLER) (omega arith) leads_seller
