-- What sellers take fits: a checkout is invoiced once, it is settled once and as it was invoiced, it is shipped once and was
-- paid, and an item is delivered once, of a checkout that was shipped and has a line of it.
use Rattle.std.proofs.Common.{◌≡◌, ℕ, ◌≤◌, Bool, true, false, ◌==◌, not, List, [], ◌∷◌, slice_index, count_by, inl, inr, eq-eqb, refl, ap, sym, ◌∙◌, subst, arith}
use Rattle.std.specs.List.{list_any, list_all, flat_map}
use Rattle.std.proofs.lemmas.List.Folds.{list_any-append}
use Rattle.market_amounts.specs.declared.keys.RequestId.{RequestId}
use Rattle.market_events.specs.declared.bodies.Body.{Body}
use Rattle.market_events.specs.declared.bodies.Body.TheVariants as body
use Rattle.market_events.specs.declared.bodies.Item.{Item}
use Rattle.market_events.specs.declared.bodies.PayRule.{PayRule}
use Rattle.market_events.specs.declared.bodies.PricedLine.{PricedLine}
use Rattle.market_events.specs.declared.events.Event.{Event}
use Rattle.market_events.specs.declared.links.TheConstants.{ORDER_TO_PAYMENT, PAYMENT_TO_SELLER, ORDER_TO_SELLER}
use Rattle.market_events.specs.declared.links.TheConstants.{SHIPMENT_TO_SELLER}
use Rattle.market_events.specs.declared.requests.Request.{Request}
use Rattle.market_events.specs.Links.{order_node, payment_node, shipment_node, seller_node, index_of}
use Rattle.market_events.specs.Orders.{is_taken, ships, items_taken}
use Rattle.market_events.specs.Requests.{same_id, same_key}
use Rattle.market_events.specs.Sellers.{lines_invoiced, invoice_lines}
use Rattle.market_events.specs.declared.roles.Role.{Role}
use Rattle.market_events.specs.Services.{role_fits, invoices, invoices_for, invoices_lines, is_line_of, seller_item_fits, items_apart}
use Rattle.market_events.specs.Steps.{Step, made_on, taken_bodies}
use Rattle.market_events.specs.Stocks.{confirms, settles, is_settled}
use Rattle.market_events.proofs.Values.Lists.{and_from, or_left, or_right}
use Rattle.market_events.proofs.Values.Same.{same_id-self, same_lines-self}
use Rattle.market_history.specs.Blocks.{role_at}
use Rattle.market_history.specs.Histories.{Histories}
use Rattle.market_history.specs.Lawful.{IsLawful}
use Rattle.market_laws.specs.Cuts.{steps_at, TookAt, MadeAt, FitsBelow}
use Rattle.market_laws.specs.Runs.{Member, is_delivery}
use Rattle.market_laws.proofs.Origins.Cuts.{any_of_member}
use Rattle.market_laws.proofs.Origins.Back.{BackSome}
use Rattle.market_laws.proofs.Origins.Senders.{took-made-on}
use Rattle.market_laws.proofs.Pasts.Made.{past-taken}
use Rattle.market_laws.proofs.Fits.KindsOnLinks.{never-came}
use Rattle.market_laws.proofs.Fits.CopyMembers.{all_of_members}
use Rattle.market_laws.proofs.Fits.ItemsApart.{apart-before, shipped-before, items_once-seller}
use Rattle.market_laws.proofs.Fits.Orders.{ships-few}
use Rattle.market_laws.proofs.Fits.BackToInvoices.{to_stock-seller, IsPaidItem, invoice-back, unpaid-back, paid-back, paid-item, invoice-on, twin-taken, paid-before}
use Rattle.market_laws.proofs.Fits.SameOnTwoLinks.{invoice-twin, paid-twin-seller}
use Rattle.market_laws.proofs.Fits.Payments.{invoices-few}
use Rattle.market_laws.proofs.Fits.AloneOnLinks.{invoice-seller, settle-seller, ship-seller, delivery-seller, came-alone, none-taken}
use Rattle.market_laws.proofs.Fits.Shipments.{settles-few}
use Rattle.market_laws.proofs.Runs.Orders.{invoices-to-seller}
use Rattle.market_laws.proofs.Runs.Payments.{payments-to-seller}
use Rattle.market_laws.proofs.Runs.Shipments.{shipments-to-seller, shipped-paid, delivered-shipped}

-- what a member's part has
any_of_part : {A B : Type 0} (test : B → Bool) (f : A → List B) (x : A) (xs : List A) → Member x xs → list_any test (f x) ≡ true → list_any test (flat_map f xs) ≡ true
any_of_part test f x [] here passes = absurd here
any_of_part test f x (y ∷ ys) (inl same) passes =
    list_any-append test (f y) (flat_map f ys) ∙ or_left (list_any test (f y)) (list_any test (flat_map f ys)) (ap (λ z. list_any test (f z)) (sym same) ∙ passes)
any_of_part test f x (y ∷ ys) (inr more) passes = list_any-append test (f y) (flat_map f ys) ∙ or_right (list_any test (f y)) (any_of_part test f x ys more passes)

-- an item's line stands in its invoice
line_invoiced : (steps : List Step) (item : Item) (lines : List PricedLine) (total : ℕ) → Member (body.Invoice item.checkout item.customer lines total) (taken_bodies steps) → is_line_of lines item ≡ true
    → is_line_of (invoice_lines (taken_bodies steps) item.checkout) item ≡ true
line_invoiced steps item lines total here passes =
    any_of_part (λ (line : PricedLine). same_key line.key item.key) (lines_invoiced item.checkout) (body.Invoice item.checkout item.customer lines total) (taken_bodies steps) here
    (rw (same_id-self item.checkout) passes)

-- an invoice is for its customer, with its lines
invoice_for : (checkout : RequestId) (customer : ℕ) (lines : List PricedLine) (total : ℕ) → invoices_for checkout customer (body.Invoice checkout customer lines total) ≡ true
invoice_for checkout customer lines total = and_from (same_id checkout checkout) (customer == customer) (same_id-self checkout) (eq-eqb customer customer refl)

invoice_lines_for : (checkout : RequestId) (customer : ℕ) (lines : List PricedLine) (total : ℕ) → invoices_lines checkout customer lines (body.Invoice checkout customer lines total) ≡ true
invoice_lines_for checkout customer lines total = rw (same_id-self checkout, eq-eqb customer customer refl) (same_lines-self lines)

module _ (h : Histories) (event : Event) (lawful : IsLawful h) (t : TookAt h seller_node event) where
  -- an invoice
  pub seller-invoice : (checkout : RequestId) (customer : ℕ) (lines : List PricedLine) (total : ℕ) → event.body ≡ body.Invoice checkout customer lines total
      → role_fits Role.Seller (steps_at seller_node t.before) (body.Invoice checkout customer lines total) ≡ true
  seller-invoice checkout customer lines total is =
      ap not (none-taken h seller_node event lawful t ORDER_TO_SELLER order_node refl (omega arith) (invoices checkout) (invoice-seller checkout) (ap (invoices checkout) is ∙ same_id-self checkout)
      (λ steps run. subst (λ bs. count_by (invoices checkout) bs ≤ 1) (invoices-to-seller steps run) (invoices-few checkout steps run)))

  -- an invoice that payments took, and that the event counts, sellers took before
  invoice_taken : FitsBelow h t.clock → (f : Event) (took : TookAt h payment_node f) (checkout : RequestId) (customer : ℕ) (lines : List PricedLine) (total : ℕ) → f.body ≡ body.Invoice checkout customer lines total
      → slice_index f.past (index_of ORDER_TO_SELLER) ≤ slice_index event.past (index_of ORDER_TO_SELLER) → Member (body.Invoice checkout customer lines total) (taken_bodies (steps_at seller_node t.before))
  invoice_taken below f took checkout customer lines total is counts =
      let on = invoice-on h f lawful took checkout customer lines total is in
      let made : MadeAt h order_node f = (took-made-on h lawful payment_node f ORDER_TO_PAYMENT took on).made in
      subst (λ b. Member b (taken_bodies (steps_at seller_node t.before))) is
      (twin-taken h seller_node event lawful t (omega arith) below order_node (index_of ORDER_TO_SELLER) (omega arith) refl f (invoice-twin h f lawful made on) counts)

  -- what settles a checkout that was not settled
  unsettled : (checkout : RequestId) → settles checkout event.body ≡ true → is_settled (steps_at seller_node t.before) checkout ≡ false
  unsettled checkout passes =
      none-taken h seller_node event lawful t PAYMENT_TO_SELLER payment_node refl (omega arith) (settles checkout) (settle-seller checkout) passes
      (λ steps run. subst (λ bs. count_by (settles checkout) bs ≤ 1) (payments-to-seller steps run) (settles-few checkout steps run))

  by_payment : (checkout : RequestId) → settles checkout event.body ≡ true → event.link ≡ PAYMENT_TO_SELLER
  by_payment checkout passes = came-alone h seller_node event t (settles checkout) PAYMENT_TO_SELLER (settle-seller checkout) passes

  -- a payment, and that there is none
  pub seller-confirmed : FitsBelow h t.clock → (checkout : RequestId) (customer : ℕ) (lines : List PricedLine) (total : ℕ) → event.body ≡ body.Confirmed checkout customer lines total
      → role_fits Role.Seller (steps_at seller_node t.before) (body.Confirmed checkout customer lines total) ≡ true
  seller-confirmed below checkout customer lines total is =
      let steps = steps_at seller_node t.before in
      let passes : settles checkout event.body ≡ true = ap (settles checkout) is ∙ same_id-self checkout in
      let back = invoice-back h seller_node event lawful t PAYMENT_TO_SELLER (by_payment checkout passes) refl to_stock-seller checkout customer lines total is in
      let origin = back.origin in
      let counts = past-taken h payment_node event lawful back.made origin.event (index_of ORDER_TO_SELLER) (omega arith) origin.took origin.clock in
      let here = invoice_taken below origin.event origin.took checkout customer lines total origin.body_is counts in
      and_from (list_any (invoices_lines checkout customer lines) (taken_bodies steps)) (not (is_settled steps checkout))
      (any_of_member (invoices_lines checkout customer lines) (body.Invoice checkout customer lines total) (taken_bodies steps) here (invoice_lines_for checkout customer lines total))
      (ap not (unsettled checkout passes))

  pub seller-failed : FitsBelow h t.clock → (checkout : RequestId) (customer : ℕ) (rule : PayRule) → event.body ≡ body.Failed checkout customer rule
      → role_fits Role.Seller (steps_at seller_node t.before) (body.Failed checkout customer rule) ≡ true
  seller-failed below checkout customer rule is =
      let steps = steps_at seller_node t.before in
      let passes : settles checkout event.body ≡ true = ap (settles checkout) is ∙ same_id-self checkout in
      let some = unpaid-back h seller_node event lawful t PAYMENT_TO_SELLER (by_payment checkout passes) refl to_stock-seller checkout customer rule is in
      let origin = some.back.origin in
      let lines = some.holds.0 in
      let total = some.holds.1 in
      let counts = past-taken h payment_node event lawful some.back.made origin.event (index_of ORDER_TO_SELLER) (omega arith) origin.took origin.clock in
      let here = invoice_taken below origin.event origin.took checkout customer lines total (origin.body_is ∙ some.holds.2) counts in
      and_from (list_any (invoices_for checkout customer) (taken_bodies steps)) (not (is_settled steps checkout))
      (any_of_member (invoices_for checkout customer) (body.Invoice checkout customer lines total) (taken_bodies steps) here (invoice_for checkout customer lines total))
      (ap not (unsettled checkout passes))

  -- a shipment
  pub seller-shipped : FitsBelow h t.clock → (checkout : RequestId) → event.body ≡ body.Shipped checkout → role_fits Role.Seller (steps_at seller_node t.before) (body.Shipped checkout) ≡ true
  seller-shipped below checkout is =
      let steps = steps_at seller_node t.before in
      let passes : ships checkout event.body ≡ true = ap (ships checkout) is ∙ same_id-self checkout in
      and_from (is_taken confirms steps checkout) (not (is_taken ships steps checkout))
      (paid-before h seller_node event lawful t (omega arith) below SHIPMENT_TO_SELLER (index_of PAYMENT_TO_SELLER) (came-alone h seller_node event t (ships checkout) SHIPMENT_TO_SELLER (ship-seller checkout) passes) refl (omega arith) refl (λ g made to_shipment. paid-twin-seller h g lawful made to_shipment) checkout
      (λ steps run here.
      let found = shipped-paid steps run checkout (subst (λ bs. Member (body.Shipped checkout) bs) (sym (shipments-to-seller steps run)) (subst (λ b. Member b (made_on SHIPMENT_TO_SELLER steps)) is here)) in
      (body.Confirmed checkout found.0 found.1 found.2, found.3, (found.0, found.1, found.2, refl))))
      (ap not (none-taken h seller_node event lawful t SHIPMENT_TO_SELLER shipment_node refl (omega arith) (ships checkout) (ship-seller checkout) passes
      (λ steps run. subst (λ bs. count_by (ships checkout) bs ≤ 1) (shipments-to-seller steps run) (ships-few checkout steps run))))

  by_shipment : (items : List Item) → event.body ≡ body.Delivered items → event.link ≡ SHIPMENT_TO_SELLER
  by_shipment items is = came-alone h seller_node event t is_delivery SHIPMENT_TO_SELLER delivery-seller (ap is_delivery is)

  -- an item that was paid has a line in its invoice
  item_line : FitsBelow h t.clock → (item : Item) → BackSome h shipment_node event t.clock (IsPaidItem item) → is_line_of (invoice_lines (taken_bodies (steps_at seller_node t.before)) item.checkout) item ≡ true
  item_line below item paid =
      let origin = paid.back.origin in
      let g = origin.event in
      let lines = paid.holds.0 in
      let total = paid.holds.1 in
      let back = paid-back h g lawful origin.took item.checkout item.customer lines total (origin.body_is ∙ paid.holds.2) in
      let f = back.origin.event in
      let first = past-taken h payment_node g lawful back.made f (index_of ORDER_TO_SELLER) (omega arith) back.origin.took back.origin.clock in
      let later = past-taken h shipment_node event lawful paid.back.made g (index_of ORDER_TO_SELLER) (omega arith) origin.took origin.clock in
      line_invoiced (steps_at seller_node t.before) item lines total
      (invoice_taken below f back.origin.took item.checkout item.customer lines total back.origin.body_is (omega (arith, first, later))) paid.holds.3

  -- a delivery
  pub seller-delivered : FitsBelow h t.clock → (items : List Item) → event.body ≡ body.Delivered items → role_fits Role.Seller (steps_at seller_node t.before) (body.Delivered items) ≡ true
  seller-delivered below items is =
      let steps = steps_at seller_node t.before in
      let on = by_shipment items is in
      and_from (items_apart (items_taken steps) items) (list_all (seller_item_fits steps) items)
      (apart-before h seller_node event lawful t SHIPMENT_TO_SELLER on (omega arith) below refl items is items_once-seller delivery-seller)
      (all_of_members (seller_item_fits steps) items
      (λ item here.
      and_from (is_taken ships steps item.checkout) (is_line_of (invoice_lines (taken_bodies steps) item.checkout) item)
      (shipped-before h seller_node event lawful t SHIPMENT_TO_SELLER on (omega arith) below refl items is
      (λ steps run xs ys made. delivered-shipped steps run xs ys items (shipments-to-seller steps run ∙ made)) item here)
      (item_line below item
      (paid-item h seller_node event lawful t SHIPMENT_TO_SELLER on refl items is (λ steps run made. subst (λ bs. Member (body.Delivered items) bs) (sym (shipments-to-seller steps run)) made) item here))))

  -- each body but a request
  pub seller_fits_all : FitsBelow h t.clock → ((request : Request) → event.body ≡ body.Asked request → ⊥) → role_fits (role_at seller_node) (steps_at seller_node t.before) event.body ≡ true
  seller_fits_all below other = by event.body refl
    where
      by : (b : Body) → event.body ≡ b → role_fits Role.Seller (steps_at seller_node t.before) b ≡ true
      by (body.Asked request) is = absurd (other request is)
      by (body.Invoice checkout customer lines total) is = seller-invoice checkout customer lines total is
      by (body.Confirmed checkout customer lines total) is = seller-confirmed below checkout customer lines total is
      by (body.Failed checkout customer rule) is = seller-failed below checkout customer rule is
      by (body.Shipped checkout) is = seller-shipped below checkout is
      by (body.Delivered items) is = seller-delivered below items is
      by b is = absurd (never-came h seller_node event t b is (omega arith) tt refl)
