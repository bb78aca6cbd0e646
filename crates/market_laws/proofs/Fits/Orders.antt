-- What orders take fits: stock holds a checkout once, it is settled once and for what stock holds, it is shipped once and was
-- paid, and an item is delivered once, of a checkout that was shipped and has a line of it.
use Rattle.std.proofs.Common.{◌≡◌, ℕ, ◌≤◌, Bool, true, false, ◌==◌, ◌&&◌, not, List, count_by, eq-eqb, refl, ap, ◌∙◌, subst, arith}
use Rattle.std.specs.List.{list_any, list_all}
use Rattle.market_amounts.specs.declared.keys.RequestId.{RequestId}
use Rattle.market_events.specs.declared.bodies.Body.{Body}
use Rattle.market_events.specs.declared.bodies.Body.TheVariants as body
use Rattle.market_events.specs.declared.bodies.Item.{Item}
use Rattle.market_events.specs.declared.bodies.PayRule.{PayRule}
use Rattle.market_events.specs.declared.bodies.PricedLine.{PricedLine}
use Rattle.market_events.specs.declared.events.Event.{Event}
use Rattle.market_events.specs.declared.links.TheConstants.{STOCK_TO_ORDER, PAYMENT_TO_ORDER}
use Rattle.market_events.specs.declared.links.TheConstants.{SHIPMENT_TO_ORDER}
use Rattle.market_events.specs.declared.requests.Request.{Request}
use Rattle.market_events.specs.Links.{stock_node, order_node, payment_node, shipment_node, index_of}
use Rattle.market_events.specs.Orders.{checkouts_taken, is_of, is_taken, ships, items_taken}
use Rattle.market_events.specs.Requests.{same_id}
use Rattle.market_events.specs.declared.roles.Role.{Role}
use Rattle.market_events.specs.Services.{IsRunOf, role_fits, is_for, is_for_lines, is_line_of, order_item_fits, items_apart}
use Rattle.market_events.specs.Steps.{Step, made_on, taken_bodies, same_lines}
use Rattle.market_events.specs.Stocks.{Reservation, reservation_in, confirms, settles, is_settled}
use Rattle.market_events.proofs.Values.Lists.{and_from}
use Rattle.market_events.proofs.Values.Same.{same_id-self, same_lines-self}
use Rattle.market_history.specs.Blocks.{role_at}
use Rattle.market_history.specs.Histories.{Histories}
use Rattle.market_history.specs.Lawful.{IsLawful}
use Rattle.market_laws.specs.Cuts.{steps_at, TookAt, FitsBelow}
use Rattle.market_laws.specs.Runs.{Member, holds_pieces, is_delivery}
use Rattle.market_laws.proofs.Origins.Cuts.{any_of_member}
use Rattle.market_laws.proofs.Origins.Back.{BackSome}
use Rattle.market_laws.proofs.Fits.KindsOnLinks.{never-came}
use Rattle.market_laws.proofs.Fits.CopyMembers.{gathered-member, all_of_members}
use Rattle.market_laws.proofs.Fits.ItemsApart.{apart-before, shipped-before, items_once-order}
use Rattle.market_laws.proofs.Fits.BackToInvoices.{to_stock-order, IsPaidItem, invoice-back, unpaid-back, paid-back, paid-item, held-before, paid-before}
use Rattle.market_laws.proofs.Fits.SameOnTwoLinks.{paid-twin-order}
use Rattle.market_laws.proofs.Fits.AloneOnLinks.{held-order, settle-order, ship-order, delivery-order, came-alone, none-taken}
use Rattle.market_laws.proofs.Fits.Shipments.{settles-few}
use Rattle.market_laws.proofs.Runs.Orders.{has_order-held}
use Rattle.market_laws.proofs.Runs.Payments.{payments-to-order}
use Rattle.market_laws.proofs.Runs.Shipments.{shipped-is, confirms-once, shipped-paid, delivered-shipped}
use Rattle.market_laws.proofs.Runs.Stock.{answered-is, reserves-once}

-- what stock holds for a checkout
abbrev held_for : RequestId → ℕ → List PricedLine → Reservation
held_for checkout customer lines = record { checkout = checkout; customer = customer; lines = lines }

-- orders have it
has_held : (test : Reservation → Bool) (steps : List Step) (checkout : RequestId) (customer : ℕ) (lines : List PricedLine) → Member (body.StockConfirmed checkout customer lines) (taken_bodies steps)
    → test (held_for checkout customer lines) ≡ true → list_any test (checkouts_taken steps) ≡ true
has_held test steps checkout customer lines here passes =
    any_of_member test (held_for checkout customer lines) (checkouts_taken steps)
    (gathered-member reservation_in (body.StockConfirmed checkout customer lines) (held_for checkout customer lines) (taken_bodies steps) here refl) passes

-- it is for this customer, with these lines
for_it : (checkout : RequestId) (customer : ℕ) (lines : List PricedLine) → is_for checkout customer (held_for checkout customer lines) ≡ true
for_it checkout customer lines = and_from (same_id checkout checkout) (customer == customer) (same_id-self checkout) (eq-eqb customer customer refl)

for_lines : (checkout : RequestId) (customer : ℕ) (lines : List PricedLine) → is_for_lines checkout customer lines (held_for checkout customer lines) ≡ true
for_lines checkout customer lines = and_from (is_for checkout customer (held_for checkout customer lines)) (same_lines lines lines) (for_it checkout customer lines) (same_lines-self lines)

-- stock holds a checkout's pieces once at most
pub held-few : (id : RequestId) (steps : List Step) → IsRunOf Role.Stock steps → count_by (holds_pieces id) (made_on STOCK_TO_ORDER steps) ≤ 1
held-few id steps run = omega (arith, answered-is steps run id, reserves-once steps run id)

-- shipments ship a checkout once at most
pub ships-few : (id : RequestId) (steps : List Step) → IsRunOf Role.Shipment steps → count_by (ships id) (made_on SHIPMENT_TO_ORDER steps) ≤ 1
ships-few id steps run = omega (arith, shipped-is steps run id, confirms-once steps run id)

module _ (h : Histories) (event : Event) (lawful : IsLawful h) (t : TookAt h order_node event) where
  -- what stock holds
  pub order-held : (checkout : RequestId) (customer : ℕ) (lines : List PricedLine) → event.body ≡ body.StockConfirmed checkout customer lines
      → role_fits Role.Order (steps_at order_node t.before) (body.StockConfirmed checkout customer lines) ≡ true
  order-held checkout customer lines is =
      ap not (has_order-held checkout (taken_bodies (steps_at order_node t.before))
      ∙ none-taken h order_node event lawful t STOCK_TO_ORDER stock_node refl (omega arith) (holds_pieces checkout) (held-order checkout) (ap (holds_pieces checkout) is ∙ same_id-self checkout) (held-few checkout))

  -- what settles a checkout that was not settled
  unsettled : (checkout : RequestId) → settles checkout event.body ≡ true → is_settled (steps_at order_node t.before) checkout ≡ false
  unsettled checkout passes =
      none-taken h order_node event lawful t PAYMENT_TO_ORDER payment_node refl (omega arith) (settles checkout) (settle-order checkout) passes
      (λ steps run. subst (λ bs. count_by (settles checkout) bs ≤ 1) (payments-to-order steps run) (settles-few checkout steps run))

  by_payment : (checkout : RequestId) → settles checkout event.body ≡ true → event.link ≡ PAYMENT_TO_ORDER
  by_payment checkout passes = came-alone h order_node event t (settles checkout) PAYMENT_TO_ORDER (settle-order checkout) passes

  -- a payment, and that there is none
  pub order-confirmed : (checkout : RequestId) (customer : ℕ) (lines : List PricedLine) (total : ℕ) → event.body ≡ body.Confirmed checkout customer lines total
      → role_fits Role.Order (steps_at order_node t.before) (body.Confirmed checkout customer lines total) ≡ true
  order-confirmed checkout customer lines total is =
      let steps = steps_at order_node t.before in
      let passes : settles checkout event.body ≡ true = ap (settles checkout) is ∙ same_id-self checkout in
      let back = invoice-back h order_node event lawful t PAYMENT_TO_ORDER (by_payment checkout passes) refl to_stock-order checkout customer lines total is in
      let held = held-before h back.origin.event lawful back.origin.took checkout customer lines total back.origin.body_is event t back.before in
      and_from (list_any (is_for_lines checkout customer lines) (checkouts_taken steps)) (not (is_settled steps checkout))
      (has_held (is_for_lines checkout customer lines) steps checkout customer lines held (for_lines checkout customer lines)) (ap not (unsettled checkout passes))

  pub order-failed : (checkout : RequestId) (customer : ℕ) (rule : PayRule) → event.body ≡ body.Failed checkout customer rule
      → role_fits Role.Order (steps_at order_node t.before) (body.Failed checkout customer rule) ≡ true
  order-failed checkout customer rule is =
      let steps = steps_at order_node t.before in
      let passes : settles checkout event.body ≡ true = ap (settles checkout) is ∙ same_id-self checkout in
      let some = unpaid-back h order_node event lawful t PAYMENT_TO_ORDER (by_payment checkout passes) refl to_stock-order checkout customer rule is in
      let back = some.back in
      let lines = some.holds.0 in
      let held = held-before h back.origin.event lawful back.origin.took checkout customer lines some.holds.1 (back.origin.body_is ∙ some.holds.2) event t back.before in
      and_from (list_any (is_for checkout customer) (checkouts_taken steps)) (not (is_settled steps checkout))
      (has_held (is_for checkout customer) steps checkout customer lines held (for_it checkout customer lines)) (ap not (unsettled checkout passes))

  -- a shipment
  pub order-shipped : FitsBelow h t.clock → (checkout : RequestId) → event.body ≡ body.Shipped checkout → role_fits Role.Order (steps_at order_node t.before) (body.Shipped checkout) ≡ true
  order-shipped below checkout is =
      let steps = steps_at order_node t.before in
      let passes : ships checkout event.body ≡ true = ap (ships checkout) is ∙ same_id-self checkout in
      and_from (is_taken confirms steps checkout) (not (is_taken ships steps checkout))
      (paid-before h order_node event lawful t (omega arith) below SHIPMENT_TO_ORDER (index_of PAYMENT_TO_ORDER) (came-alone h order_node event t (ships checkout) SHIPMENT_TO_ORDER (ship-order checkout) passes) refl (omega arith) refl (λ g made to_shipment. paid-twin-order h g lawful made to_shipment) checkout
      (λ steps run here.
      let found = shipped-paid steps run checkout (subst (λ b. Member b (made_on SHIPMENT_TO_ORDER steps)) is here) in
      (body.Confirmed checkout found.0 found.1 found.2, found.3, (found.0, found.1, found.2, refl))))
      (ap not (none-taken h order_node event lawful t SHIPMENT_TO_ORDER shipment_node refl (omega arith) (ships checkout) (ship-order checkout) passes (ships-few checkout)))

  by_shipment : (items : List Item) → event.body ≡ body.Delivered items → event.link ≡ SHIPMENT_TO_ORDER
  by_shipment items is = came-alone h order_node event t is_delivery SHIPMENT_TO_ORDER delivery-order (ap is_delivery is)

  -- an item that was paid has a line in what stock holds
  item_line : (item : Item) → BackSome h shipment_node event t.clock (IsPaidItem item)
      → list_any (λ (r : Reservation). is_of item.checkout r && is_line_of r.lines item) (checkouts_taken (steps_at order_node t.before)) ≡ true
  item_line item paid =
      let origin = paid.back.origin in
      let lines = paid.holds.0 in
      let total = paid.holds.1 in
      let back = paid-back h origin.event lawful origin.took item.checkout item.customer lines total (origin.body_is ∙ paid.holds.2) in
      let far = back.before in
      let near = paid.back.before in
      let held = held-before h back.origin.event lawful back.origin.took item.checkout item.customer lines total back.origin.body_is event t (omega arith) in
      has_held (λ (r : Reservation). is_of item.checkout r && is_line_of r.lines item) (steps_at order_node t.before) item.checkout item.customer lines held
      (and_from (same_id item.checkout item.checkout) (is_line_of lines item) (same_id-self item.checkout) paid.holds.3)

  -- a delivery
  pub order-delivered : FitsBelow h t.clock → (items : List Item) → event.body ≡ body.Delivered items → role_fits Role.Order (steps_at order_node t.before) (body.Delivered items) ≡ true
  order-delivered below items is =
      let steps = steps_at order_node t.before in
      let on = by_shipment items is in
      and_from (items_apart (items_taken steps) items) (list_all (order_item_fits steps) items)
      (apart-before h order_node event lawful t SHIPMENT_TO_ORDER on (omega arith) below refl items is items_once-order delivery-order)
      (all_of_members (order_item_fits steps) items
      (λ item here.
      and_from (is_taken ships steps item.checkout) (list_any (λ (r : Reservation). is_of item.checkout r && is_line_of r.lines item) (checkouts_taken steps))
      (shipped-before h order_node event lawful t SHIPMENT_TO_ORDER on (omega arith) below refl items is (λ steps run xs ys made. delivered-shipped steps run xs ys items made) item here)
      (item_line item (paid-item h order_node event lawful t SHIPMENT_TO_ORDER on refl items is (λ steps run made. made) item here))))

  -- each body but a request
  pub order_fits_all : FitsBelow h t.clock → ((request : Request) → event.body ≡ body.Asked request → ⊥) → role_fits (role_at order_node) (steps_at order_node t.before) event.body ≡ true
  order_fits_all below other = by event.body refl
    where
      by : (b : Body) → event.body ≡ b → role_fits Role.Order (steps_at order_node t.before) b ≡ true
      by (body.Asked request) is = absurd (other request is)
      by (body.StockConfirmed checkout customer lines) is = order-held checkout customer lines is
      by (body.Confirmed checkout customer lines total) is = order-confirmed checkout customer lines total is
      by (body.Failed checkout customer rule) is = order-failed checkout customer rule is
      by (body.Shipped checkout) is = order-shipped below checkout is
      by (body.Delivered items) is = order-delivered below items is
      by b is = absurd (never-came h order_node event t b is (omega arith) tt refl)
