-- In settled histories the totals and the statuses of orders are the book's (totals-book, statuses-book).
use Rattle.std.proofs.Common.{◌≡◌, ◌+◌, Bool, true, false, ◌&&◌, not, List, [], Option, Some, None, filter, if◌then◌else◌, sum_by, refl, ap, sym, ◌∙◌, arith}
use Rattle.std.specs.List.{flat_map, list_any}
use Rattle.market_amounts.specs.declared.keys.RequestId.{RequestId}
use Rattle.market_events.specs.declared.bodies.Body.TheVariants as body
use Rattle.market_events.specs.declared.bodies.Item.{Item}
use Rattle.market_events.specs.declared.links.TheConstants.{STOCK_TO_ORDER, SHIPMENT_TO_ORDER}
use Rattle.market_events.specs.declared.replies.OrderStatus.{OrderStatus}
use Rattle.market_events.specs.declared.replies.OrderStatus.TheVariants as status
use Rattle.market_events.specs.Links.{order_node, shipment_node}
use Rattle.market_events.specs.Orders.{checkouts_taken, is_nil, is_of, is_left, is_taken, items_in, items_taken, lines_left, open_lines, order_status, order_total, ships}
use Rattle.market_events.specs.declared.roles.Role.{Role}
use Rattle.market_events.specs.Shipments.{items_made}
use Rattle.market_events.specs.Steps.{Step, taken_bodies, made_on}
use Rattle.market_events.specs.Stocks.{Reservation, confirms, fails}
use Rattle.market_events.proofs.Values.Lists.{any-none, count-none, count-some}
use Rattle.market_events.proofs.Values.Same.{same_id-true}
use Rattle.market_history.specs.Acts.{Acts, cost_if, lines_waiting, status_by}
use Rattle.market_history.specs.Blocks.{service_steps}
use Rattle.market_history.specs.Histories.{Histories, journal_at}
use Rattle.market_history.specs.Lawful.{IsLawful}
use Rattle.market_history.specs.Outstanding.{IsSettled}
use Rattle.market_laws.specs.Runs.{is_delivery}
use Rattle.market_laws.proofs.Origins.Made.{steps-run}
use Rattle.market_laws.proofs.Views.GatheredOnLinks.{lists-made}
use Rattle.market_laws.proofs.Views.Gathered.{any-kept, sum-parts}
use Rattle.market_laws.proofs.Moments.ReservationSums.{count-held}
use Rattle.market_laws.proofs.Settled.Passing.{joined-passing}
use Rattle.market_laws.proofs.Fits.RepliesOnce.{any-counted}
use Rattle.market_laws.proofs.Runs.Shipments.{deliveries-to-customer}
use Rattle.market_laws.proofs.Settled.Counts.{failed-orders, held-settled, shipped-orders}
use Rattle.market_laws.proofs.Settled.Links.{ComesOn}
use Rattle.market_laws.proofs.Settled.Outcomes.{held, settling, was_paid, orders-held, settled-few}
use Rattle.market_laws.proofs.Settled.Sellers.{no_items}

-- deliveries come into orders from shipments
delivery-orders : ComesOn order_node SHIPMENT_TO_ORDER is_delivery
delivery-orders (body.Delivered items) passes = (tt, refl)
delivery-orders other passes = cc

-- the status of an order and that of the book, by their tests
order_side : Bool → Bool → Bool → Bool → Bool → Option OrderStatus
order_side has failed delivered shipped paid =
    if not has then None
    else if failed then Some status.Cancelled
    else if delivered then Some status.Delivered
    else if shipped then Some status.Shipped
    else if paid then Some status.Paid
    else Some status.Invoiced

book_side : Bool → Bool → Bool → Option OrderStatus
book_side unpaid whole delivered =
    if unpaid then Some status.Cancelled
    else if not whole then None
    else if delivered then Some status.Delivered
    else Some status.Shipped

module _ (h : Histories) (lawful : IsLawful h) (settled : IsSettled h) (id : RequestId) where
  abbrev orders : List Step
  orders = service_steps h Role.Order

  abbrev items : List Item
  items = items_made (service_steps h Role.Shipment)

  -- the reservations that were paid, and those that were not
  abbrev whole : List Reservation
  whole = filter (was_paid h) (held h)

  abbrev unpaid : List Reservation
  unpaid = filter (λ (r : Reservation). not (was_paid h r)) (held h)

  pub totals-book : order_total orders id ≡ sum_by (cost_if id) whole + sum_by (cost_if id) unpaid
  totals-book = ap (sum_by (cost_if id)) (orders-held h lawful settled) ∙ sum-parts (was_paid h) (cost_if id) (held h)

  order_items : items_taken orders ≡ items
  order_items =
      lists-made h lawful settled order_node shipment_node SHIPMENT_TO_ORDER (omega arith) (omega arith) (omega arith) refl refl items_in is_delivery no_items delivery-orders
      ∙ joined-passing is_delivery items_in no_items (made_on SHIPMENT_TO_ORDER (service_steps h Role.Shipment))
      ∙ ap (flat_map items_in) (sym (deliveries-to-customer (service_steps h Role.Shipment) (steps-run shipment_node (journal_at h shipment_node))))

  -- the checkout has a reservation, and was paid
  abbrev has : Bool
  has = list_any (is_of id) (held h)

  abbrev was : Bool
  was = list_any (confirms id) (settling h)

  paid_as : (r : Reservation) → is_of id r ≡ true → was_paid h r ≡ was
  paid_as r of = ap (λ i. list_any (confirms i) (settling h)) (same_id-true r.checkout id of)

  any_whole : list_any (is_of id) whole ≡ (has && was)
  any_whole = any-kept (is_of id) (was_paid h) was paid_as (held h)

  any_unpaid : list_any (is_of id) unpaid ≡ (has && not was)
  any_unpaid = any-kept (is_of id) (λ (r : Reservation). not (was_paid h r)) (not was) (λ r of. ap not (paid_as r of)) (held h)

  has_order : list_any (is_of id) (checkouts_taken orders) ≡ has
  has_order = ap (list_any (is_of id)) (orders-held h lawful settled)

  -- one that was paid did not fail, and was shipped
  unfailed : was ≡ true → is_taken fails orders id ≡ false
  unfailed is =
      let some = count-some (confirms id) (settling h) is in
      let few = settled-few h lawful settled id in
      let same = failed-orders h lawful settled id in
      any-none (fails id) (taken_bodies orders) (omega arith)

  shipped : was ≡ true → is_taken ships orders id ≡ true
  shipped is =
      let some = count-some (confirms id) (settling h) is in
      let same = shipped-orders h lawful settled id in
      any-counted (ships id) (taken_bodies orders) (omega arith)

  -- one that has a reservation and was not paid failed
  cancelled : has ≡ true → was ≡ false → is_taken fails orders id ≡ true
  cancelled there is =
      let some = count-some (is_of id) (held h) there in
      let none = count-none (confirms id) (settling h) is in
      let same = failed-orders h lawful settled id in
      let all = held-settled h lawful settled id in
      let each = count-held id (made_on STOCK_TO_ORDER (service_steps h Role.Stock)) in
      any-counted (fails id) (taken_bodies orders) (omega arith)

  -- its lines that are open are those of the whole checkout
  waiting : was ≡ true → open_lines orders id ≡ lines_waiting whole items id
  waiting is =
      (λ i. lines_waiting (orders-held h lawful settled i) (order_items i) id)
      ∙ joined-passing (was_paid h) (lines_left items id) others (held h)
    where
      by : (r : Reservation) (of : Bool) → is_of id r ≡ of → was_paid h r ≡ false → (if of then filter (is_left items r) r.lines else []) ≡ []
      by r true same none = let same : was ≡ false = sym (paid_as r same) ∙ none in cc
      by r false differs none = refl

      others : (r : Reservation) → was_paid h r ≡ false → lines_left items id r ≡ []
      others r none = by r (is_of id r) refl none

  sides : order_side (list_any (is_of id) (checkouts_taken orders)) (is_taken fails orders id) (is_nil (open_lines orders id)) (is_taken ships orders id) (is_taken confirms orders id)
      ≡ book_side (list_any (is_of id) unpaid) (list_any (is_of id) whole) (is_nil (lines_waiting whole items id))
  unfolding order_side book_side
  sides = by has was refl refl
    where
      by : (a q : Bool) → has ≡ a → was ≡ q
          → order_side (list_any (is_of id) (checkouts_taken orders)) (is_taken fails orders id) (is_nil (open_lines orders id)) (is_taken ships orders id) (is_taken confirms orders id)
          ≡ book_side (list_any (is_of id) unpaid) (list_any (is_of id) whole) (is_nil (lines_waiting whole items id))
      by false q there is =
          let first : list_any (is_of id) (checkouts_taken orders) ≡ false = has_order ∙ there in
          let second : list_any (is_of id) unpaid ≡ false = any_unpaid ∙ ap (λ b. b && not was) there in
          let third : list_any (is_of id) whole ≡ false = any_whole ∙ ap (λ b. b && was) there in
          rw (first, second, third) refl
      by true false there is =
          let first : list_any (is_of id) (checkouts_taken orders) ≡ true = has_order ∙ there in
          let second : list_any (is_of id) unpaid ≡ true = any_unpaid ∙ (λ i. there i && not (is i)) in
          rw (first, cancelled there is, second) refl
      by true true there is =
          let first : list_any (is_of id) (checkouts_taken orders) ≡ true = has_order ∙ there in
          let second : list_any (is_of id) unpaid ≡ false = any_unpaid ∙ (λ i. there i && not (is i)) in
          let third : list_any (is_of id) whole ≡ true = any_whole ∙ (λ i. there i && is i) in
          let fourth : is_nil (open_lines orders id) ≡ is_nil (lines_waiting whole items id) = ap is_nil (waiting is) in
          rw (first, unfailed is, second, third, shipped is, fourth) refl

  -- where the book has these checkouts and items
  pub statuses-book : (acts : Acts) → acts.whole ≡ whole → acts.unpaid ≡ unpaid → acts.items ≡ items → order_status orders id ≡ status_by acts id
  unfolding order_side book_side
  statuses-book acts paid failed delivered =
      sides ∙ (λ i. book_side (list_any (is_of id) (sym failed i)) (list_any (is_of id) (sym paid i)) (is_nil (lines_waiting (sym paid i) (sym delivered i) id)))
