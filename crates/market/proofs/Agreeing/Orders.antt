-- Orders: what they answer, and how a checkout and a delivery keep them in step with what was accepted.
use Rattle.std.proofs.Common.{◌≡◌, ℕ, ◌+◌, ◌<◌, Bool, true, false, ◌&&◌, ◌||◌, not, ◌==◌, List, [], ◌∷◌, ◌++◌, Option, Some, None, length, filter, if◌then◌else◌, sum_by, refl, ap, sym, ◌∙◌, append-nil}
use Rattle.std.specs.List.{list_any, list_all, flat_map}
use Rattle.std.proofs.lemmas.List.Concat.{flat_map-append}
use Rattle.std.proofs.lemmas.List.Elements.{filter-append}
use Rattle.std.proofs.lemmas.List.Folds.{list_any-append}
use Rattle.market_amounts.specs.declared.keys.RequestId.{RequestId}
use Rattle.market_events.specs.declared.bodies.Body.{Body}
use Rattle.market_events.specs.declared.bodies.Body.TheVariants as body
use Rattle.market_events.specs.declared.bodies.Ending.TheVariants as ending
use Rattle.market_events.specs.declared.bodies.Item.{Item}
use Rattle.market_events.specs.declared.bodies.PayRule.{PayRule}
use Rattle.market_events.specs.declared.bodies.PricedLine.{PricedLine}
use Rattle.market_events.specs.declared.links.Link.{Link}
use Rattle.market_events.specs.declared.links.TheConstants.{STOCK_TO_ORDER, ORDER_TO_PAYMENT, ORDER_TO_SELLER}
use Rattle.market_events.specs.declared.links.TheConstants.{ORDER_TO_CART, PAYMENT_TO_ORDER}
use Rattle.market_events.specs.declared.links.TheConstants.{SHIPMENT_TO_ORDER}
use Rattle.market_events.specs.declared.replies.OrderStatus.{OrderStatus}
use Rattle.market_events.specs.declared.replies.OrderStatus.TheVariants as status
use Rattle.market_events.specs.declared.requests.Ask.{Ask}
use Rattle.market_events.specs.Formed.{body_formed, request_id_formed, id_formed, lines_formed, checkout_formed, items_formed}
use Rattle.market_events.specs.Orders.{checkouts_taken, is_of, is_left, is_taken, is_nil, ships, items_taken, lines_left, order_status, order_sums, order_asked, OrderSums}
use Rattle.market_events.specs.Requests.{same_id}
use Rattle.market_events.specs.declared.roles.Role.{Role}
use Rattle.market_events.specs.Services.{answers, fits, most_steps, is_line_of, is_for_lines, is_for, items_apart, order_item_fits}
use Rattle.market_events.specs.Standing.{step_of, with_step}
use Rattle.market_events.specs.Steps.{Step, same_lines}
use Rattle.market_events.specs.Stocks.{Reservation, fails, confirms, is_settled}
use Rattle.market_events.specs.WellFormed.{total_of}
use Rattle.market_events.proofs.Values.Lists.{and_from, and_both, or_true, or_left, or_false, any_weaker, list_any-push}
use Rattle.market_events.proofs.Steps.Orders.{checkouts_taken-same, checkouts_taken-confirmed, has_order-same, has_order-confirmed, order_total-same, order_total-confirmed, order_total-new, items_taken-same, items_taken-push}
use Rattle.market_events.proofs.Runs.Orders.{answers-order}
use Rattle.market_events.proofs.Steps.Reservations.{listed-none}
use Rattle.market_events.proofs.Values.Same.{same_id-self, same_lines-self}
use Rattle.market_events.proofs.Steps.Taken.{is_taken-same, is_taken-push, is_settled-push}
use Rattle.market_history.specs.Acts.{Acts, lines_of, lines_if, cost_if, status_by, lines_waiting, order_table}
use Rattle.market_laws.proofs.Settled.Passing.{joined-passing}
use Rattle.market.specs.Agreeing.{OrdersAgree}
use Rattle.market.specs.Carrying.{IsFresh, most_made}
use Rattle.market.proofs.Agreeing.Checkouts.{any-whole, any-unpaid, lines-own, orders-whole, orders-unpaid, total-whole, total-unpaid, is_line_in, line_among, all_weaker}
use Rattle.market.proofs.Carrying.Fresh.{same_number, fits_by, few_before, few_after_one, few_after_two, none_ordered, none_settled, none_shipped}

-- the status by five facts: the first that holds
abbrev by_tests : Bool → Bool → Bool → Bool → Bool → Option OrderStatus
by_tests has failed done shipped paid =
    if not has then None else if failed then Some status.Cancelled else if done then Some status.Delivered
    else if shipped then Some status.Shipped else if paid then Some status.Paid else Some status.Invoiced

-- a request is answered by the table
module _ (steps : List Step) (acts : Acts) (agree : OrdersAgree steps acts) where
  status_same : (id : RequestId) → order_status steps id ≡ status_by acts id
  status_same id =
      by_facts (is_taken confirms steps id) (agree.known id ∙ list_any-append (is_of id) acts.whole acts.unpaid) (agree.failed id)
      (ap (λ items. is_nil (lines_waiting (checkouts_taken steps) items id)) agree.items ∙ ap is_nil waiting_same)
      (agree.shipped id)
      ∙ either (list_any (is_of id) acts.whole) (list_any (is_of id) acts.unpaid) refl (is_taken confirms steps id)
    where
      by_facts : (paid : Bool) {has failed done shipped has' failed' done' shipped' : Bool} → has ≡ has' → failed ≡ failed' → done ≡ done' → shipped ≡ shipped' → by_tests has failed done shipped paid ≡ by_tests has' failed' done' shipped' paid
      by_facts paid a b c d = λ i. by_tests (a i) (b i) (c i) (d i) paid

      own : (rs : List Reservation) → lines_waiting rs acts.items id ≡ flat_map (lines_left acts.items id) (filter (is_of id) rs)
      own rs = joined-passing (is_of id) (lines_left acts.items id) (λ r other. ap (λ b. if b then filter (is_left acts.items r) r.lines else []) other) rs

      waiting_same : lines_waiting (checkouts_taken steps) acts.items id ≡ lines_waiting (acts.whole ++ acts.unpaid) acts.items id
      waiting_same = own (checkouts_taken steps) ∙ ap (flat_map (lines_left acts.items id)) (agree.orders id) ∙ sym (own (acts.whole ++ acts.unpaid))

      only_whole : list_any (is_of id) acts.unpaid ≡ false → lines_waiting (acts.whole ++ acts.unpaid) acts.items id ≡ lines_waiting acts.whole acts.items id
      only_whole none =
          flat_map-append (lines_left acts.items id) acts.whole acts.unpaid
          ∙ ap (λ ls. lines_waiting acts.whole acts.items id ++ ls) (listed-none (λ (r : Reservation). filter (is_left acts.items r) r.lines) id acts.unpaid none)
          ∙ append-nil (lines_waiting acts.whole acts.items id)

      either : (w u : Bool) → list_any (is_of id) acts.unpaid ≡ u → (paid : Bool)
          → by_tests (w || u) u (is_nil (lines_waiting (acts.whole ++ acts.unpaid) acts.items id)) w paid
          ≡ (if u then Some status.Cancelled else if not w then None else if is_nil (lines_waiting acts.whole acts.items id) then Some status.Delivered else Some status.Shipped)
      either true true none paid = refl
      either false true none paid = refl
      either false false none paid = refl
      either true false none paid = ap (λ lines. if is_nil lines then Some status.Delivered else Some status.Shipped) (only_whole none)

  table_same : order_sums steps ≡ order_table acts
  table_same = λ i. of_both (λ id. status_same id i) (λ id. agree.total id i)
    where
      of_both : (RequestId → Option OrderStatus) → (RequestId → ℕ) → OrderSums
      of_both status total = record { status = status; total = total }

  pub orders_answer : (from : Link) (id : RequestId) (what : Ask) → answers Role.Order steps from (body.Asked (record { id = id; ask = what })) ≡ order_asked (order_table acts) id what
  orders_answer from id what = answers-order steps from (body.Asked (record { id = id; ask = what })) ∙ ap (λ s. order_asked s id what) table_same

  -- a request changes nothing
  pub orders_asked : (from : Link) (id : RequestId) (what : Ask) → OrdersAgree (with_step Role.Order steps from (body.Asked (record { id = id; ask = what }))) acts
  orders_asked from id what =
      let s = step_of Role.Order steps from (body.Asked (record { id = id; ask = what })) in
      record {
        known = λ i. has_order-same steps s i refl ∙ agree.known i;
        orders = λ i. ap (filter (is_of i)) (checkouts_taken-same steps s refl) ∙ agree.orders i;
        total = λ i. order_total-same steps s i refl ∙ agree.total i;
        failed = λ i. is_taken-same fails steps s i refl ∙ agree.failed i;
        shipped = λ i. is_taken-same ships steps s i refl ∙ agree.shipped i;
        items = items_taken-same steps s refl ∙ agree.items;
      }

-- a checkout that stock confirmed is invoiced
module _ (steps : List Step) (acts : Acts) (agree : OrdersAgree steps acts) (id : RequestId) (customer : ℕ) (lines : List PricedLine) (fresh : IsFresh steps id)
    (formed : checkout_formed id customer lines ≡ true) (few : length steps + most_made < most_steps) where
  abbrev r : Reservation
  r = record { checkout = id; customer = customer; lines = lines }

  abbrev pub order_confirmed : Body
  order_confirmed = body.StockConfirmed id customer lines

  abbrev pub orders_invoiced : List Step
  orders_invoiced = with_step Role.Order steps STOCK_TO_ORDER order_confirmed

  abbrev first : Step
  first = step_of Role.Order steps STOCK_TO_ORDER order_confirmed

  new : list_any (is_of id) (checkouts_taken steps) ≡ false
  new = none_ordered id steps fresh

  pub new_checkout : list_any (is_of id) (acts.whole ++ acts.unpaid) ≡ false
  new_checkout = sym (agree.known id) ∙ new

  pub invoice_fits : fits Role.Order steps STOCK_TO_ORDER order_confirmed ≡ true
  invoice_fits = fits_by Role.Order steps STOCK_TO_ORDER order_confirmed (few_before steps few) formed refl refl (ap not new)

  pub invoice_made : answers Role.Order steps STOCK_TO_ORDER order_confirmed ≡ (ORDER_TO_SELLER, body.Invoice id customer lines (total_of lines)) ∷ (ORDER_TO_PAYMENT, body.Invoice id customer lines (total_of lines)) ∷ []
  invoice_made = answers-order steps STOCK_TO_ORDER order_confirmed

  stands : list_any (is_of id) (checkouts_taken orders_invoiced) ≡ true
  stands = has_order-confirmed steps first id customer lines refl id ∙ or_true (list_any (is_of id) (checkouts_taken steps)) (same_id id id) (same_id-self id)

  id_is_formed : request_id_formed id ≡ true
  id_is_formed = (and_both (request_id_formed id) (id_formed customer) (and_both (request_id_formed id && id_formed customer) (lines_formed lines) formed).0).0

  unsettled : is_settled orders_invoiced id ≡ false
  unsettled = is_settled-push steps first id ∙ or_false (is_settled steps id) ∙ none_settled id steps fresh

  -- it is paid, and shipped
  abbrev pub order_paid : Body
  order_paid = body.Confirmed id customer lines (total_of lines)

  abbrev pub orders_paid : List Step
  orders_paid = with_step Role.Order orders_invoiced PAYMENT_TO_ORDER order_paid

  abbrev second : Step
  second = step_of Role.Order orders_invoiced PAYMENT_TO_ORDER order_paid

  found_with_lines : list_any (is_for_lines id customer lines) (checkouts_taken orders_invoiced) ≡ true
  found_with_lines =
      ap (list_any (is_for_lines id customer lines)) (checkouts_taken-confirmed steps first id customer lines refl)
      ∙ list_any-push (is_for_lines id customer lines) (checkouts_taken steps) r
      ∙ or_true (list_any (is_for_lines id customer lines) (checkouts_taken steps)) (is_for_lines id customer lines r)
      (and_from (is_for id customer r) (same_lines lines lines) (and_from (same_id id id) (customer == customer) (same_id-self id) (same_number customer)) (same_lines-self lines))

  body_is_formed : body_formed order_paid ≡ true
  body_is_formed = and_from (checkout_formed id customer lines) (total_of lines == total_of lines) formed (same_number (total_of lines))

  pub paid_fits : fits Role.Order orders_invoiced PAYMENT_TO_ORDER order_paid ≡ true
  paid_fits =
      fits_by Role.Order orders_invoiced PAYMENT_TO_ORDER order_paid (few_after_one steps first few) body_is_formed refl refl
      (and_from (list_any (is_for_lines id customer lines) (checkouts_taken orders_invoiced)) (not (is_settled orders_invoiced id)) found_with_lines (ap not unsettled))

  pub paid_made : answers Role.Order orders_invoiced PAYMENT_TO_ORDER order_paid ≡ []
  paid_made = answers-order orders_invoiced PAYMENT_TO_ORDER order_paid

  abbrev pub orders_shipped : List Step
  orders_shipped = with_step Role.Order orders_paid SHIPMENT_TO_ORDER (body.Shipped id)

  abbrev third : Step
  third = step_of Role.Order orders_paid SHIPMENT_TO_ORDER (body.Shipped id)

  pub shipped_fits : fits Role.Order orders_paid SHIPMENT_TO_ORDER (body.Shipped id) ≡ true
  shipped_fits =
      fits_by Role.Order orders_paid SHIPMENT_TO_ORDER (body.Shipped id) (few_after_two steps first second few) id_is_formed refl refl
      (and_from (is_taken confirms orders_paid id) (not (is_taken ships orders_paid id))
      (is_taken-push confirms orders_invoiced second id ∙ or_true (is_taken confirms orders_invoiced id) (same_id id id) (same_id-self id))
      (ap not (is_taken-same ships orders_invoiced second id refl ∙ is_taken-same ships steps first id refl ∙ none_shipped id steps fresh)))

  pub shipped_made : answers Role.Order orders_paid SHIPMENT_TO_ORDER (body.Shipped id) ≡ (ORDER_TO_CART, body.Ended id (ending.Whole (total_of lines))) ∷ []
  shipped_made =
      answers-order orders_paid SHIPMENT_TO_ORDER (body.Shipped id)
      ∙ ap (λ total. (ORDER_TO_CART, body.Ended id (ending.Whole total)) ∷ []) (order_total-same orders_invoiced second id refl ∙ order_total-new steps first id customer lines refl new)

  orders_now : (i : RequestId) → filter (is_of i) (checkouts_taken orders_invoiced) ≡ filter (is_of i) (acts.whole ++ acts.unpaid) ++ filter (is_of i) (r ∷ [])
  orders_now i =
      ap (filter (is_of i)) (checkouts_taken-confirmed steps first id customer lines refl) ∙ filter-append (is_of i) (checkouts_taken steps) (r ∷ [])
      ∙ ap (λ rs. rs ++ filter (is_of i) (r ∷ [])) (agree.orders i)

  pub orders_whole : (after : Acts) → after.whole ≡ acts.whole ++ r ∷ [] → after.unpaid ≡ acts.unpaid → after.items ≡ acts.items → OrdersAgree orders_shipped after
  orders_whole after whole unpaid items = record {
    known = λ i. has_order-same orders_paid third i refl ∙ has_order-same orders_invoiced second i refl ∙ has_order-confirmed steps first id customer lines refl i
        ∙ ap (λ b. b || same_id id i) (agree.known i) ∙ sym (any-whole acts.whole acts.unpaid r i) ∙ sym (λ j. list_any (is_of i) (whole j ++ unpaid j));
    orders = λ i. ap (filter (is_of i)) (checkouts_taken-same orders_paid third refl ∙ checkouts_taken-same orders_invoiced second refl) ∙ orders_now i
        ∙ sym (orders-whole acts.whole acts.unpaid r i new_checkout) ∙ sym (λ j. filter (is_of i) (whole j ++ unpaid j));
    total = λ i. order_total-same orders_paid third i refl ∙ order_total-same orders_invoiced second i refl ∙ order_total-confirmed steps first id customer lines refl i
        ∙ ap (λ n. n + cost_if i r) (agree.total i) ∙ sym (total-whole acts.whole acts.unpaid r i) ∙ sym (λ j. sum_by (cost_if i) (whole j) + sum_by (cost_if i) (unpaid j));
    failed = λ i. is_taken-same fails orders_paid third i refl ∙ is_taken-same fails orders_invoiced second i refl ∙ is_taken-same fails steps first i refl ∙ agree.failed i
        ∙ ap (list_any (is_of i)) (sym unpaid);
    shipped = λ i. is_taken-push ships orders_paid third i ∙ ap (λ b. b || same_id id i) (is_taken-same ships orders_invoiced second i refl ∙ is_taken-same ships steps first i refl ∙ agree.shipped i)
        ∙ sym (list_any-push (is_of i) acts.whole r) ∙ ap (list_any (is_of i)) (sym whole);
    items = items_taken-same orders_paid third refl ∙ items_taken-same orders_invoiced second refl ∙ items_taken-same steps first refl ∙ agree.items ∙ sym items;
  }

  -- it is not paid
  module _ (reason : PayRule) where
    abbrev pub order_failed : Body
    order_failed = body.Failed id customer reason

    abbrev pub orders_failed : List Step
    orders_failed = with_step Role.Order orders_invoiced PAYMENT_TO_ORDER order_failed

    abbrev failing : Step
    failing = step_of Role.Order orders_invoiced PAYMENT_TO_ORDER order_failed

    found_of_customer : list_any (is_for id customer) (checkouts_taken orders_invoiced) ≡ true
    found_of_customer =
        ap (list_any (is_for id customer)) (checkouts_taken-confirmed steps first id customer lines refl)
        ∙ list_any-push (is_for id customer) (checkouts_taken steps) r
        ∙ or_true (list_any (is_for id customer) (checkouts_taken steps)) (is_for id customer r) (and_from (same_id id id) (customer == customer) (same_id-self id) (same_number customer))

    pub failed_fits : fits Role.Order orders_invoiced PAYMENT_TO_ORDER order_failed ≡ true
    failed_fits =
        fits_by Role.Order orders_invoiced PAYMENT_TO_ORDER order_failed (few_after_one steps first few) (and_both (request_id_formed id && id_formed customer) (lines_formed lines) formed).0 refl refl
        (and_from (list_any (is_for id customer) (checkouts_taken orders_invoiced)) (not (is_settled orders_invoiced id)) found_of_customer (ap not unsettled))

    pub failed_made : answers Role.Order orders_invoiced PAYMENT_TO_ORDER order_failed ≡ (ORDER_TO_CART, body.Ended id (ending.Undone reason)) ∷ []
    failed_made = answers-order orders_invoiced PAYMENT_TO_ORDER order_failed

    pub orders_unpaid : (after : Acts) → after.whole ≡ acts.whole → after.unpaid ≡ acts.unpaid ++ r ∷ [] → after.items ≡ acts.items → OrdersAgree orders_failed after
    orders_unpaid after whole unpaid items = record {
      known = λ i. has_order-same orders_invoiced failing i refl ∙ has_order-confirmed steps first id customer lines refl i
          ∙ ap (λ b. b || same_id id i) (agree.known i) ∙ sym (any-unpaid acts.whole acts.unpaid r i) ∙ sym (λ j. list_any (is_of i) (whole j ++ unpaid j));
      orders = λ i. ap (filter (is_of i)) (checkouts_taken-same orders_invoiced failing refl) ∙ orders_now i
          ∙ sym (orders-unpaid acts.whole acts.unpaid r i) ∙ sym (λ j. filter (is_of i) (whole j ++ unpaid j));
      total = λ i. order_total-same orders_invoiced failing i refl ∙ order_total-confirmed steps first id customer lines refl i
          ∙ ap (λ n. n + cost_if i r) (agree.total i) ∙ sym (total-unpaid acts.whole acts.unpaid r i) ∙ sym (λ j. sum_by (cost_if i) (whole j) + sum_by (cost_if i) (unpaid j));
      failed = λ i. is_taken-push fails orders_invoiced failing i ∙ ap (λ b. b || same_id id i) (is_taken-same fails steps first i refl ∙ agree.failed i)
          ∙ sym (list_any-push (is_of i) acts.unpaid r) ∙ ap (list_any (is_of i)) (sym unpaid);
      shipped = λ i. is_taken-same ships orders_invoiced failing i refl ∙ is_taken-same ships steps first i refl ∙ agree.shipped i ∙ ap (list_any (is_of i)) (sym whole);
      items = items_taken-same orders_invoiced failing refl ∙ items_taken-same steps first refl ∙ agree.items ∙ sym items;
    }

-- a delivery of lines of whole checkouts
module _ (steps : List Step) (acts : Acts) (agree : OrdersAgree steps acts) (items : List Item) (formed : items_formed items ≡ true) (apart : items_apart acts.items items ≡ true)
    (of_whole : list_all (is_line_in acts.whole) items ≡ true) (few : length steps + most_made < most_steps) where
  abbrev pub orders_delivered : List Step
  orders_delivered = with_step Role.Order steps SHIPMENT_TO_ORDER (body.Delivered items)

  lines_same : (id : RequestId) → lines_of (checkouts_taken steps) id ≡ lines_of (acts.whole ++ acts.unpaid) id
  lines_same id = lines-own id (checkouts_taken steps) ∙ ap (flat_map (lines_if id)) (agree.orders id) ∙ sym (lines-own id (acts.whole ++ acts.unpaid))

  item_fits : (item : Item) → is_line_in acts.whole item ≡ true → order_item_fits steps item ≡ true
  item_fits item among =
      and_from (is_taken ships steps item.checkout) (list_any (λ (r : Reservation). is_of item.checkout r && is_line_of r.lines item) (checkouts_taken steps))
      (agree.shipped item.checkout ∙ any_weaker (λ (r : Reservation). is_of item.checkout r && is_line_of r.lines item) (is_of item.checkout) (λ r both. (and_both (is_of item.checkout r) (is_line_of r.lines item) both).0) acts.whole among)
      (line_among item.checkout item (checkouts_taken steps) ∙ ap (λ lines. is_line_of lines item) (lines_same item.checkout) ∙ sym (line_among item.checkout item (acts.whole ++ acts.unpaid))
      ∙ list_any-append (λ (r : Reservation). is_of item.checkout r && is_line_of r.lines item) acts.whole acts.unpaid
      ∙ or_left (is_line_in acts.whole item) (list_any (λ (r : Reservation). is_of item.checkout r && is_line_of r.lines item) acts.unpaid) among)

  pub order_delivery_fits : fits Role.Order steps SHIPMENT_TO_ORDER (body.Delivered items) ≡ true
  order_delivery_fits =
      fits_by Role.Order steps SHIPMENT_TO_ORDER (body.Delivered items) (few_before steps few) formed refl refl
      (and_from (items_apart (items_taken steps) items) (list_all (order_item_fits steps) items) (ap (λ before. items_apart before items) agree.items ∙ apart)
      (all_weaker (is_line_in acts.whole) (order_item_fits steps) item_fits items of_whole))

  pub order_delivery_made : answers Role.Order steps SHIPMENT_TO_ORDER (body.Delivered items) ≡ []
  order_delivery_made = answers-order steps SHIPMENT_TO_ORDER (body.Delivered items)

  pub orders_served : (after : Acts) → after.whole ≡ acts.whole → after.unpaid ≡ acts.unpaid → after.items ≡ acts.items ++ items → OrdersAgree orders_delivered after
  orders_served after whole unpaid more =
      let s = step_of Role.Order steps SHIPMENT_TO_ORDER (body.Delivered items) in
      record {
        known = λ i. has_order-same steps s i refl ∙ agree.known i ∙ sym (λ j. list_any (is_of i) (whole j ++ unpaid j));
        orders = λ i. ap (filter (is_of i)) (checkouts_taken-same steps s refl) ∙ agree.orders i ∙ sym (λ j. filter (is_of i) (whole j ++ unpaid j));
        total = λ i. order_total-same steps s i refl ∙ agree.total i ∙ sym (λ j. sum_by (cost_if i) (whole j) + sum_by (cost_if i) (unpaid j));
        failed = λ i. is_taken-same fails steps s i refl ∙ agree.failed i ∙ ap (list_any (is_of i)) (sym unpaid);
        shipped = λ i. is_taken-same ships steps s i refl ∙ agree.shipped i ∙ ap (list_any (is_of i)) (sym whole);
        items = items_taken-push steps s ∙ ap (λ before. before ++ items) agree.items ∙ sym more;
      }
