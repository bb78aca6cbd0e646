-- What one more step makes of what is kept of orders, and of what is told.
use Rattle.std.proofs.Common.{◌≡◌, ℕ, ◌+◌, ◌-◌, ◌≤◌, ◌==◌, Bool, true, false, ◌&&◌, nat_lt, List, [], ◌∷◌, ◌++◌, Option, Some, None, is_some, option_map, length, if◌then◌else◌, refl, ap, sym, subst, ◌∙◌, count_by, arith}
use Rattle.std.proofs.lemmas.Bool.Decides.{nat_tests}
use Rattle.std.specs.List.{list_any, list_all}
use Rattle.market_amounts.specs.declared.keys.RequestId.{RequestId}
use Rattle.market_events.specs.declared.bodies.Body.{Body}
use Rattle.market_events.specs.declared.bodies.Body.TheVariants as body
use Rattle.market_events.specs.declared.bodies.Item.{Item}
use Rattle.market_events.specs.declared.bodies.PricedLine.{PricedLine}
use Rattle.market_events.specs.declared.replies.OrderStatus.{OrderStatus}
use Rattle.market_events.specs.declared.replies.OrderStatus.TheVariants as status
use Rattle.market_events.specs.Formed.{body_formed}
use Rattle.market_events.specs.Orders.{checkouts_taken, is_of, items_in, items_taken, open_lines, ships, is_taken, is_nil, order_status, order_total, order_rows, order_sums}
use Rattle.market_events.specs.Requests.{same_id}
use Rattle.market_events.specs.Services.{IsRunOf, order_fits, order_item_fits, items_apart, is_line_of, fits, reactions}
use Rattle.market_events.specs.Steps.{Step}
use Rattle.market_events.specs.Stocks.{Reservation, reservation_in, confirms, fails}
use Rattle.market_events.specs.WellFormed.{total_of}
use Rattle.market_events.proofs.Values.Lists.{and_both, not_true, false_from, true_from, all-any}
use Rattle.market_events.proofs.Steps.Orders.{has_order-same, order_total-same, order_total-confirmed, order_total-new, open_lines-same, open_lines-other, open_lines-new, open_lines-undelivered, status_by}
use Rattle.market_events.proofs.Runs.Orders.{OrderRun, OrderRun-of, is_item_for, lines_formed-some, answers-order}
use Rattle.market_events.proofs.Steps.Reservations.{none-found, sum-none}
use Rattle.market_events.proofs.Values.Same.{same_id-self, same_id-true}
use Rattle.market_events.proofs.Runs.OrderStatuses.{has_order-by_status, order_at, order_at-same, order_at-confirmed, order_status-same, order_status-other, order_status-invoiced, order_status-paid, order_status-cancelled, order_status-shipped, order_status-delivered, order_status-undelivered}
use Rattle.market_events.proofs.Runs.Stock.{checkout_formed-lines}
use Rattle.order_service.specs.declared.tables.Order.{Order}
use Rattle.order_service.specs.Tables.{open_in, new_order, with_status, with_delivered, is_own, item_count, order_after, order_at as kept_at, status_in, sums_at, total_of_order}
use Rattle.order_service.proofs.Deliveries.{open_lines-left}
use Rattle.order_service.proofs.Sums.{with_delivered-zero, item_count-none, item_count-nil}
use Rattle.std.proofs.Math.Bool.{Bool-set}
use Rattle.std.proofs.Math.Logic.{∥∥₁_elim}
use Rattle.std.specs.Coded.{le_prop}
use Rattle.market_events.specs.declared.links.Link.{Link}
use Rattle.market_events.specs.Standing.{Stands, CanTake, step_of, with_step}
use Rattle.market_events.proofs.Runs.Standing.{reactions-fit}
use Rattle.market_events.proofs.Steps.Taken.{fits-parts}
use Rattle.order_service.specs.Holds.{order_customer, order_by, order_customer, order_by, Holds, customer_reserved}
use Rattle.market_events.specs.declared.roles.Role.{Role}

-- an order with this status, where there is one
abbrev pub order_of : Option OrderStatus → ℕ → ℕ → ℕ → Option Order
order_of st customer total left = option_map (λ (st : OrderStatus). record { customer = customer; status = st; total = total; undelivered = left }) st

-- the customer: a step whose body confirms no checkout
customer-same : (steps : List Step) (s : Step) (id : RequestId) → reservation_in s.body ≡ None → order_customer (steps ++ s ∷ []) id ≡ order_customer steps id
customer-same steps s id none = ap customer_reserved (order_at-same steps s id none)

-- a step that leaves all four of a checkout
same_order : (steps : List Step) (s : Step) (id : RequestId) → order_customer (steps ++ s ∷ []) id ≡ order_customer steps id → order_status (steps ++ s ∷ []) id ≡ order_status steps id → order_total (steps ++ s ∷ []) id ≡ order_total steps id → open_lines (steps ++ s ∷ []) id ≡ open_lines steps id
    → order_by (steps ++ s ∷ []) id ≡ order_by steps id
same_order steps s id customer status total lines = λ i. order_of (status i) (customer i) (total i) (length (lines i))

-- a step that marks the order of a checkout, and no other
marks : (steps : List Step) (s : Step) (checkout : RequestId) (st : OrderStatus) → reservation_in s.body ≡ None → items_in s.body ≡ []
    → order_status (steps ++ s ∷ []) checkout ≡ Some st → ((id : RequestId) → same_id checkout id ≡ false → order_status (steps ++ s ∷ []) id ≡ order_status steps id)
    → (id : RequestId) → order_by (steps ++ s ∷ []) id ≡ (if same_id checkout id then with_status st (order_by steps id) else order_by steps id)
marks steps s checkout st none nothing here others id = either (same_id checkout id) refl
  where
    has : is_some (order_status steps checkout) ≡ true
    has = sym (has_order-by_status steps checkout) ∙ sym (has_order-same steps s checkout none) ∙ has_order-by_status (steps ++ s ∷ []) checkout ∙ ap is_some here

    is_with_status : (o : Option OrderStatus) (customer total left : ℕ) → is_some o ≡ true → order_of (Some st) customer total left ≡ with_status st (order_of o customer total left)
    is_with_status None customer total left has = cc
    is_with_status (Some was) customer total left has = refl

    at : order_by (steps ++ s ∷ []) checkout ≡ with_status st (order_by steps checkout)
    at =
        (λ i. order_of (here i) (customer-same steps s checkout none i) (order_total-same steps s checkout none i) (length (open_lines-same steps s checkout none nothing i)))
        ∙ is_with_status (order_status steps checkout) (order_customer steps checkout) (order_total steps checkout) (length (open_lines steps checkout)) has

    either : (b : Bool) → same_id checkout id ≡ b → order_by (steps ++ s ∷ []) id ≡ (if b then with_status st (order_by steps id) else order_by steps id)
    either true same = subst (λ id. order_by (steps ++ s ∷ []) id ≡ with_status st (order_by steps id)) (same_id-true checkout id same) at
    either false other = same_order steps s id (customer-same steps s id none) (others id other) (order_total-same steps s id none) (open_lines-same steps s id none nothing)

-- a checkout is confirmed by stock
invoices : (steps : List Step) (s : Step) (checkout : RequestId) (customer : ℕ) (lines : List PricedLine) → IsRunOf Role.Order steps → s.body ≡ body.StockConfirmed checkout customer lines
    → order_fits steps (body.StockConfirmed checkout customer lines) ≡ true → is_nil lines ≡ false
    → (id : RequestId) → order_by (steps ++ s ∷ []) id ≡ (if same_id checkout id then Some (new_order customer lines) else order_by steps id)
invoices steps s checkout customer lines runs is fit some id = either (same_id checkout id) refl
  where
    run : OrderRun steps
    run = OrderRun-of steps runs

    new : list_any (is_of checkout) (checkouts_taken steps) ≡ false
    new = not_true (list_any (is_of checkout) (checkouts_taken steps)) fit

    unshipped : is_taken ships steps checkout ≡ false
    unshipped = false_from (is_taken ships steps checkout) (λ shipped. sym ((run.at checkout).unpaid new) ∙ (run.at checkout).paid_first shipped)

    undelivered : list_any (is_item_for checkout) (items_taken steps) ≡ false
    undelivered = false_from (list_any (is_item_for checkout) (items_taken steps)) (λ delivered. sym unshipped ∙ (run.at checkout).shipped_first delivered)

    at : order_by (steps ++ s ∷ []) checkout ≡ Some (new_order customer lines)
    at =
        let st = order_status-invoiced steps s checkout customer lines run is fit some in
        let total = order_total-new steps s checkout customer lines is new in
        let left = open_lines-new steps s checkout customer lines is new undelivered in
        let who : order_customer (steps ++ s ∷ []) checkout ≡ customer
        = ap customer_reserved (order_at-confirmed steps s checkout customer lines is new checkout)
        ∙ ap (λ b. customer_reserved (if b then Some (record { checkout = checkout; customer = customer; lines = lines }) else order_at steps checkout)) (same_id-self checkout) in
        λ i. order_of (st i) (who i) (total i) (length (left i))

    no_more : (b : Bool) → b ≡ false → order_total steps id + (if b then total_of lines else 0) ≡ order_total steps id
    no_more true h = cc
    no_more false h = omega arith

    either : (b : Bool) → same_id checkout id ≡ b → order_by (steps ++ s ∷ []) id ≡ (if b then Some (new_order customer lines) else order_by steps id)
    either true same = subst (λ id. order_by (steps ++ s ∷ []) id ≡ Some (new_order customer lines)) (same_id-true checkout id same) at
    either false other =
        same_order steps s id
        (ap customer_reserved (order_at-confirmed steps s checkout customer lines is new id)
        ∙ ap (λ b. customer_reserved (if b then Some (record { checkout = checkout; customer = customer; lines = lines }) else order_at steps id)) other)
        (order_status-other steps s checkout customer lines is id other)
        (order_total-confirmed steps s checkout customer lines is id ∙ no_more (same_id checkout id) other)
        (open_lines-other steps s checkout customer lines is id other)

-- a delivery
module _ (steps : List Step) (items : List Item) (runs : IsRunOf Role.Order steps) (fit : order_fits steps (body.Delivered items) ≡ true) (id : RequestId) where
  -- a checkout with an item was shipped
  was_shipped : list_any (is_item_for id) items ≡ true → is_taken ships steps id ≡ true
  was_shipped any =
      all-any (order_item_fits steps) (is_item_for id) (is_taken ships steps id ≡ true)
      (λ item passes same. ap (is_taken ships steps) (sym (same_id-true item.checkout id same)) ∙ (and_both (is_taken ships steps item.checkout) (list_any (λ (r : Reservation). is_of item.checkout r && is_line_of r.lines item) (checkouts_taken steps)) passes).0)
      items (and_both (items_apart (items_taken steps) items) (list_all (order_item_fits steps) items) fit).1 any

  -- and has an order
  has_order : list_any (is_item_for id) items ≡ true → list_any (is_of id) (checkouts_taken steps) ≡ true
  has_order any =
      let at = (OrderRun-of steps runs).at id in
      true_from (list_any (is_of id) (checkouts_taken steps)) (λ new. sym (at.unpaid new) ∙ at.paid_first (was_shipped any))

  -- which is shipped or delivered
  is_shipped : list_any (is_item_for id) items ≡ true → order_status steps id ≡ (if is_nil (open_lines steps id) then Some status.Delivered else Some status.Shipped)
  is_shipped any =
      let at = (OrderRun-of steps runs).at id in
      let shipped = was_shipped any in
      let unfailed = false_from (is_taken fails steps id) (λ failed. sym (at.apart failed) ∙ at.paid_first shipped) in
      λ i. status_by (has_order any i) (unfailed i) (is_nil (open_lines steps id)) (shipped i) (is_taken confirms steps id)

  -- an order that is shipped, by its open lines
  abbrev shipped_with : List PricedLine → Option Order
  shipped_with lines = order_of (if is_nil lines then Some status.Delivered else Some status.Shipped) (order_customer steps id) (order_total steps id) (length lines)

  order_shipped : list_any (is_item_for id) items ≡ true → order_by steps id ≡ shipped_with (open_lines steps id)
  order_shipped any = ap (λ st. order_of st (order_customer steps id) (order_total steps id) (length (open_lines steps id))) (is_shipped any)

  -- how many items are its own, and how many lines are open
  own_count : (lines : List PricedLine) → item_count id (shipped_with lines) items ≡ count_by (is_own id (order_customer steps id)) items
  own_count [] = refl
  own_count (l ∷ lines) = refl

  open_count : (lines : List PricedLine) → open_in (shipped_with lines) ≡ length lines
  open_count [] = refl
  open_count (l ∷ lines) = refl

  -- with lines that are left
  with_left : (now was : List PricedLine) (n : ℕ) → length now + n ≡ length was → shipped_with now ≡ with_delivered n (shipped_with was)
  with_left [] [] n e =
      let none : 0 ≡ 0 - n = omega (arith, e) in
      λ i. Some (record { customer = order_customer steps id; status = either (nat_lt 0 n && (0 - n == 0)) i; total = order_total steps id; undelivered = none i })
    where
      either : (b : Bool) → status.Delivered ≡ (if b then status.Delivered else status.Delivered)
      either true = refl
      either false = refl
  with_left [] (w ∷ was) n e =
      let left = length (w ∷ was) in
      let more : nat_lt 0 n ≡ true = grind (arith, nat_tests) in
      let none : 0 ≡ left - n = omega (arith, e) in
      (λ i. Some (record { customer = order_customer steps id; status = if sym more i && (0 == 0) then status.Delivered else status.Shipped; total = order_total steps id; undelivered = 0 }))
      ∙ (λ i. Some (record { customer = order_customer steps id; status = if nat_lt 0 n && (none i == 0) then status.Delivered else status.Shipped; total = order_total steps id; undelivered = none i }))
  with_left (l ∷ now) [] n e = absurd (omega (arith, e))
  with_left (l ∷ now) (w ∷ was) n e =
      let left = length (w ∷ was) in
      let here : length (l ∷ now) ≡ left - n = omega (arith, e) in
      let open_still : false ≡ (left - n == 0) = grind (arith, nat_tests) in
      (λ i. Some (record { customer = order_customer steps id; status = status.Shipped; total = order_total steps id; undelivered = here i }))
      ∙ ap (λ b. let o : Option Order = Some (record { customer = order_customer steps id; status = if b then status.Delivered else status.Shipped; total = order_total steps id; undelivered = left - n }) in o) (and_none (nat_lt 0 n) (left - n == 0) open_still)
    where
      and_none : (a b : Bool) → false ≡ b → false ≡ (a && b)
      and_none true b h = h
      and_none false b h = refl

  module _ (s : Step) (is : s.body ≡ body.Delivered items) where
    left : list_any (is_item_for id) items ≡ true → length (open_lines (steps ++ s ∷ []) id) + item_count id (order_by steps id) items ≡ length (open_lines steps id)
    left any = by (order_at steps id) refl
      where
        counted : item_count id (order_by steps id) items ≡ count_by (is_own id (order_customer steps id)) items
        counted = ap (λ o. item_count id o items) (order_shipped any) ∙ own_count (open_lines steps id)

        by : (o : Option Reservation) → order_at steps id ≡ o → length (open_lines (steps ++ s ∷ []) id) + item_count id (order_by steps id) items ≡ length (open_lines steps id)
        by None found = cc (none-found id (checkouts_taken steps) found, has_order any)
        by (Some r) found = ap (λ n. length (open_lines (steps ++ s ∷ []) id) + n) counted ∙ open_lines-left steps s items runs is fit id r found

    delivers : order_by (steps ++ s ∷ []) id ≡ with_delivered (item_count id (order_by steps id) items) (order_by steps id)
    delivers = either (list_any (is_item_for id) items) refl
      where
        either : (b : Bool) → list_any (is_item_for id) items ≡ b → order_by (steps ++ s ∷ []) id ≡ with_delivered (item_count id (order_by steps id) items) (order_by steps id)
        either true any =
            let st = order_status-delivered steps s items id (OrderRun-of steps runs) is (was_shipped any) in
            let who = customer-same steps s id (ap reservation_in is) in
            let total = order_total-same steps s id (ap reservation_in is) in
            (λ i. order_of (st i) (who i) (total i) (length (open_lines (steps ++ s ∷ []) id)))
            ∙ with_left (open_lines (steps ++ s ∷ []) id) (open_lines steps id) (item_count id (order_by steps id) items) (left any)
            ∙ ap (with_delivered (item_count id (order_by steps id) items)) (sym (order_shipped any))
        either false none =
            let zero : item_count id (order_by steps id) items ≡ 0 = item_count-none id (order_by steps id) items none in
            same_order steps s id (customer-same steps s id (ap reservation_in is)) (order_status-undelivered steps s items id is none) (order_total-same steps s id (ap reservation_in is)) (open_lines-undelivered steps s items is id none)
            ∙ with_delivered-zero (order_by steps id) ∙ ap (λ n. with_delivered n (order_by steps id)) (sym zero)

    -- the lines that are delivered were open
    pub delivers_open : item_count id (order_by steps id) items ≤ open_in (order_by steps id)
    delivers_open = either (list_any (is_item_for id) items) refl
      where
        either : (b : Bool) → list_any (is_item_for id) items ≡ b → item_count id (order_by steps id) items ≤ open_in (order_by steps id)
        either true any = omega (arith, left any, ap open_in (order_shipped any), open_count (open_lines steps id))
        either false none = omega (arith, item_count-none id (order_by steps id) items none)

-- what a step leaves of each order
by_body : (steps : List Step) (s : Step) (b : Body) → s.body ≡ b → IsRunOf Role.Order steps → order_fits steps b ≡ true → body_formed b ≡ true → (id : RequestId) → order_by (steps ++ s ∷ []) id ≡ order_after (order_by steps) b id
by_body steps s (body.Asked request) is run fit formed id =
    same_order steps s id (customer-same steps s id (ap reservation_in is)) (order_status-same steps s id (ap reservation_in is) (ap items_in is) (ap (fails id) is) (ap (confirms id) is) (ap (ships id) is))
    (order_total-same steps s id (ap reservation_in is)) (open_lines-same steps s id (ap reservation_in is) (ap items_in is))
by_body steps s (body.StockConfirmed checkout customer lines) is run fit formed id =
    invoices steps s checkout customer lines run is fit (lines_formed-some lines (checkout_formed-lines checkout customer lines formed)) id
by_body steps s (body.Confirmed checkout customer lines total) is run fit formed id =
    marks steps s checkout status.Paid (ap reservation_in is) (ap items_in is) (order_status-paid steps s checkout customer lines total (OrderRun-of steps run) is fit)
    (λ id other. order_status-same steps s id (ap reservation_in is) (ap items_in is) (ap (fails id) is) (ap (confirms id) is ∙ other) (ap (ships id) is)) id
by_body steps s (body.Failed checkout customer reason) is run fit formed id =
    marks steps s checkout status.Cancelled (ap reservation_in is) (ap items_in is) (order_status-cancelled steps s checkout customer reason is fit)
    (λ id other. order_status-same steps s id (ap reservation_in is) (ap items_in is) (ap (fails id) is ∙ other) (ap (confirms id) is) (ap (ships id) is)) id
by_body steps s (body.Shipped checkout) is run fit formed id =
    marks steps s checkout status.Shipped (ap reservation_in is) (ap items_in is) (order_status-shipped steps s checkout (OrderRun-of steps run) is fit)
    (λ id other. order_status-same steps s id (ap reservation_in is) (ap items_in is) (ap (fails id) is) (ap (confirms id) is) (ap (ships id) is ∙ other)) id
by_body steps s (body.Delivered items) is run fit formed id = delivers steps items run fit id s is
by_body steps s other is run fit formed id = cc

pub order_by-push : (steps : List Step) (s : Step) → IsRunOf Role.Order steps → order_fits steps s.body ≡ true → body_formed s.body ≡ true → (id : RequestId) → order_by (steps ++ s ∷ []) id ≡ order_after (order_by steps) s.body id
order_by-push steps s run fit formed id = by_body steps s s.body refl run fit formed id

-- what the steps say of the status and the total
status_in-order_by : (steps : List Step) (id : RequestId) → status_in (order_by steps id) ≡ order_status steps id
status_in-order_by steps id = either (order_status steps id)
  where
    either : (o : Option OrderStatus) → status_in (order_of o (order_customer steps id) (order_total steps id) (length (open_lines steps id))) ≡ o
    either None = refl
    either (Some st) = refl

total_in-order_by : (steps : List Step) (id : RequestId) → total_of_order (order_by steps id) ≡ order_total steps id
total_in-order_by steps id = either (order_status steps id) refl
  where
    either : (o : Option OrderStatus) → order_status steps id ≡ o → total_of_order (order_of o (order_customer steps id) (order_total steps id) (length (open_lines steps id))) ≡ order_total steps id
    either None none = sym (sum-none (λ (r : Reservation). total_of r.lines) id (checkouts_taken steps) (has_order-by_status steps id ∙ ap is_some none))
    either (Some st) some = refl

-- the table has the sums of the steps
sums_same : (table : List (RequestId × Order)) (steps : List Step) → Holds table steps → sums_at table ≡ order_sums steps
sums_same table steps held =
    λ i. record {
      status = λ id. (ap status_in (held.each id) ∙ status_in-order_by steps id) i;
      total = λ id. (ap total_of_order (held.each id) ∙ total_in-order_by steps id) i;
    }

module _ (table : List (RequestId × Order)) (steps : List Step) (from : Link) (b : Body) (stands : Stands Role.Order Holds table steps) (fit : fits Role.Order steps from b ≡ true) where
  -- what is made
  pub makes : order_rows (sums_at table) b ≡ reactions Role.Order steps from b
  makes =
      ap (λ sums. order_rows sums b) (sums_same table steps stands.held) ∙ sym (answers-order steps from b)
      ∙ sym (reactions-fit Role.Order steps from b fit)

  -- what is kept
  pub keeps : (now : List (RequestId × Order)) → ((id : RequestId) → kept_at now id ≡ order_after (kept_at table) b id) → Holds now (with_step Role.Order steps from b)
  keeps now each =
      let parts = fits-parts Role.Order steps from b fit in
      record {
        each = λ id. each id ∙ (λ i. order_after (λ id. stands.held.each id i) b id)
            ∙ sym (order_by-push steps (step_of Role.Order steps from b) stands.run parts.due parts.formed id);
      }

-- what is taken is well formed
pub taken_formed : (table : List (RequestId × Order)) (from : Link) (b : Body) → CanTake Role.Order Holds table from b → body_formed b ≡ true
taken_formed table from b can = ∥∥₁_elim can (Bool-set (body_formed b) true) (λ it. (fits-parts Role.Order it.0 from b it.2).formed)

-- a body delivers lines that are open
opens : (steps : List Step) (s : Step) (b : Body) → s.body ≡ b → IsRunOf Role.Order steps → order_fits steps b ≡ true → (id : RequestId) → item_count id (order_by steps id) (items_in b) ≤ open_in (order_by steps id)
opens steps s (body.Delivered items) is run fit id = delivers_open steps items run fit id s is
opens steps s other is run fit id = omega (arith, item_count-nil id (order_by steps id))

pub taken_open : (table : List (RequestId × Order)) (from : Link) (b : Body) → CanTake Role.Order Holds table from b → (id : RequestId) → item_count id (kept_at table id) (items_in b) ≤ open_in (kept_at table id)
taken_open table from b can id = ∥∥₁_elim can le_prop (λ it.
    subst (λ o. item_count id o (items_in b) ≤ open_in o) (sym (it.1.held.each id))
    (opens it.0 (step_of Role.Order it.0 from b) b refl it.1.run (fits-parts Role.Order it.0 from b it.2).due id))
