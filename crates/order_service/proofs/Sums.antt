-- What some of the lines cost, and how many of some items are of an order.
use Rattle.std.proofs.Common.{◌≡◌, ℕ, ◌+◌, ◌-◌, ◌≤◌, ◌<◌, ◌==◌, Bool, true, false, ◌&&◌, nat_lt, cond, List, [], ◌∷◌, ◌++◌, length, take, drop, get_or, Option, Some, None, if◌then◌else◌, refl, ap, sym, ◌∙◌, add-one, eq-eqb, arith}
use Rattle.std.proofs.lemmas.Bool.Decides.{nat_tests}
use Rattle.std.specs.List.{list_any}
use Rattle.std.proofs.lemmas.List.{take-append-drop}
use Rattle.std.proofs.lemmas.List.Sums.{sum_by-append, sum_by-cons}
use Rattle.std.proofs.Math.Seq.{take-suc}
use Rattle.market_amounts.specs.Amounts.{amount_of}
use Rattle.market_amounts.specs.declared.keys.RequestId.{RequestId}
use Rattle.market_events.specs.declared.bodies.Item.{Item}
use Rattle.market_events.specs.declared.bodies.PricedLine.{PricedLine}
use Rattle.market_events.specs.declared.replies.OrderStatus.TheVariants as status
use Rattle.market_events.specs.Formed.{lines_formed}
use Rattle.market_events.specs.Requests.{same_id}
use Rattle.market_events.specs.WellFormed.{total_of, total_max}
use Rattle.market_events.proofs.Values.Lists.{and_both, and_from, any_weaker, count-none, false_from}
use Rattle.market_events.proofs.Runs.Orders.{is_item_for}
use Rattle.market_events.proofs.Values.Same.{same_id-self}
use Rattle.market_events.proofs.Runs.Totals.{lines_formed-total}
use Rattle.market_events.proofs.Values.Totals.{total_of-step}
use Rattle.order_service.specs.declared.tables.Order.{Order}
use Rattle.order_service.specs.Tables.{open_in, customer_in, with_delivered, with_item, is_own, item_count}

-- the total of lines put together
total_of-append : (a b : List PricedLine) → total_of (a ++ b) ≡ total_of a + total_of b
total_of-append [] b = omega arith
total_of-append (l ∷ a) b = omega (arith, total_of-append a b)

-- some of the lines cost no more than all
total_of-take : (lines : List PricedLine) (i : ℕ) → total_of (take i lines) ≤ total_of lines
total_of-take lines i = omega (arith, ap total_of (take-append-drop i lines), total_of-append (take i lines) (drop i lines))

-- so the total with the line at a place is one that there may be
pub total_of-fits : (lines : List PricedLine) (i : ℕ) (line : PricedLine) → i < length lines → line ≡ get_or lines i line → lines_formed lines ≡ true
    → total_of (take i lines) + amount_of line.price line.quantity line.freight line.voucher ≤ total_max
total_of-fits lines i line below is formed = omega (arith, total_of-step lines i line below is, total_of-take lines (i + 1), lines_formed-total lines formed)

-- how many are of the order with the item at a place
item_count-next : (id : RequestId) (o : Option Order) (items : List Item) (i : ℕ) (d : Item) → i < length items
    → item_count id o (take (i + 1) items) ≡ item_count id o (take i items) + item_count id o (get_or items i d ∷ [])
item_count-next id None items i d h = omega arith
item_count-next id (Some order) items i d h =
    let next : take (i + 1) items ≡ take i items ++ get_or items i d ∷ [] = rw add-one (take-suc items i d h) in
    ap (item_count id (Some order)) next ∙ sum_by-append (λ (x : Item). cond (is_own id order.customer x) 1 0) (take i items) (get_or items i d ∷ [])

-- some of the items are no more than all
item_count-take : (id : RequestId) (o : Option Order) (items : List Item) (i : ℕ) → item_count id o (take i items) ≤ item_count id o items
item_count-take id None items i = omega arith
item_count-take id (Some order) items i =
    omega (arith, ap (item_count id (Some order)) (take-append-drop i items), sum_by-append (λ (x : Item). cond (is_own id order.customer x) 1 0) (take i items) (drop i items))

-- none of no items
pub item_count-nil : (id : RequestId) (o : Option Order) → item_count id o [] ≡ 0
item_count-nil id None = refl
item_count-nil id (Some order) = omega arith

-- where no item is of the checkout
pub item_count-none : (id : RequestId) (o : Option Order) (items : List Item) → list_any (is_item_for id) items ≡ false → item_count id o items ≡ 0
item_count-none id None items none = refl
item_count-none id (Some order) items none =
    count-none (is_own id order.customer) items (false_from (list_any (is_own id order.customer) items)
    (λ any. sym none ∙ any_weaker (is_own id order.customer) (is_item_for id) (λ i own. (and_both (same_id i.checkout id) (order.customer == i.customer) own).0) items any))

-- what stands for an item past the end of a list
abbrev pub no_item : Item
no_item = record { checkout = record { caller = 0; number = 0 }; customer = 0; key = record { seller = 0; product = 0 } }

-- one item, which is the order's
one_own : (id : RequestId) (order : Order) (item : Item) → is_own id order.customer item ≡ true → item_count id (Some order) (item ∷ []) ≡ 1
one_own id order item own = sum_by-cons (λ (x : Item). cond (is_own id order.customer x) 1 0) item [] ∙ rw own (omega arith)

one_other : (id : RequestId) (order : Order) (item : Item) → is_own id order.customer item ≡ false → item_count id (Some order) (item ∷ []) ≡ 0
one_other id order item other = sum_by-cons (λ (x : Item). cond (is_own id order.customer x) 1 0) item [] ∙ rw other (omega arith)

-- the item at a place, where it is of its order's customer, comes behind those in front of it
pub item_count-fit : (o : Option Order) (items : List Item) (i : ℕ) (d : Item) → i < length items → customer_in o ≡ Some (get_or items i d).customer
    → item_count (get_or items i d).checkout o (take i items) + 1 ≤ item_count (get_or items i d).checkout o items
item_count-fit None items i d below own = cc
item_count-fit (Some order) items i d below own =
    let item = get_or items i d in
    let one = one_own item.checkout order item (and_from (same_id item.checkout item.checkout) (order.customer == item.customer) (same_id-self item.checkout) (eq-eqb order.customer item.customer (same_some order.customer item.customer own))) in
    omega (arith, one, item_count-next item.checkout (Some order) items i d below, item_count-take item.checkout (Some order) items (i + 1))
  where
    same_some : (a b : ℕ) → Some a ≡ Some b → a ≡ b
    same_some a b e = cc

-- the open lines that are left
pub open_in-with_delivered : (n : ℕ) (o : Option Order) → open_in (with_delivered n o) ≡ open_in o - n
open_in-with_delivered n None = omega arith
open_in-with_delivered n (Some order) = refl

-- whose the order is stays
pub customer_in-with_delivered : (n : ℕ) (o : Option Order) → customer_in (with_delivered n o) ≡ customer_in o
customer_in-with_delivered n None = refl
customer_in-with_delivered n (Some order) = refl

-- nothing is delivered
pub with_delivered-zero : (o : Option Order) → o ≡ with_delivered 0 o
with_delivered-zero None = refl
with_delivered-zero (Some order) =
    let e : order.undelivered ≡ order.undelivered - 0 = omega arith in
    λ i. Some (record { customer = order.customer; status = order.status; total = order.total; undelivered = e i })

-- one more is delivered
with_delivered-more : (n : ℕ) (order : Order) → n + 1 ≤ order.undelivered → with_delivered 1 (with_delivered n (Some order)) ≡ with_delivered (n + 1) (Some order)
with_delivered-more n order open_still =
    let left : order.undelivered - n - 1 ≡ order.undelivered - (n + 1) = omega arith in
    let more : true ≡ nat_lt 0 (n + 1) = grind (arith, nat_tests) in
    let some : (order.undelivered - n == 0) ≡ false = grind (arith, nat_tests) in
    (λ i. Some (record {
      customer = order.customer;
      status = if left i == 0 then status.Delivered else if both (nat_lt 0 n) (order.undelivered - n == 0) some i then status.Delivered else order.status;
      total = order.total;
      undelivered = left i;
    }))
    ∙ (λ i. Some (record {
      customer = order.customer;
      status = if more i && (order.undelivered - (n + 1) == 0) then status.Delivered else order.status;
      total = order.total;
      undelivered = order.undelivered - (n + 1);
    }))
  where
    both : (a b : Bool) → b ≡ false → (a && b) ≡ false
    both true b none = none
    both false b none = refl

-- an item of the list is delivered behind others
pub with_item-next : (id : RequestId) (o : Option Order) (n : ℕ) (item : Item) → n + item_count id o (item ∷ []) ≤ open_in o
    → (if same_id item.checkout id then with_item item.customer (with_delivered n o) else with_delivered n o) ≡ with_delivered (n + item_count id o (item ∷ [])) o
with_item-next id None n item within = by (same_id item.checkout id)
  where
    no_order : Option Order
    no_order = None

    by : (b : Bool) → (if b then no_order else no_order) ≡ no_order
    by true = refl
    by false = refl
with_item-next id (Some order) n item within = by (same_id item.checkout id) refl (order.customer == item.customer) refl
  where
    none_more : is_own id order.customer item ≡ false → with_delivered n (Some order) ≡ with_delivered (n + item_count id (Some order) (item ∷ [])) (Some order)
    none_more other =
        let same : n ≡ n + item_count id (Some order) (item ∷ []) = omega (arith, one_other id order item other) in
        ap (λ n. with_delivered n (Some order)) same

    by : (b : Bool) → same_id item.checkout id ≡ b → (c : Bool) → (order.customer == item.customer) ≡ c
        → (if b then with_item item.customer (with_delivered n (Some order)) else with_delivered n (Some order)) ≡ with_delivered (n + item_count id (Some order) (item ∷ [])) (Some order)
    by true same true his =
        let one = one_own id order item (and_from (same_id item.checkout id) (order.customer == item.customer) same his) in
        let sum : n + 1 ≡ n + item_count id (Some order) (item ∷ []) = omega (arith, one) in
        ap (λ b. if b then with_delivered 1 (with_delivered n (Some order)) else with_delivered n (Some order)) his
        ∙ with_delivered-more n order (omega (arith, one, within)) ∙ ap (λ n. with_delivered n (Some order)) sum
    by true same false others =
        ap (λ b. if b then with_delivered 1 (with_delivered n (Some order)) else with_delivered n (Some order)) others
        ∙ none_more (ap (λ b. b && (order.customer == item.customer)) same ∙ others)
    by false other c is = none_more (ap (λ b. b && (order.customer == item.customer)) other)

-- an item at a place is delivered behind those in front of it
pub with_item-place : (id : RequestId) (o : Option Order) (items : List Item) (i : ℕ) (d : Item) → i < length items → item_count id o items ≤ open_in o
    → (if same_id (get_or items i d).checkout id then with_item (get_or items i d).customer (with_delivered (item_count id o (take i items)) o) else with_delivered (item_count id o (take i items)) o)
    ≡ with_delivered (item_count id o (take (i + 1) items)) o
with_item-place id o items i d below within =
    with_item-next id o (item_count id o (take i items)) (get_or items i d)
    (omega (arith, within, item_count-next id o items i d below, item_count-take id o items (i + 1)))
    ∙ ap (λ n. with_delivered n o) (sym (item_count-next id o items i d below))
