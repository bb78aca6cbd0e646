-- What one more step makes of orders: their totals, their open lines and their status.
use Rattle.std.proofs.Common.{◌≡◌, ℕ, ◌+◌, Bool, true, false, ◌||◌, not, List, [], ◌∷◌, ◌++◌, Option, Some, None, filter, filter_map, if◌then◌else◌, sum_by, refl, ap, ◌∙◌, append-nil, arith}
use Rattle.std.specs.List.{list_any, flat_map}
use Rattle.std.proofs.lemmas.List.Folds.{list_any-append}
use Rattle.std.proofs.lemmas.List.Sums.{sum_by_push}
use Rattle.market_amounts.specs.declared.keys.RequestId.{RequestId}
use Rattle.market_events.specs.declared.bodies.Body.TheVariants as body
use Rattle.market_events.specs.declared.bodies.Item.{Item}
use Rattle.market_events.specs.declared.bodies.PricedLine.{PricedLine}
use Rattle.market_events.specs.declared.replies.OrderStatus.{OrderStatus}
use Rattle.market_events.specs.declared.replies.OrderStatus.TheVariants as status
use Rattle.market_events.specs.Orders.{checkouts_taken, is_of, order_total, items_in, items_taken, same_item, item_of, is_left, lines_left, open_lines}
use Rattle.market_events.specs.Requests.{same_id}
use Rattle.market_events.specs.Steps.{Step, taken_bodies}
use Rattle.market_events.specs.Stocks.{Reservation, reservation_in}
use Rattle.market_events.specs.WellFormed.{total_of}
use Rattle.market_events.proofs.Steps.Reservations.{sum-none, lines-none}
use Rattle.market_events.proofs.Values.Same.{same_id-self, same_id-true}
use Rattle.market_events.proofs.Steps.Taken.{taken_bodies-push}
use Rattle.market_events.proofs.Values.Lists.{flat_map-push, filter_map-push, list_any-push, or_false, or_parts}

-- checkouts: the step's body is taken last, where stock confirmed it
pub checkouts_taken-push : (steps : List Step) (s : Step) → checkouts_taken (steps ++ s ∷ []) ≡ checkouts_taken steps ++ filter_map reservation_in (s.body ∷ [])
checkouts_taken-push steps s = ap (filter_map reservation_in) (taken_bodies-push steps s) ∙ filter_map-push reservation_in (taken_bodies steps) s.body

-- checkouts: a step whose body confirms none
pub checkouts_taken-same : (steps : List Step) (s : Step) → reservation_in s.body ≡ None → checkouts_taken (steps ++ s ∷ []) ≡ checkouts_taken steps
checkouts_taken-same steps s none = checkouts_taken-push steps s ∙ rw none (append-nil (checkouts_taken steps))

-- checkouts: stock confirmed one
pub checkouts_taken-confirmed : (steps : List Step) (s : Step) (checkout : RequestId) (customer : ℕ) (lines : List PricedLine) → s.body ≡ body.StockConfirmed checkout customer lines
    → checkouts_taken (steps ++ s ∷ []) ≡ checkouts_taken steps ++ record { checkout = checkout; customer = customer; lines = lines } ∷ []
checkouts_taken-confirmed steps s checkout customer lines is = checkouts_taken-push steps s ∙ ap (λ b. checkouts_taken steps ++ filter_map reservation_in (b ∷ [])) is

-- an order is there, where it was or stock confirmed its checkout
pub has_order-same : (steps : List Step) (s : Step) (id : RequestId) → reservation_in s.body ≡ None → list_any (is_of id) (checkouts_taken (steps ++ s ∷ [])) ≡ list_any (is_of id) (checkouts_taken steps)
has_order-same steps s id none = ap (list_any (is_of id)) (checkouts_taken-same steps s none)

-- an order is there after its checkout was confirmed
pub has_order-confirmed : (steps : List Step) (s : Step) (checkout : RequestId) (customer : ℕ) (lines : List PricedLine) → s.body ≡ body.StockConfirmed checkout customer lines → (id : RequestId)
    → list_any (is_of id) (checkouts_taken (steps ++ s ∷ [])) ≡ (list_any (is_of id) (checkouts_taken steps) || same_id checkout id)
has_order-confirmed steps s checkout customer lines is id =
    ap (list_any (is_of id)) (checkouts_taken-confirmed steps s checkout customer lines is) ∙ list_any-push (is_of id) (checkouts_taken steps) (record { checkout = checkout; customer = customer; lines = lines })

-- total: a step whose body confirms no checkout
pub order_total-same : (steps : List Step) (s : Step) (id : RequestId) → reservation_in s.body ≡ None → order_total (steps ++ s ∷ []) id ≡ order_total steps id
order_total-same steps s id none = ap (λ rs. sum_by (λ (r : Reservation). if is_of id r then total_of r.lines else 0) rs) (checkouts_taken-same steps s none)

-- total: stock confirmed a checkout
pub order_total-confirmed : (steps : List Step) (s : Step) (checkout : RequestId) (customer : ℕ) (lines : List PricedLine) → s.body ≡ body.StockConfirmed checkout customer lines → (id : RequestId)
    → order_total (steps ++ s ∷ []) id ≡ order_total steps id + (if same_id checkout id then total_of lines else 0)
order_total-confirmed steps s checkout customer lines is id =
    ap (λ rs. sum_by (λ (r : Reservation). if is_of id r then total_of r.lines else 0) rs) (checkouts_taken-confirmed steps s checkout customer lines is)
    ∙ sum_by_push (λ (r : Reservation). if is_of id r then total_of r.lines else 0) (checkouts_taken steps) (record { checkout = checkout; customer = customer; lines = lines })

-- total: stock confirmed a checkout that had no order
pub order_total-new : (steps : List Step) (s : Step) (checkout : RequestId) (customer : ℕ) (lines : List PricedLine) → s.body ≡ body.StockConfirmed checkout customer lines → list_any (is_of checkout) (checkouts_taken steps) ≡ false
    → order_total (steps ++ s ∷ []) checkout ≡ total_of lines
order_total-new steps s checkout customer lines is new =
    order_total-confirmed steps s checkout customer lines is checkout
    ∙ rw (sum-none (λ (r : Reservation). total_of r.lines) checkout (checkouts_taken steps) new, same_id-self checkout) (omega arith)

-- items: those of the step's delivery are taken last
pub items_taken-push : (steps : List Step) (s : Step) → items_taken (steps ++ s ∷ []) ≡ items_taken steps ++ items_in s.body
items_taken-push steps s = ap (flat_map items_in) (taken_bodies-push steps s) ∙ flat_map-push items_in (taken_bodies steps) s.body

-- items: a step whose body is no delivery
pub items_taken-same : (steps : List Step) (s : Step) → items_in s.body ≡ [] → items_taken (steps ++ s ∷ []) ≡ items_taken steps
items_taken-same steps s none = items_taken-push steps s ∙ rw none (append-nil (items_taken steps))

-- the lines of the checkout
abbrev pub lines_of : List Reservation → RequestId → List PricedLine
lines_of rs id = flat_map (λ (r : Reservation). if is_of id r then r.lines else []) rs

-- open lines: a step whose body confirms no checkout and is no delivery
pub open_lines-same : (steps : List Step) (s : Step) (id : RequestId) → reservation_in s.body ≡ None → items_in s.body ≡ [] → open_lines (steps ++ s ∷ []) id ≡ open_lines steps id
open_lines-same steps s id none nothing = λ i. flat_map (lines_left (items_taken-same steps s nothing i) id) (checkouts_taken-same steps s none i)

-- open lines: stock confirmed a checkout
pub open_lines-confirmed : (steps : List Step) (s : Step) (checkout : RequestId) (customer : ℕ) (lines : List PricedLine) → s.body ≡ body.StockConfirmed checkout customer lines → (id : RequestId)
    → open_lines (steps ++ s ∷ []) id ≡ open_lines steps id ++ lines_left (items_taken steps) id (record { checkout = checkout; customer = customer; lines = lines })
open_lines-confirmed steps s checkout customer lines is id =
    (λ i. flat_map (lines_left (items_taken-same steps s (ap items_in is) i) id) (checkouts_taken-confirmed steps s checkout customer lines is i))
    ∙ flat_map-push (lines_left (items_taken steps) id) (checkouts_taken steps) (record { checkout = checkout; customer = customer; lines = lines })

-- open lines: stock confirmed another checkout
pub open_lines-other : (steps : List Step) (s : Step) (checkout : RequestId) (customer : ℕ) (lines : List PricedLine) → s.body ≡ body.StockConfirmed checkout customer lines → (id : RequestId) → same_id checkout id ≡ false → open_lines (steps ++ s ∷ []) id ≡ open_lines steps id
open_lines-other steps s checkout customer lines is id other = open_lines-confirmed steps s checkout customer lines is id ∙ rw other (append-nil (open_lines steps id))

-- where none of the items is of the checkout, an item of it is none of them
none-same : (x : Item) (items : List Item) → list_any (λ (i : Item). same_id i.checkout x.checkout) items ≡ false → list_any (same_item x) items ≡ false
none-same x [] none = refl
none-same x (i ∷ items) none =
    let both = or_parts (same_id i.checkout x.checkout) (list_any (λ (i : Item). same_id i.checkout x.checkout) items) none in
    rw both.0 (none-same x items both.1)

-- more items, none of them of the checkout, leave the same lines
left-more : (before items : List Item) (id : RequestId) → list_any (λ (i : Item). same_id i.checkout id) items ≡ false → (r : Reservation) → lines_left (before ++ items) id r ≡ lines_left before id r
left-more before items id none r = either (is_of id r) refl
  where
    line_same : same_id r.checkout id ≡ true → (line : PricedLine) → list_any (same_item (item_of r line)) (before ++ items) ≡ list_any (same_item (item_of r line)) before
    line_same same line =
        list_any-append (same_item (item_of r line)) before items
        ∙ ap (λ b. list_any (same_item (item_of r line)) before || b)
        (none-same (item_of r line) items (ap (λ id. list_any (λ (i : Item). same_id i.checkout id) items) (same_id-true r.checkout id same) ∙ none))
        ∙ or_false (list_any (same_item (item_of r line)) before)

    either : (b : Bool) → is_of id r ≡ b → (if b then filter (is_left (before ++ items) r) r.lines else []) ≡ (if b then filter (is_left before r) r.lines else [])
    either true same = ap (λ (test : PricedLine → Bool). filter (λ (line : PricedLine). not (test line)) r.lines) (λ i line. line_same same line i)
    either false other = refl

-- where no item is of the checkout, each line is open
left-all : (items : List Item) (id : RequestId) → list_any (λ (i : Item). same_id i.checkout id) items ≡ false → (r : Reservation) → lines_left items id r ≡ (if is_of id r then r.lines else [])
left-all items id none r = left-more [] items id none r ∙ ap (λ lines. if is_of id r then lines else []) (each r.lines)
  where
    each : (lines : List PricedLine) → filter (λ (line : PricedLine). true) lines ≡ lines
    each [] = refl
    each (line ∷ lines) = ap (λ ls. line ∷ ls) (each lines)

pub open_in-all : (items : List Item) (id : RequestId) → list_any (λ (i : Item). same_id i.checkout id) items ≡ false → (rs : List Reservation) → flat_map (lines_left items id) rs ≡ lines_of rs id
open_in-all items id none rs = ap (λ (f : Reservation → List PricedLine). flat_map f rs) (λ i r. left-all items id none r i)

-- open lines: stock confirmed a checkout that had no order and no delivery
pub open_lines-new : (steps : List Step) (s : Step) (checkout : RequestId) (customer : ℕ) (lines : List PricedLine) → s.body ≡ body.StockConfirmed checkout customer lines → list_any (is_of checkout) (checkouts_taken steps) ≡ false
    → list_any (λ (i : Item). same_id i.checkout checkout) (items_taken steps) ≡ false → open_lines (steps ++ s ∷ []) checkout ≡ lines
open_lines-new steps s checkout customer lines is new none =
    open_lines-confirmed steps s checkout customer lines is checkout
    ∙ (λ i. open_in-all (items_taken steps) checkout none (checkouts_taken steps) i ++ left-all (items_taken steps) checkout none (record { checkout = checkout; customer = customer; lines = lines }) i)
    ∙ rw (lines-none checkout (checkouts_taken steps) new, same_id-self checkout) refl

-- open lines: a delivery with no item of the checkout
pub open_lines-undelivered : (steps : List Step) (s : Step) (items : List Item) → s.body ≡ body.Delivered items → (id : RequestId) → list_any (λ (i : Item). same_id i.checkout id) items ≡ false → open_lines (steps ++ s ∷ []) id ≡ open_lines steps id
open_lines-undelivered steps s items is id none =
    (λ i. flat_map (lines_left ((items_taken-push steps s ∙ ap (λ b. items_taken steps ++ items_in b) is) i) id) (checkouts_taken-same steps s (ap reservation_in is) i))
    ∙ ap (λ (f : Reservation → List PricedLine). flat_map f (checkouts_taken steps)) (λ i r. left-more (items_taken steps) items id none r i)

-- the status of an order, by what was taken of it: the first that holds
abbrev pub status_by : Bool → Bool → Bool → Bool → Bool → Option OrderStatus
status_by has failed done shipped paid =
    if not has then None
    else if failed then Some status.Cancelled
    else if done then Some status.Delivered
    else if shipped then Some status.Shipped
    else if paid then Some status.Paid
    else Some status.Invoiced
