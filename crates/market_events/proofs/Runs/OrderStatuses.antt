-- The status of an order after a run: what it says of what was taken, and what one more step makes of it.
use Rattle.std.proofs.Common.{◌≡◌, ℕ, Bool, true, false, ◌&&◌, List, [], ◌∷◌, ◌++◌, Option, Some, None, is_some, if◌then◌else◌, refl, ap, sym, ◌∙◌, find}
use Rattle.std.specs.List.{list_any}
use Rattle.market_amounts.specs.declared.keys.RequestId.{RequestId}
use Rattle.market_events.specs.declared.bodies.Body.TheVariants as body
use Rattle.market_events.specs.declared.bodies.Item.{Item}
use Rattle.market_events.specs.declared.bodies.PayRule.{PayRule}
use Rattle.market_events.specs.declared.bodies.PricedLine.{PricedLine}
use Rattle.market_events.specs.declared.replies.OrderStatus.{OrderStatus}
use Rattle.market_events.specs.declared.replies.OrderStatus.TheVariants as status
use Rattle.market_events.specs.Orders.{checkouts_taken, is_of, items_in, items_taken, open_lines, ships, is_taken, is_nil, order_status}
use Rattle.market_events.specs.Requests.{same_id}
use Rattle.market_events.specs.Services.{order_fits, is_for, is_for_lines, order_item_fits, is_line_of}
use Rattle.market_events.specs.Steps.{Step}
use Rattle.market_events.specs.Stocks.{reservation_in, confirms, fails, is_settled, Reservation}
use Rattle.market_events.proofs.Steps.Orders.{has_order-same, has_order-confirmed, lines_of, open_lines-same, open_lines-other, open_lines-new, open_lines-undelivered, open_in-all, status_by, checkouts_taken-same, checkouts_taken-confirmed}
use Rattle.market_events.proofs.Runs.Orders.{OrderRun, is_item_for}
use Rattle.market_events.proofs.Steps.Reservations.{for-of, for_lines-of, found-push, found_with, any-found}
use Rattle.market_events.proofs.Values.Same.{same_id-self}
use Rattle.market_events.proofs.Steps.Taken.{is_taken-push, is_taken-same, is_settled-is}
use Rattle.market_events.proofs.Values.Lists.{or_false, or_true, or_parts, not_true, and_not, false_from, true_from, any_weaker}

-- a status of a checkout that was shipped
abbrev pub is_shipped_status : Option OrderStatus → Bool
is_shipped_status (Some status.Shipped) = true
is_shipped_status (Some status.Delivered) = true
is_shipped_status other = false

-- a checkout was shipped, where the status says so
shipped_by : (has failed done shipped paid : Bool) → (has ≡ false → paid ≡ false) → (failed ≡ true → paid ≡ false) → (shipped ≡ true → paid ≡ true) → (has ≡ true → done ≡ true → shipped ≡ true) → shipped ≡ is_shipped_status (status_by has failed done shipped paid)
shipped_by true true done true paid unpaid apart first delivered = cc (apart refl, first refl)
shipped_by true true done false paid unpaid apart first delivered = refl
shipped_by true false true shipped paid unpaid apart first delivered = delivered refl refl
shipped_by true false false true paid unpaid apart first delivered = refl
shipped_by true false false false true unpaid apart first delivered = refl
shipped_by true false false false false unpaid apart first delivered = refl
shipped_by false failed done true paid unpaid apart first delivered = cc (unpaid refl, first refl)
shipped_by false failed done false paid unpaid apart first delivered = refl

-- where a checkout is not shipped, all its lines are open
pub open_lines-unshipped : (steps : List Step) (id : RequestId) → OrderRun steps → is_taken ships steps id ≡ false → open_lines steps id ≡ lines_of (checkouts_taken steps) id
open_lines-unshipped steps id run unshipped = open_in-all (items_taken steps) id (none (list_any (is_item_for id) (items_taken steps)) refl) (checkouts_taken steps)
  where
    none : (b : Bool) → list_any (is_item_for id) (items_taken steps) ≡ b → list_any (is_item_for id) (items_taken steps) ≡ false
    none true any = cc ((run.at id).shipped_first any)
    none false any = any

-- an order with no open line was shipped
pub done-shipped : (steps : List Step) (id : RequestId) → OrderRun steps → list_any (is_of id) (checkouts_taken steps) ≡ true → is_nil (open_lines steps id) ≡ true → is_taken ships steps id ≡ true
done-shipped steps id run has done = either (is_taken ships steps id) refl
  where
    either : (b : Bool) → is_taken ships steps id ≡ b → is_taken ships steps id ≡ true
    either true shipped = shipped
    either false unshipped = cc (ap is_nil (open_lines-unshipped steps id run unshipped), (run.at id).some has)

-- an order is there, where it has a status
pub has_order-by_status : (steps : List Step) (id : RequestId) → list_any (is_of id) (checkouts_taken steps) ≡ is_some (order_status steps id)
has_order-by_status steps id = either (list_any (is_of id) (checkouts_taken steps)) (is_taken fails steps id) (is_nil (open_lines steps id)) (is_taken ships steps id) (is_taken confirms steps id)
  where
    either : (has failed done shipped paid : Bool) → has ≡ is_some (status_by has failed done shipped paid)
    either false failed done shipped paid = refl
    either true true done shipped paid = refl
    either true false true shipped paid = refl
    either true false false true paid = refl
    either true false false false true = refl
    either true false false false false = refl

-- a checkout was shipped, where its status says so
pub is_shipped-by_status : (steps : List Step) (id : RequestId) → OrderRun steps → is_taken ships steps id ≡ is_shipped_status (order_status steps id)
is_shipped-by_status steps id run = shipped_by (list_any (is_of id) (checkouts_taken steps)) (is_taken fails steps id) (is_nil (open_lines steps id)) (is_taken ships steps id) (is_taken confirms steps id) (run.at id).unpaid (run.at id).apart (run.at id).paid_first (done-shipped steps id run)

-- status: a step that takes nothing of the checkout
pub order_status-same : (steps : List Step) (s : Step) (id : RequestId) → reservation_in s.body ≡ None → items_in s.body ≡ [] → fails id s.body ≡ false → confirms id s.body ≡ false → ships id s.body ≡ false → order_status (steps ++ s ∷ []) id ≡ order_status steps id
order_status-same steps s id none nothing unfailing unconfirming unshipping = same (has_order-same steps s id none) (is_taken-same fails steps s id unfailing) (ap is_nil (open_lines-same steps s id none nothing)) (is_taken-same ships steps s id unshipping) (is_taken-same confirms steps s id unconfirming)
  where
    same : {has failed done shipped paid has' failed' done' shipped' paid' : Bool} → has ≡ has' → failed ≡ failed' → done ≡ done' → shipped ≡ shipped' → paid ≡ paid' → status_by has failed done shipped paid ≡ status_by has' failed' done' shipped' paid'
    same a b c d e = λ i. status_by (a i) (b i) (c i) (d i) (e i)

-- the status by each fact
by_facts : {has failed done shipped paid has' failed' done' shipped' paid' : Bool} → has ≡ has' → failed ≡ failed' → done ≡ done' → shipped ≡ shipped' → paid ≡ paid' → status_by has failed done shipped paid ≡ status_by has' failed' done' shipped' paid'
by_facts a b c d e = λ i. status_by (a i) (b i) (c i) (d i) (e i)

-- status: stock confirmed another checkout
pub order_status-other : (steps : List Step) (s : Step) (checkout : RequestId) (customer : ℕ) (lines : List PricedLine) → s.body ≡ body.StockConfirmed checkout customer lines → (id : RequestId) → same_id checkout id ≡ false → order_status (steps ++ s ∷ []) id ≡ order_status steps id
order_status-other steps s checkout customer lines is id other =
    by_facts (has_order-confirmed steps s checkout customer lines is id ∙ rw other (or_false (list_any (is_of id) (checkouts_taken steps))))
    (is_taken-same fails steps s id (ap (fails id) is)) (ap is_nil (open_lines-other steps s checkout customer lines is id other)) (is_taken-same ships steps s id (ap (ships id) is)) (is_taken-same confirms steps s id (ap (confirms id) is))

-- status: stock confirmed the checkout, which becomes invoiced
pub order_status-invoiced : (steps : List Step) (s : Step) (checkout : RequestId) (customer : ℕ) (lines : List PricedLine) → OrderRun steps → s.body ≡ body.StockConfirmed checkout customer lines → order_fits steps (body.StockConfirmed checkout customer lines) ≡ true → is_nil lines ≡ false
    → order_status (steps ++ s ∷ []) checkout ≡ Some status.Invoiced
order_status-invoiced steps s checkout customer lines run is fit some =
    let new = not_true (list_any (is_of checkout) (checkouts_taken steps)) fit in
    let unpaid = (run.at checkout).unpaid new in
    let unshipped = false_from (is_taken ships steps checkout) (λ shipped. sym unpaid ∙ (run.at checkout).paid_first shipped) in
    let undelivered = false_from (list_any (is_item_for checkout) (items_taken steps)) (λ delivered. sym unshipped ∙ (run.at checkout).shipped_first delivered) in
    by_facts (has_order-confirmed steps s checkout customer lines is checkout ∙ or_true (list_any (is_of checkout) (checkouts_taken steps)) (same_id checkout checkout) (same_id-self checkout))
    (is_taken-same fails steps s checkout (ap (fails checkout) is) ∙ (run.at checkout).unfailed new)
    (ap is_nil (open_lines-new steps s checkout customer lines is new undelivered) ∙ some)
    (is_taken-same ships steps s checkout (ap (ships checkout) is) ∙ unshipped)
    (is_taken-same confirms steps s checkout (ap (confirms checkout) is) ∙ unpaid)

-- status: the checkout's payment was taken, which becomes paid
pub order_status-paid : (steps : List Step) (s : Step) (checkout : RequestId) (customer : ℕ) (lines : List PricedLine) (total : ℕ) → OrderRun steps → s.body ≡ body.Confirmed checkout customer lines total → order_fits steps (body.Confirmed checkout customer lines total) ≡ true
    → order_status (steps ++ s ∷ []) checkout ≡ Some status.Paid
order_status-paid steps s checkout customer lines total run is fit =
    let both = and_not (list_any (is_for_lines checkout customer lines) (checkouts_taken steps)) (is_settled steps checkout) fit in
    let has = any_weaker (is_for_lines checkout customer lines) (is_of checkout) (for_lines-of checkout customer lines) (checkouts_taken steps) both.0 in
    let unsettled = or_parts (is_taken fails steps checkout) (is_taken confirms steps checkout) (sym (is_settled-is steps checkout) ∙ both.1) in
    let unshipped = false_from (is_taken ships steps checkout) (λ shipped. sym unsettled.1 ∙ (run.at checkout).paid_first shipped) in
    by_facts (has_order-same steps s checkout (ap reservation_in is) ∙ has)
    (is_taken-same fails steps s checkout (ap (fails checkout) is) ∙ unsettled.0)
    (ap is_nil (open_lines-same steps s checkout (ap reservation_in is) (ap items_in is)) ∙ false_from (is_nil (open_lines steps checkout)) (λ done. sym unshipped ∙ done-shipped steps checkout run has done))
    (is_taken-same ships steps s checkout (ap (ships checkout) is) ∙ unshipped)
    (is_taken-push confirms steps s checkout ∙ or_true (is_taken confirms steps checkout) (confirms checkout s.body) (ap (confirms checkout) is ∙ same_id-self checkout))

-- status: there is no payment of the checkout, which becomes cancelled
pub order_status-cancelled : (steps : List Step) (s : Step) (checkout : RequestId) (customer : ℕ) (reason : PayRule) → s.body ≡ body.Failed checkout customer reason → order_fits steps (body.Failed checkout customer reason) ≡ true
    → order_status (steps ++ s ∷ []) checkout ≡ Some status.Cancelled
order_status-cancelled steps s checkout customer reason is fit =
    let both = and_not (list_any (is_for checkout customer) (checkouts_taken steps)) (is_settled steps checkout) fit in
    let has = any_weaker (is_for checkout customer) (is_of checkout) (for-of checkout customer) (checkouts_taken steps) both.0 in
    by_facts (has_order-same steps s checkout (ap reservation_in is) ∙ has)
    (is_taken-push fails steps s checkout ∙ or_true (is_taken fails steps checkout) (fails checkout s.body) (ap (fails checkout) is ∙ same_id-self checkout))
    refl refl refl

-- status: the checkout was shipped
pub order_status-shipped : (steps : List Step) (s : Step) (checkout : RequestId) → OrderRun steps → s.body ≡ body.Shipped checkout → order_fits steps (body.Shipped checkout) ≡ true → order_status (steps ++ s ∷ []) checkout ≡ Some status.Shipped
order_status-shipped steps s checkout run is fit =
    let both = and_not (is_taken confirms steps checkout) (is_taken ships steps checkout) fit in
    let unfailed = false_from (is_taken fails steps checkout) (λ failed. sym ((run.at checkout).apart failed) ∙ both.0) in
    let has = true_from (list_any (is_of checkout) (checkouts_taken steps)) (λ new. sym ((run.at checkout).unpaid new) ∙ both.0) in
    by_facts (has_order-same steps s checkout (ap reservation_in is) ∙ has)
    (is_taken-same fails steps s checkout (ap (fails checkout) is) ∙ unfailed)
    (ap is_nil (open_lines-same steps s checkout (ap reservation_in is) (ap items_in is)) ∙ false_from (is_nil (open_lines steps checkout)) (λ done. sym both.1 ∙ done-shipped steps checkout run has done))
    (is_taken-push ships steps s checkout ∙ or_true (is_taken ships steps checkout) (ships checkout s.body) (ap (ships checkout) is ∙ same_id-self checkout))
    refl

-- status: a delivery of a checkout that was shipped, which becomes delivered where no line of it is open
pub order_status-delivered : (steps : List Step) (s : Step) (items : List Item) (id : RequestId) → OrderRun steps → s.body ≡ body.Delivered items → is_taken ships steps id ≡ true
    → order_status (steps ++ s ∷ []) id ≡ (if is_nil (open_lines (steps ++ s ∷ []) id) then Some status.Delivered else Some status.Shipped)
order_status-delivered steps s items id run is shipped =
    let paid = (run.at id).paid_first shipped in
    let unfailed = false_from (is_taken fails steps id) (λ failed. sym ((run.at id).apart failed) ∙ paid) in
    let has = true_from (list_any (is_of id) (checkouts_taken steps)) (λ new. sym ((run.at id).unpaid new) ∙ paid) in
    by_facts (has_order-same steps s id (ap reservation_in is) ∙ has) (is_taken-same fails steps s id (ap (fails id) is) ∙ unfailed) refl (is_taken-same ships steps s id (ap (ships id) is) ∙ shipped) refl

-- status: a delivery with no item of the checkout
pub order_status-undelivered : (steps : List Step) (s : Step) (items : List Item) (id : RequestId) → s.body ≡ body.Delivered items → list_any (is_item_for id) items ≡ false → order_status (steps ++ s ∷ []) id ≡ order_status steps id
order_status-undelivered steps s items id is none =
    by_facts (has_order-same steps s id (ap reservation_in is)) (is_taken-same fails steps s id (ap (fails id) is)) (ap is_nil (open_lines-undelivered steps s items is id none)) (is_taken-same ships steps s id (ap (ships id) is)) (is_taken-same confirms steps s id (ap (confirms id) is))

-- the order of a checkout
abbrev pub order_at : List Step → RequestId → Option Reservation
order_at steps id = find (is_of id) (checkouts_taken steps)

-- order: a step whose body confirms no checkout
pub order_at-same : (steps : List Step) (s : Step) (id : RequestId) → reservation_in s.body ≡ None → order_at (steps ++ s ∷ []) id ≡ order_at steps id
order_at-same steps s id none = ap (find (is_of id)) (checkouts_taken-same steps s none)

-- order: stock confirmed a checkout that had none
pub order_at-confirmed : (steps : List Step) (s : Step) (checkout : RequestId) (customer : ℕ) (lines : List PricedLine) → s.body ≡ body.StockConfirmed checkout customer lines → list_any (is_of checkout) (checkouts_taken steps) ≡ false
    → (id : RequestId) → order_at (steps ++ s ∷ []) id ≡ (if same_id checkout id then Some (record { checkout = checkout; customer = customer; lines = lines }) else order_at steps id)
order_at-confirmed steps s checkout customer lines is new id =
    ap (find (is_of id)) (checkouts_taken-confirmed steps s checkout customer lines is) ∙ found-push (checkouts_taken steps) (record { checkout = checkout; customer = customer; lines = lines }) new id

-- an item fits, where its order was shipped and has its line
pub item-fits : (steps : List Step) (item : Item) → OrderRun steps → order_item_fits steps item ≡ (is_shipped_status (order_status steps item.checkout) && found_with (order_at steps item.checkout) (λ r. is_line_of r.lines item))
item-fits steps item run =
    λ i. is_shipped-by_status steps item.checkout run i && any-found item.checkout (λ r. is_line_of r.lines item) (checkouts_taken steps) (run.once item.checkout) i
