-- A delivery takes as many lines from the open ones of an order as it has items of its checkout and customer.
use Rattle.std.proofs.Common.{◌≡◌, ◌+◌, ◌≤◌, ◌==◌, Bool, true, false, cond, ◌&&◌, ◌||◌, not, List, [], ◌∷◌, ◌++◌, Some, length, filter, count_by, refl, ap, sym, subst, ◌∙◌, append-nil, append_assoc, eqb-true, eq-eqb, arith}
use Rattle.std.specs.List.{list_any, list_all, flat_map}
use Rattle.std.proofs.lemmas.List.Sums.{sum_by-cons, length-filter}
use Rattle.market_amounts.specs.declared.keys.ProductKey.{ProductKey}
use Rattle.market_amounts.specs.declared.keys.RequestId.{RequestId}
use Rattle.market_events.specs.declared.bodies.Body.TheVariants as body
use Rattle.market_events.specs.declared.bodies.Item.{Item}
use Rattle.market_events.specs.declared.bodies.PricedLine.{PricedLine}
use Rattle.market_events.specs.Orders.{checkouts_taken, is_of, items_in, items_taken, is_item_of, same_item, item_of, is_left, lines_left, open_lines, order_status}
use Rattle.market_events.specs.Requests.{same_id, same_key}
use Rattle.market_events.specs.Services.{IsRunOf, items_apart, is_line_of, order_fits, order_item_fits}
use Rattle.market_events.specs.Steps.{Step}
use Rattle.market_events.specs.Stocks.{Reservation, reservation_in}
use Rattle.market_events.specs.WellFormed.{keys_rise}
use Rattle.market_events.proofs.Values.Lists.{and_both, and_from, and_true, or_false, not_true, false_from, list_any-push, count-some}
use Rattle.market_events.proofs.Steps.Orders.{items_taken-push, checkouts_taken-same}
use Rattle.market_events.proofs.Runs.Orders.{OrderRun, OrderRun-of}
use Rattle.market_events.proofs.Steps.Reservations.{found-is, listed-found, found_with}
use Rattle.market_events.proofs.Values.Same.{same_id-true, same_key-true, same_key-swap}
use Rattle.market_events.proofs.Runs.OrderStatuses.{is_shipped_status, order_at, item-fits}
use Rattle.market_events.proofs.Runs.Stock.{lines_formed-rise}
use Rattle.market_events.proofs.Runs.Totals.{is_formed, orders_formed, found-passes, keyed_once}
use Rattle.order_service.specs.Tables.{is_own}
use Rattle.order_service.specs.Holds.{order_customer, customer_reserved}
use Rattle.market_events.specs.declared.roles.Role.{Role}

-- the lines of a product
abbrev with_key : ProductKey → List PricedLine → List PricedLine
with_key key lines = filter (λ (line : PricedLine). same_key line.key key) lines

-- one more line, which stays open, or was not, or is the item's
lengths : (l : PricedLine) (b k : Bool) (now was keyed : List PricedLine) → (k ≡ true → b ≡ false) → length now + length keyed ≡ length was
    → length (cond (not (b || k)) (l ∷ now) now) + length (cond k (l ∷ keyed) keyed) ≡ length (cond (not b) (l ∷ was) was)
lengths l true true now was keyed apart rest = cc (apart refl)
lengths l true false now was keyed apart rest = rest
lengths l false true now was keyed apart rest = omega (arith, rest)
lengths l false false now was keyed apart rest = omega (arith, rest)

-- an item of a line of the checkout is its order's
own-from : (r : Reservation) (l : PricedLine) (i : Item) → same_item (item_of r l) i ≡ true → is_own r.checkout r.customer i ≡ true
own-from r l i same =
    let both = and_both (is_item_of r.checkout l.key i) (i.customer == r.customer) same in
    and_from (same_id i.checkout r.checkout) (r.customer == i.customer) (and_both (same_id i.checkout r.checkout) (same_key i.key l.key) both.0).0
    (eq-eqb r.customer i.customer (sym (eqb-true i.customer r.customer both.1)))

-- an item of the order, of a product that was not delivered before, takes the lines of its product
one_item : (before : List Item) (i : Item) (r : Reservation) (lines : List PricedLine) → list_any (same_item i) before ≡ false → is_own r.checkout r.customer i ≡ true
    → length (filter (is_left (before ++ i ∷ []) r) lines) + length (with_key i.key lines) ≡ length (filter (is_left before r) lines)
one_item before i r [] new own = omega arith
one_item before i r (l ∷ lines) new own =
    rw push (lengths l (list_any (same_item (item_of r l)) before) (same_key l.key i.key) (filter (is_left (before ++ i ∷ []) r) lines) (filter (is_left before r) lines) (with_key i.key lines) apart (one_item before i r lines new own))
  where
    of : (same_id i.checkout r.checkout ≡ true) × ((r.customer == i.customer) ≡ true)
    of = and_both (same_id i.checkout r.checkout) (r.customer == i.customer) own

    item : same_item (item_of r l) i ≡ same_key l.key i.key
    item =
        (λ j. (of.0 j && same_key i.key l.key) && eq-eqb i.customer r.customer (sym (eqb-true r.customer i.customer of.1)) j)
        ∙ and_true (same_key i.key l.key) ∙ same_key-swap i.key l.key

    push : list_any (same_item (item_of r l)) (before ++ i ∷ []) ≡ (list_any (same_item (item_of r l)) before || same_key l.key i.key)
    push = list_any-push (same_item (item_of r l)) before i ∙ ap (λ b. list_any (same_item (item_of r l)) before || b) item

    apart : same_key l.key i.key ≡ true → list_any (same_item (item_of r l)) before ≡ false
    apart same =
        let id = sym (same_id-true i.checkout r.checkout of.0) in
        let who = eqb-true r.customer i.customer of.1 in
        let key = same_key-true l.key i.key same in
        (λ j. list_any (same_item (record { checkout = id j; customer = who j; key = key j })) before) ∙ new

-- an item of another checkout or customer takes none
other_item : (before : List Item) (i : Item) (r : Reservation) (lines : List PricedLine) → is_own r.checkout r.customer i ≡ false
    → filter (is_left (before ++ i ∷ []) r) lines ≡ filter (is_left before r) lines
other_item before i r lines other = ap (λ (test : PricedLine → Bool). filter (λ (line : PricedLine). not (test line)) lines) (λ j line. same line j)
  where
    same : (line : PricedLine) → list_any (same_item (item_of r line)) (before ++ i ∷ []) ≡ list_any (same_item (item_of r line)) before
    same line =
        list_any-push (same_item (item_of r line)) before i
        ∙ ap (λ b. list_any (same_item (item_of r line)) before || b) (false_from (same_item (item_of r line) i) (λ is. sym other ∙ own-from r line i is))
        ∙ or_false (list_any (same_item (item_of r line)) before)

-- an item is of another checkout or customer, or of a product of these lines
abbrev is_among_lines : Reservation → List PricedLine → Item → Bool
is_among_lines r lines i = not (is_own r.checkout r.customer i) || is_line_of lines i

-- items that are apart, each of a line
all_items : (r : Reservation) (lines : List PricedLine) → keys_rise lines ≡ true → (before items : List Item) → items_apart before items ≡ true → list_all (is_among_lines r lines) items ≡ true
    → length (filter (is_left (before ++ items) r) lines) + count_by (is_own r.checkout r.customer) items ≡ length (filter (is_left before r) lines)
all_items r lines rise before [] apart each = rw (append-nil before) (omega arith)
all_items r lines rise before (i ∷ more) apart each =
    let parts = and_both (not (list_any (same_item i) before)) (items_apart (before ++ i ∷ []) more) apart in
    let ones = and_both (is_among_lines r lines i) (list_all (is_among_lines r lines) more) each in
    let rest = all_items r lines rise (before ++ i ∷ []) more parts.1 ones.1 in
    let moved : length (filter (is_left (before ++ i ∷ more) r) lines) + count_by (is_own r.checkout r.customer) more ≡ length (filter (is_left (before ++ i ∷ []) r) lines)
    = subst (λ all. length (filter (is_left all r) lines) + count_by (is_own r.checkout r.customer) more ≡ length (filter (is_left (before ++ i ∷ []) r) lines)) (append_assoc before (i ∷ []) more) rest in
    either (is_own r.checkout r.customer i) refl (not_true (list_any (same_item i) before) parts.0) ones.0 moved
  where
    counted : count_by (is_own r.checkout r.customer) (i ∷ more) ≡ cond (is_own r.checkout r.customer i) 1 0 + count_by (is_own r.checkout r.customer) more
    counted = sum_by-cons (λ (x : Item). cond (is_own r.checkout r.customer x) 1 0) i more

    either : (b : Bool) → is_own r.checkout r.customer i ≡ b → list_any (same_item i) before ≡ false → (not (is_own r.checkout r.customer i) || is_line_of lines i) ≡ true
        → length (filter (is_left (before ++ i ∷ more) r) lines) + count_by (is_own r.checkout r.customer) more ≡ length (filter (is_left (before ++ i ∷ []) r) lines)
        → length (filter (is_left (before ++ i ∷ more) r) lines) + count_by (is_own r.checkout r.customer) (i ∷ more) ≡ length (filter (is_left before r) lines)
    either true own new line moved =
        let has : is_line_of lines i ≡ true = sym (ap (λ b. not b || is_line_of lines i) own) ∙ line in
        let some : 1 ≤ count_by (λ (l : PricedLine). same_key l.key i.key) lines = count-some (λ (l : PricedLine). same_key l.key i.key) lines has in
        let once : length (with_key i.key lines) ≤ 1 = keyed_once i.key lines rise in
        let is : count_by (is_own r.checkout r.customer) (i ∷ more) ≡ 1 + count_by (is_own r.checkout r.customer) more = counted ∙ ap (λ b. cond b 1 0 + count_by (is_own r.checkout r.customer) more) own in
        omega (arith, moved, is, one_item before i r lines new own, once, some, length-filter (λ (l : PricedLine). same_key l.key i.key) lines)
    either false other new line moved =
        let is : count_by (is_own r.checkout r.customer) (i ∷ more) ≡ 0 + count_by (is_own r.checkout r.customer) more = counted ∙ ap (λ b. cond b 1 0 + count_by (is_own r.checkout r.customer) more) other in
        omega (arith, moved, is, ap length (other_item before i r lines other))

-- an item that fits, of an order, is of a line of it
item_line : (steps : List Step) → OrderRun steps → (id : RequestId) (r : Reservation) → order_at steps id ≡ Some r → (i : Item) → order_item_fits steps i ≡ true → is_among_lines r r.lines i ≡ true
item_line steps run id r found i fit = either (is_own r.checkout r.customer i) refl
  where
    has : found_with (order_at steps i.checkout) (λ r. is_line_of r.lines i) ≡ true
    has = (and_both (is_shipped_status (order_status steps i.checkout)) (found_with (order_at steps i.checkout) (λ r. is_line_of r.lines i)) (sym (item-fits steps i run) ∙ fit)).1

    either : (b : Bool) → is_own r.checkout r.customer i ≡ b → (not b || is_line_of r.lines i) ≡ true
    either true own =
        let of = (and_both (same_id i.checkout r.checkout) (r.customer == i.customer) own).0 in
        let here : order_at steps i.checkout ≡ Some r = ap (order_at steps) (same_id-true i.checkout r.checkout of ∙ found-is id (checkouts_taken steps) r found) ∙ found in
        sym (ap (λ o. found_with o (λ r. is_line_of r.lines i)) here) ∙ has
    either false other = refl

-- what holds of each of the items
weaker : (p q : Item → Bool) → ((i : Item) → p i ≡ true → q i ≡ true) → (items : List Item) → list_all p items ≡ true → list_all q items ≡ true
weaker p q from [] all = refl
weaker p q from (i ∷ items) all =
    let both = and_both (p i) (list_all p items) all in
    rw (from i both.0) (weaker p q from items both.1)

-- the lines of an order rise
lines_rise : (steps : List Step) → IsRunOf Role.Order steps → (id : RequestId) (r : Reservation) → order_at steps id ≡ Some r → keys_rise r.lines ≡ true
lines_rise steps run id r found = lines_formed-rise r.lines (found-passes is_formed (is_of id) (checkouts_taken steps) r (orders_formed steps run) found)

-- what a delivery leaves open
pub open_lines-left : (steps : List Step) (s : Step) (items : List Item) → IsRunOf Role.Order steps → s.body ≡ body.Delivered items → order_fits steps (body.Delivered items) ≡ true → (id : RequestId) (r : Reservation) → order_at steps id ≡ Some r
    → length (open_lines (steps ++ s ∷ []) id) + count_by (is_own id (order_customer steps id)) items ≡ length (open_lines steps id)
open_lines-left steps s items run is fit id r found =
    let both = and_both (items_apart (items_taken steps) items) (list_all (order_item_fits steps) items) fit in
    let once = (OrderRun-of steps run).once id in
    let was : open_lines steps id ≡ filter (is_left (items_taken steps) r) r.lines
    = listed-found (λ (r : Reservation). filter (is_left (items_taken steps) r) r.lines) id (checkouts_taken steps) r once found in
    let left : open_lines (steps ++ s ∷ []) id ≡ filter (is_left (items_taken steps ++ items) r) r.lines
    = (λ i. flat_map (lines_left ((items_taken-push steps s ∙ ap (λ b. items_taken steps ++ items_in b) is) i) id) (checkouts_taken-same steps s (ap reservation_in is) i))
    ∙ listed-found (λ (r : Reservation). filter (is_left (items_taken steps ++ items) r) r.lines) id (checkouts_taken steps) r once found in
    (λ i. length (left i) + count_by (is_own (sym (found-is id (checkouts_taken steps) r found) i) (ap customer_reserved found i)) items)
    ∙ all_items r r.lines (lines_rise steps run id r found) (items_taken steps) items both.0
    (weaker (order_item_fits steps) (is_among_lines r r.lines) (item_line steps (OrderRun-of steps run) id r found) items both.1)
    ∙ ap length (sym was)
