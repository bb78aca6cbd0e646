-- Bounds on the totals of well-formed lines and on the points of sellers, after a run.
use Rattle.std.proofs.Common.{◌≡◌, ℕ, ◌*◌, ◌≤◌, Bool, true, false, cond, ◌&&◌, ◌==◌, List, [], ◌∷◌, ◌++◌, Option, Some, None, length, map, filter, filter_map, find, nat_le, refl, ap, sym, subst, arith, length-append, leb-true, mul-le-mul}
use Rattle.std.specs.List.{list_all, flat_map}
use Rattle.std.proofs.lemmas.List.{length-map}
use Rattle.std.proofs.lemmas.List.Folds.{list_all-append}
use Rattle.std.proofs.lemmas.List.Sums.{length-filter, count_by-le-length}
use Rattle.market_amounts.specs.Amounts.{amount_of}
use Rattle.market_amounts.specs.declared.keys.ProductKey.{ProductKey}
use Rattle.market_amounts.specs.declared.keys.RequestId.{RequestId}
use Rattle.market_events.specs.declared.bodies.Body.{Body}
use Rattle.market_events.specs.declared.bodies.Body.TheVariants as body
use Rattle.market_events.specs.declared.bodies.Item.{Item}
use Rattle.market_events.specs.declared.bodies.PricedLine.{PricedLine}
use Rattle.market_events.specs.declared.replies.OrderStatus.{OrderStatus}
use Rattle.market_events.specs.declared.replies.OrderStatus.TheVariants as status
use Rattle.market_events.specs.Formed.{cents_formed, quantity_formed, key_formed, line_formed, lines_formed, checkout_formed, body_formed}
use Rattle.market_events.specs.Orders.{checkouts_taken, is_of, order_total}
use Rattle.market_events.specs.Requests.{same_key}
use Rattle.market_events.specs.Sellers.{SellerChange, invoice_lines, marked, lines_with_keys, item_delivered, changes_by, seller_changes}
use Rattle.market_events.specs.Services.{Role, Follows, IsRunOf}
use Rattle.market_events.specs.Steps.{Step, taken_bodies}
use Rattle.market_events.specs.Stocks.{Reservation, reservation_in}
use Rattle.market_events.specs.WellFormed.{cents_max, quantity_max, total_max, most_lines, most_items, key_below, keys_rise, total_of}
use Rattle.market_events.proofs.Runs.Bounds.{lines_formed-most, items_formed-most}
use Rattle.market_events.proofs.Values.Lists.{and_both}
use Rattle.market_events.proofs.Steps.Orders.{checkouts_taken-push, lines_of}
use Rattle.market_events.proofs.Runs.Orders.{OrderRun-of}
use Rattle.market_events.proofs.Steps.Reservations.{none-found, IsOnce, sum-none, sum-found, lines-none, lines-found}
use Rattle.market_events.proofs.Values.Same.{same_key-true}
use Rattle.market_events.proofs.Steps.SellerChanges.{seller_changes-push, lines_of_seller}
use Rattle.market_events.proofs.Steps.SellerEntries.{invoice_in, invoices_taken, invoice_lines-is}
use Rattle.market_events.proofs.Runs.Sellers.{invoices_taken-push, AreOnce, AreOnce-keeps}
use Rattle.market_events.proofs.Steps.Taken.{fits-parts, run_has}
use Rattle.market_events.proofs.Runs.Stock.{key_below-apart, key_below-trans, keys_rise-tail, checkout_formed-lines, lines_formed-rise}

-- what a line costs at most
abbrev pub line_max : ℕ
line_max = 1_001_000_000_000

-- a well-formed line costs no more
pub line_formed-cost : (line : PricedLine) → line_formed line ≡ true → amount_of line.price line.quantity line.freight line.voucher ≤ line_max
line_formed-cost line formed =
    let a = and_both (key_formed line.key && quantity_formed line.quantity && cents_formed line.price && cents_formed line.freight) (cents_formed line.voucher) formed in
    let b = and_both (key_formed line.key && quantity_formed line.quantity && cents_formed line.price) (cents_formed line.freight) a.0 in
    let c = and_both (key_formed line.key && quantity_formed line.quantity) (cents_formed line.price) b.0 in
    let d = and_both (key_formed line.key) (quantity_formed line.quantity) c.0 in
    let e = and_both (nat_le 1 line.quantity) (nat_le line.quantity quantity_max) d.1 in
    cost line.price line.quantity line.freight line.voucher (leb-true line.price cents_max c.1) (leb-true line.quantity quantity_max e.1) (leb-true line.freight cents_max b.1)
  where
    cost : (p q f v : ℕ) → p ≤ cents_max → q ≤ quantity_max → f ≤ cents_max → amount_of p q f v ≤ line_max
    cost p q f v price quantity freight = omega (arith, mul-le-mul price quantity, freight)

-- lines that are all well formed cost no more than so much each
lines-cost : (lines : List PricedLine) → list_all line_formed lines ≡ true → total_of lines ≤ line_max * length lines
lines-cost [] all = omega arith
lines-cost (line ∷ lines) all =
    let both = and_both (line_formed line) (list_all line_formed lines) all in
    omega (arith, line_formed-cost line both.0, lines-cost lines both.1)

-- the total of well-formed lines
pub lines_formed-total : (lines : List PricedLine) → lines_formed lines ≡ true → total_of lines ≤ total_max
lines_formed-total lines formed =
    let a = and_both (nat_le 1 (length lines) && nat_le (length lines) most_lines && list_all line_formed lines) (keys_rise lines) formed in
    let b = and_both (nat_le 1 (length lines) && nat_le (length lines) most_lines) (list_all line_formed lines) a.0 in
    omega (arith, lines-cost lines b.1, lines_formed-most lines formed)

-- of elements that all pass, the one that is found does
pub found-passes : {A : Type 0} (test find_test : A → Bool) (xs : List A) (x : A) → list_all test xs ≡ true → find find_test xs ≡ Some x → test x ≡ true
found-passes test find_test [] x all found = cc
found-passes test find_test (y ∷ ys) x all found =
    let both = and_both (test y) (list_all test ys) all in
    either (find_test y) found both.0 (λ more. found-passes test find_test ys x both.1 more)
  where
    one : Some y ≡ Some x → y ≡ x
    one e = cc

    either : (b : Bool) → cond b (Some y) (find find_test ys) ≡ Some x → test y ≡ true → (find find_test ys ≡ Some x → test x ≡ true) → test x ≡ true
    either true found passes rest = subst (λ z. test z ≡ true) (one found) passes
    either false found passes rest = rest found

-- the lines are well formed
abbrev pub is_formed : Reservation → Bool
is_formed r = lines_formed r.lines

-- the lines of orders are well formed, after a run
pub orders_formed : (steps : List Step) → IsRunOf Role.Order steps → list_all is_formed (checkouts_taken steps) ≡ true
orders_formed steps run = run_has Role.Order (λ steps. list_all is_formed (checkouts_taken steps) ≡ true) keeps refl steps run
  where
    one : (b : Body) → body_formed b ≡ true → list_all is_formed (filter_map reservation_in (b ∷ [])) ≡ true
    one (body.StockConfirmed checkout customer lines) formed = rw (checkout_formed-lines checkout customer lines formed)
    one (body.Changed key version change) formed = refl
    one (body.Reserve checkout customer lines) formed = refl
    one (body.ReserveFailed checkout key reason) formed = refl
    one (body.Invoice checkout customer lines total) formed = refl
    one (body.Confirmed checkout customer lines total) formed = refl
    one (body.Ended checkout ending) formed = refl
    one (body.Failed checkout customer reason) formed = refl
    one (body.Shipped checkout) formed = refl
    one (body.Delivered items) formed = refl
    one (body.Asked request) formed = refl
    one (body.Told id reply) formed = refl

    keeps : (steps : List Step) (s : Step) → Follows Role.Order steps s → list_all is_formed (checkouts_taken steps) ≡ true → list_all is_formed (checkouts_taken (steps ++ s ∷ [])) ≡ true
    keeps steps s follows all =
        rw (checkouts_taken-push steps s, list_all-append is_formed (checkouts_taken steps) (filter_map reservation_in (s.body ∷ [])), all) (one s.body (fits-parts Role.Order steps s.from s.body follows.fit).formed)

-- after a run of orders, a total is one that there may be
pub order_total-le : (steps : List Step) → IsRunOf Role.Order steps → (id : RequestId) → order_total steps id ≤ total_max
order_total-le steps run id = either (find (is_of id) (checkouts_taken steps)) refl
  where
    either : (o : Option Reservation) → find (is_of id) (checkouts_taken steps) ≡ o → order_total steps id ≤ total_max
    either None found = rw (sum-none (λ (r : Reservation). total_of r.lines) id (checkouts_taken steps) (none-found id (checkouts_taken steps) found)) (omega arith)
    either (Some r) found = rw (sum-found (λ (r : Reservation). total_of r.lines) id (checkouts_taken steps) r ((OrderRun-of steps run).once id) found) (lines_formed-total r.lines (found-passes is_formed (is_of id) (checkouts_taken steps) r (orders_formed steps run) found))

-- how many of the lines have the key
abbrev with_key_of : ProductKey → List PricedLine → List PricedLine
with_key_of key lines = filter (λ (line : PricedLine). same_key line.key key) lines

-- none below the first of rising lines
keyed_above : (key : ProductKey) (line : PricedLine) (more : List PricedLine) → key_below key line.key ≡ true → keys_rise (line ∷ more) ≡ true → with_key_of key (line ∷ more) ≡ []
keyed_above key line [] below rise = rw (key_below-apart key line.key below)
keyed_above key line (next ∷ more) below rise =
    let both = and_both (key_below line.key next.key) (keys_rise (next ∷ more)) rise in
    rw (key_below-apart key line.key below) (keyed_above key next more (key_below-trans key line.key next.key below both.0) both.1)

-- rising lines have no other line of the first key
keyed_first : (line : PricedLine) (more : List PricedLine) → keys_rise (line ∷ more) ≡ true → with_key_of line.key more ≡ []
keyed_first line [] rise = refl
keyed_first line (next ∷ more) rise =
    let both = and_both (key_below line.key next.key) (keys_rise (next ∷ more)) rise in
    keyed_above line.key next more both.0 both.1

-- rising lines have a key once at most
pub keyed_once : (key : ProductKey) (lines : List PricedLine) → keys_rise lines ≡ true → length (with_key_of key lines) ≤ 1
keyed_once key [] rise = omega arith
keyed_once key (line ∷ more) rise = either (same_key line.key key) refl (keyed_once key more (keys_rise-tail line more rise))
  where
    either : (b : Bool) → same_key line.key key ≡ b → length (with_key_of key more) ≤ 1 → length (cond (same_key line.key key) (line ∷ with_key_of key more) (with_key_of key more)) ≤ 1
    either true same rest =
        let none : with_key_of key more ≡ [] = subst (λ k. with_key_of k more ≡ []) (same_key-true line.key key same) (keyed_first line more rise) in
        rw (same, none) (omega arith)
    either false other rest = rw other rest

-- of rising lines, those with these keys are no more than the keys
with_keys_few : (lines : List PricedLine) → keys_rise lines ≡ true → (keys : List ProductKey) → length (lines_with_keys lines keys) ≤ length keys
with_keys_few lines rise [] = omega arith
with_keys_few lines rise (key ∷ keys) = omega (arith, length-append (with_key_of key lines) (lines_with_keys lines keys), keyed_once key lines rise, with_keys_few lines rise keys)

-- a seller's changes are no more than the lines
marked_few : (seller : ℕ) (id : RequestId) (st : OrderStatus) (lines : List PricedLine) → length (marked seller id st lines) ≤ length lines
marked_few seller id st lines =
    omega (arith, length-map {B = SellerChange} (lines_of_seller seller lines) (λ (line : PricedLine). record { checkout = id; line = line; status = st }), length-filter (λ (line : PricedLine). line.key.seller == seller) lines, count_by-le-length (λ (line : PricedLine). line.key.seller == seller) lines)

-- what an invoice's lines are like
record AreInvoiced (lines : List PricedLine) : Type 0 where
  rise : keys_rise lines ≡ true
  most : length lines ≤ most_lines

-- the lines of a checkout's invoice
invoiced_lines : (steps : List Step) (id : RequestId) → IsOnce id (invoices_taken steps) → list_all is_formed (invoices_taken steps) ≡ true → AreInvoiced (invoice_lines (taken_bodies steps) id)
invoiced_lines steps id once formed = subst AreInvoiced (sym (invoice_lines-is (taken_bodies steps) id)) (either (find (is_of id) (invoices_taken steps)) refl)
  where
    either : (o : Option Reservation) → find (is_of id) (invoices_taken steps) ≡ o → AreInvoiced (lines_of (invoices_taken steps) id)
    either None found = subst AreInvoiced (sym (lines-none id (invoices_taken steps) (none-found id (invoices_taken steps) found))) (record { rise = refl; most = omega arith })
    either (Some r) found =
        let passes = found-passes is_formed (is_of id) (invoices_taken steps) r formed found in
        subst AreInvoiced (sym (lines-found id (invoices_taken steps) r once found)) (record { rise = lines_formed-rise r.lines passes; most = lines_formed-most r.lines passes })

-- an event brings a seller no more changes than a delivery may have items
changes_few : (seller : ℕ) (before : List Body) → ((id : RequestId) → AreInvoiced (invoice_lines before id)) → (b : Body) → body_formed b ≡ true → length (changes_by seller before b) ≤ most_items
changes_few seller before invoiced (body.Invoice checkout customer lines total) formed =
    let both = and_both (checkout_formed checkout customer lines) (total == total_of lines) formed in
    omega (arith, marked_few seller checkout status.Invoiced lines, lines_formed-most lines (checkout_formed-lines checkout customer lines both.0))
changes_few seller before invoiced (body.Confirmed checkout customer lines total) formed =
    let both = and_both (checkout_formed checkout customer lines) (total == total_of lines) formed in
    omega (arith, marked_few seller checkout status.Paid (lines_with_keys (invoice_lines before checkout) (map (λ (line : PricedLine). line.key) lines)), with_keys_few (invoice_lines before checkout) (invoiced checkout).rise (map (λ (line : PricedLine). line.key) lines), length-map lines (λ (line : PricedLine). line.key), lines_formed-most lines (checkout_formed-lines checkout customer lines both.0))
changes_few seller before invoiced (body.Failed checkout customer reason) formed = omega (arith, marked_few seller checkout status.Cancelled (invoice_lines before checkout), (invoiced checkout).most)
changes_few seller before invoiced (body.Shipped checkout) formed = omega (arith, marked_few seller checkout status.Shipped (invoice_lines before checkout), (invoiced checkout).most)
changes_few seller before invoiced (body.Delivered items) formed = omega (arith, each items, items_formed-most items formed)
  where
    each : (items : List Item) → length (flat_map (item_delivered before seller) items) ≤ length items
    each [] = omega arith
    each (i ∷ items) =
        omega (arith, length-append (item_delivered before seller i) (flat_map (item_delivered before seller) items), marked_few seller i.checkout status.Delivered (lines_with_keys (invoice_lines before i.checkout) (i.key ∷ [])), with_keys_few (invoice_lines before i.checkout) (invoiced i.checkout).rise (i.key ∷ []), each items)
changes_few seller before invoiced (body.Changed key version change) formed = omega arith
changes_few seller before invoiced (body.Reserve checkout customer lines) formed = omega arith
changes_few seller before invoiced (body.ReserveFailed checkout key reason) formed = omega arith
changes_few seller before invoiced (body.StockConfirmed checkout customer lines) formed = omega arith
changes_few seller before invoiced (body.Ended checkout ending) formed = omega arith
changes_few seller before invoiced (body.Asked request) formed = omega arith
changes_few seller before invoiced (body.Told id reply) formed = omega arith

-- what holds of a seller after a run
record SellerRun (seller : ℕ) (steps : List Step) : Type 0 where
  once : AreOnce steps
  formed : list_all is_formed (invoices_taken steps) ≡ true
  few : length (seller_changes steps seller) ≤ most_items * length steps

-- a step that follows keeps it
seller_keeps : (seller : ℕ) (steps : List Step) (s : Step) → Follows Role.Seller steps s → SellerRun seller steps → SellerRun seller (steps ++ s ∷ [])
seller_keeps seller steps s follows run = record {
  once = AreOnce-keeps steps s follows run.once;
  formed = rw (invoices_taken-push steps s, list_all-append is_formed (invoices_taken steps) (filter_map invoice_in (s.body ∷ [])), run.formed) (one s.body (fits-parts Role.Seller steps s.from s.body follows.fit).formed);
  few = omega (
    arith,
    run.few,
    ap length (seller_changes-push steps s seller),
    length-append (seller_changes steps seller) (changes_by seller (taken_bodies steps) s.body),
    length-append steps (s ∷ []),
    changes_few seller (taken_bodies steps) (λ id. invoiced_lines steps id (run.once id) run.formed) s.body (fits-parts Role.Seller steps s.from s.body follows.fit).formed,
  );
}
  where
    one : (b : Body) → body_formed b ≡ true → list_all is_formed (filter_map invoice_in (b ∷ [])) ≡ true
    one (body.Invoice checkout customer lines total) formed = rw (checkout_formed-lines checkout customer lines (and_both (checkout_formed checkout customer lines) (total == total_of lines) formed).0)
    one (body.Changed key version change) formed = refl
    one (body.Reserve checkout customer lines) formed = refl
    one (body.ReserveFailed checkout key reason) formed = refl
    one (body.StockConfirmed checkout customer lines) formed = refl
    one (body.Confirmed checkout customer lines total) formed = refl
    one (body.Ended checkout ending) formed = refl
    one (body.Failed checkout customer reason) formed = refl
    one (body.Shipped checkout) formed = refl
    one (body.Delivered items) formed = refl
    one (body.Asked request) formed = refl
    one (body.Told id reply) formed = refl

-- after a run of sellers, a seller's point is no more than so much for each step
pub point-few : (steps : List Step) → IsRunOf Role.Seller steps → (seller : ℕ) → length (seller_changes steps seller) ≤ most_items * length steps
point-few steps run seller = (run_has Role.Seller (SellerRun seller) (seller_keeps seller) (record { once = λ id. omega arith; formed = refl; few = omega arith }) steps run).few

-- after a run of sellers, the lines of a checkout's invoice rise, and are no more than there may be
pub invoice_lines-rise : (steps : List Step) → IsRunOf Role.Seller steps → (id : RequestId) → keys_rise (invoice_lines (taken_bodies steps) id) ≡ true
invoice_lines-rise steps run id =
    let kept = run_has Role.Seller (SellerRun 0) (seller_keeps 0) (record { once = λ id. omega arith; formed = refl; few = omega arith }) steps run in
    (invoiced_lines steps id (kept.once id) kept.formed).rise

-- after a run of sellers, the lines of an invoice are no more than there may be
pub invoice_lines-most : (steps : List Step) → IsRunOf Role.Seller steps → (id : RequestId) → length (invoice_lines (taken_bodies steps) id) ≤ most_lines
invoice_lines-most steps run id =
    let kept = run_has Role.Seller (SellerRun 0) (seller_keeps 0) (record { once = λ id. omega arith; formed = refl; few = omega arith }) steps run in
    (invoiced_lines steps id (kept.once id) kept.formed).most
