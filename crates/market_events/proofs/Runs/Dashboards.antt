-- What a dashboard shows after a run is well formed.
use Rattle.std.proofs.Common.{◌≡◌, ℕ, ◌*◌, ◌≤◌, zero, suc, Bool, true, false, cond, ◌&&◌, ◌==◌, List, [], ◌∷◌, ◌++◌, Option, Some, None, length, map, filter, filter_map, take, nat_le, sum_by, refl, ap, ◌∙◌, arith, le-leb, leb-true}
use Rattle.std.specs.List.{list_all, cons_option}
use Rattle.std.proofs.lemmas.List.Folds.{list_all-append}
use Rattle.std.proofs.lemmas.List.Sums.{sum_by-cons}
use Rattle.market_amounts.specs.declared.keys.RequestId.{RequestId}
use Rattle.market_events.specs.declared.bodies.Body.{Body}
use Rattle.market_events.specs.declared.bodies.Body.TheVariants as body
use Rattle.market_events.specs.declared.bodies.PricedLine.{PricedLine}
use Rattle.market_events.specs.declared.replies.EntryRow.{EntryRow}
use Rattle.market_events.specs.declared.replies.OrderStatus.{OrderStatus}
use Rattle.market_events.specs.declared.replies.OrderStatus.TheVariants as status
use Rattle.market_events.specs.declared.replies.Reply.TheVariants as reply
use Rattle.market_events.specs.Formed.{id_formed, cents_formed, quantity_formed, key_formed, request_id_formed, line_formed, lines_formed, checkout_formed, status_in_progress, row_formed, rows_formed, reply_formed, body_formed}
use Rattle.market_events.specs.Sellers.{SellerChange, marked, changes_by, changes_after, seller_changes, entries_at, is_invoiced, status_at, line_cost, row_with, row_by, in_progress_at, amount_at, page_of}
use Rattle.market_events.specs.Services.{Role, IsRunOf}
use Rattle.market_events.specs.Steps.{Step, taken_bodies}
use Rattle.market_events.specs.WellFormed.{id_max, total_max, amount_max, most_lines, keys_rise, total_of, most_rows_shown}
use Rattle.market_events.proofs.Values.Lists.{and_both, and_from}
use Rattle.market_events.proofs.Steps.SellerChanges.{entries_at-append, entries_at-changes_by, entries_at-marked, lines_of_seller}
use Rattle.market_events.proofs.Steps.Taken.{taken_formed, run-few}
use Rattle.market_events.proofs.Runs.Totals.{line_max, line_formed-cost, point-few}

-- the entry's id and line are well formed
abbrev pub is_entry_formed : SellerChange → Bool
is_entry_formed e = request_id_formed e.checkout && line_formed e.line

-- the entries of an invoice are well formed
marked_formed : (seller : ℕ) (id : RequestId) (lines : List PricedLine) → request_id_formed id ≡ true → list_all line_formed lines ≡ true → list_all is_entry_formed (marked seller id status.Invoiced lines) ≡ true
marked_formed seller id [] known all = refl
marked_formed seller id (l ∷ lines) known all =
    let both = and_both (line_formed l) (list_all line_formed lines) all in
    either (l.key.seller == seller) both.0 (marked_formed seller id lines known both.1)
  where
    either : (b : Bool) → line_formed l ≡ true → list_all is_entry_formed (marked seller id status.Invoiced lines) ≡ true
        → list_all is_entry_formed (map (λ (line : PricedLine). record { checkout = id; line = line; status = status.Invoiced }) (cond b (l ∷ lines_of_seller seller lines) (lines_of_seller seller lines))) ≡ true
    either true formed rest = rw (known, formed) rest
    either false formed rest = rest

-- the entries that well-formed events add are well formed
entries_after : (seller : ℕ) (before bs : List Body) → list_all body_formed bs ≡ true → list_all is_entry_formed (entries_at (changes_after seller before bs)) ≡ true
entries_after seller before [] all = refl
entries_after seller before (b ∷ bs) all =
    let both = and_both (body_formed b) (list_all body_formed bs) all in
    ap (list_all is_entry_formed) (entries_at-append (changes_by seller before b) (changes_after seller (before ++ b ∷ []) bs))
    ∙ list_all-append is_entry_formed (entries_at (changes_by seller before b)) (entries_at (changes_after seller (before ++ b ∷ []) bs))
    ∙ and_from (list_all is_entry_formed (entries_at (changes_by seller before b))) (list_all is_entry_formed (entries_at (changes_after seller (before ++ b ∷ []) bs))) (own b both.0) (entries_after seller (before ++ b ∷ []) bs both.1)
  where
    own : (b : Body) → body_formed b ≡ true → list_all is_entry_formed (entries_at (changes_by seller before b)) ≡ true
    own (body.Invoice checkout customer lines total) formed =
        let a = and_both (checkout_formed checkout customer lines) (total == total_of lines) formed in
        let b = and_both (request_id_formed checkout && id_formed customer) (lines_formed lines) a.0 in
        let c = and_both (request_id_formed checkout) (id_formed customer) b.0 in
        let d = and_both (nat_le 1 (length lines) && nat_le (length lines) most_lines && list_all line_formed lines) (keys_rise lines) b.1 in
        let e = and_both (nat_le 1 (length lines) && nat_le (length lines) most_lines) (list_all line_formed lines) d.0 in
        ap (list_all is_entry_formed) (entries_at-marked seller checkout lines) ∙ marked_formed seller checkout lines c.0 e.1
    own (body.Changed key version change) formed = refl
    own (body.Reserve checkout customer lines) formed = refl
    own (body.ReserveFailed checkout key reason) formed = refl
    own (body.StockConfirmed checkout customer lines) formed = refl
    own (body.Ended checkout ending) formed = refl
    own (body.Asked request) formed = refl
    own (body.Told id reply) formed = refl
    own b formed = ap (list_all is_entry_formed) (entries_at-changes_by seller before b refl)

-- after a run, the entries of a seller are well formed
pub entries_at-formed : (role : Role) (steps : List Step) → IsRunOf role steps → (seller : ℕ) → list_all is_entry_formed (entries_at (seller_changes steps seller)) ≡ true
entries_at-formed role steps run seller = entries_after seller [] (taken_bodies steps) (taken_formed role steps run)

-- a row is well formed, and its amount is what a line may cost
abbrev is_row_priced : EntryRow → Bool
is_row_priced row = row_formed row && nat_le row.amount line_max

-- the row of a well-formed entry in progress
row_with-formed : (e : SellerChange) (st : OrderStatus) → is_entry_formed e ≡ true → status_in_progress st ≡ true → is_row_priced (row_with e st) ≡ true
row_with-formed e st formed going =
    let both = and_both (request_id_formed e.checkout) (line_formed e.line) formed in
    let a = and_both (key_formed e.line.key && quantity_formed e.line.quantity && cents_formed e.line.price && cents_formed e.line.freight) (cents_formed e.line.voucher) both.1 in
    let b = and_both (key_formed e.line.key && quantity_formed e.line.quantity && cents_formed e.line.price) (cents_formed e.line.freight) a.0 in
    let c = and_both (key_formed e.line.key && quantity_formed e.line.quantity) (cents_formed e.line.price) b.0 in
    let d = and_both (key_formed e.line.key) (quantity_formed e.line.quantity) c.0 in
    let k = and_both (id_formed e.line.key.seller) (id_formed e.line.key.product) d.0 in
    let cost = line_formed-cost e.line both.1 in
    all (request_id_formed e.checkout) (id_formed e.line.key.product) (quantity_formed e.line.quantity) (nat_le (line_cost e.line) total_max) (status_in_progress st) (nat_le (line_cost e.line) line_max)
    both.0 k.1 d.1 (le-leb (line_cost e.line) total_max (omega (arith, cost))) going (le-leb (line_cost e.line) line_max cost)
  where
    all : (a b c d e f : Bool) → a ≡ true → b ≡ true → c ≡ true → d ≡ true → e ≡ true → f ≡ true → ((a && b && c && d && e) && f) ≡ true
    all a b c d e f p q r s t u = rw (p, q, r, s, t, u)

-- the rows of well-formed entries
rows_priced : (st : SellerChange → Option OrderStatus) (es : List SellerChange) → list_all is_entry_formed es ≡ true → list_all is_row_priced (filter_map (λ e. row_by e (st e)) es) ≡ true
rows_priced st [] all = refl
rows_priced st (e ∷ es) all =
    let both = and_both (is_entry_formed e) (list_all is_entry_formed es) all in
    one (st e) both.0 (rows_priced st es both.1)
  where
    one : (o : Option OrderStatus) → is_entry_formed e ≡ true → list_all is_row_priced (filter_map (λ e. row_by e (st e)) es) ≡ true → list_all is_row_priced (cons_option (row_by e o) (filter_map (λ e. row_by e (st e)) es)) ≡ true
    one None formed rest = rest
    one (Some status.Invoiced) formed rest = rw (row_with-formed e status.Invoiced formed refl) rest
    one (Some status.Paid) formed rest = rw (row_with-formed e status.Paid formed refl) rest
    one (Some status.Shipped) formed rest = rw (row_with-formed e status.Shipped formed refl) rest
    one (Some status.Delivered) formed rest = rest
    one (Some status.Cancelled) formed rest = rest

-- priced rows come to no more than so much each
amounts_few : (rows : List EntryRow) → list_all is_row_priced rows ≡ true → sum_by (λ (row : EntryRow). row.amount) rows ≤ line_max * length rows
amounts_few [] all = omega arith
amounts_few (row ∷ rows) all =
    let both = and_both (is_row_priced row) (list_all is_row_priced rows) all in
    rw (sum_by-cons (λ (row : EntryRow). row.amount) row rows) (omega (arith, leb-true row.amount line_max (and_both (row_formed row) (nat_le row.amount line_max) both.0).1, amounts_few rows both.1))

-- some of the elements are no more
length-filter_map-le : {A B : Type 0} (f : A → Option B) (xs : List A) → length (filter_map f xs) ≤ length xs
length-filter_map-le f [] = omega arith
length-filter_map-le {B = B} f (x ∷ xs) = either (f x) (length-filter_map-le f xs)
  where
    either : (o : Option B) → length (filter_map f xs) ≤ length xs → length (cons_option o (filter_map f xs)) ≤ length (x ∷ xs)
    either None few = omega (arith, few)
    either (Some y) few = omega (arith, few)

-- what a filter keeps is no more
length-filter-le : {A : Type 0} (keep : A → Bool) (xs : List A) → length (filter keep xs) ≤ length xs
length-filter-le keep [] = omega arith
length-filter-le keep (x ∷ xs) = either (keep x) (length-filter-le keep xs)
  where
    either : (b : Bool) → length (filter keep xs) ≤ length xs → length (cond b (x ∷ filter keep xs) (filter keep xs)) ≤ length (x ∷ xs)
    either true rest = omega (arith, rest)
    either false rest = omega (arith, rest)

-- no more entries are in progress than there were changes
pub in_progress_at-few : (changes : List SellerChange) → length (in_progress_at changes) ≤ length changes
in_progress_at-few changes = omega (arith, length-filter_map-le (λ entry. row_by entry (status_at changes entry)) (entries_at changes), length-filter-le is_invoiced changes)

-- the first elements pass where all do
take_all : {A : Type 0} (test : A → Bool) (n : ℕ) (xs : List A) → list_all test xs ≡ true → list_all test (take n xs) ≡ true
take_all test zero xs all = refl
take_all test (suc n) [] all = refl
take_all test (suc n) (x ∷ xs) all = let both = and_both (test x) (list_all test xs) all in rw both.0 (take_all test n xs both.1)

-- no more are taken than were asked for
take_few : {A : Type 0} (n : ℕ) (xs : List A) → length (take n xs) ≤ n
take_few zero xs = omega arith
take_few (suc n) [] = omega arith
take_few (suc n) (x ∷ xs) = omega (arith, take_few n xs)

-- a weaker test of all
all_weaker : (rows : List EntryRow) → list_all is_row_priced rows ≡ true → list_all row_formed rows ≡ true
all_weaker [] all = refl
all_weaker (row ∷ rows) all =
    let both = and_both (is_row_priced row) (list_all is_row_priced rows) all in
    rw (and_both (row_formed row) (nat_le row.amount line_max) both.0).0 (all_weaker rows both.1)

-- after a run of sellers, what a dashboard shows is well formed
pub dashboard-formed : (steps : List Step) → IsRunOf Role.Seller steps → (seller : ℕ)
    → reply_formed (reply.Dashboard (length (seller_changes steps seller)) (length (in_progress_at (seller_changes steps seller))) (amount_at (seller_changes steps seller)) (page_of 0 (in_progress_at (seller_changes steps seller)))) ≡ true
dashboard-formed steps run seller =
    shown (seller_changes steps seller) (omega (arith, point-few steps run seller, run-few Role.Seller steps run)) (rows_priced (λ entry. status_at (seller_changes steps seller) entry) (entries_at (seller_changes steps seller)) (entries_at-formed Role.Seller steps run seller))
  where
    four : (a b c d : Bool) → a ≡ true → b ≡ true → c ≡ true → d ≡ true → (a && b && c && d) ≡ true
    four a b c d p q r s = rw (p, q, r, s)

    shown : (changes : List SellerChange) → length changes ≤ 2_684_354_560 → list_all is_row_priced (in_progress_at changes) ≡ true → reply_formed (reply.Dashboard (length changes) (length (in_progress_at changes)) (amount_at changes) (page_of 0 (in_progress_at changes))) ≡ true
    shown changes few all =
        four (id_formed (length changes)) (id_formed (length (in_progress_at changes))) (nat_le (amount_at changes) amount_max) (rows_formed (page_of 0 (in_progress_at changes)))
        (le-leb (length changes) id_max (omega (arith, few)))
        (le-leb (length (in_progress_at changes)) id_max (omega (arith, few, in_progress_at-few changes)))
        (le-leb (amount_at changes) amount_max (omega (arith, few, in_progress_at-few changes, amounts_few (in_progress_at changes) all)))
        (and_from (nat_le (length (page_of 0 (in_progress_at changes))) most_rows_shown) (list_all row_formed (page_of 0 (in_progress_at changes)))
        (le-leb (length (page_of 0 (in_progress_at changes))) most_rows_shown (take_few most_rows_shown (in_progress_at changes)))
        (take_all row_formed most_rows_shown (in_progress_at changes) (all_weaker (in_progress_at changes) all)))
