-- What one more step makes of the entries of a seller: an invoice adds its lines, and any other event sets statuses.
use Rattle.std.proofs.Common.{◌≡◌, ℕ, Bool, true, false, cond, ◌&&◌, ◌||◌, ◌==◌, List, [], ◌∷◌, ◌++◌, Option, Some, None, map, filter_map, fold, if◌then◌else◌, refl, ap, sym, subst, ◌∙◌, append-nil, append_assoc}
use Rattle.std.specs.List.{list_any, list_all, cons_option}
use Rattle.std.proofs.lemmas.List.Concat.{flat_map-append}
use Rattle.std.proofs.lemmas.List.Folds.{list_any-append, list_all-append}
use Rattle.market_amounts.specs.declared.keys.ProductKey.{ProductKey}
use Rattle.market_amounts.specs.declared.keys.RequestId.{RequestId}
use Rattle.market_events.specs.declared.bodies.Body.{Body}
use Rattle.market_events.specs.declared.bodies.Body.TheVariants as body
use Rattle.market_events.specs.declared.bodies.PricedLine.{PricedLine}
use Rattle.market_events.specs.declared.links.Link.{Link}
use Rattle.market_events.specs.declared.replies.OrderStatus.{OrderStatus}
use Rattle.market_events.specs.declared.replies.OrderStatus.TheVariants as status
use Rattle.market_events.specs.Orders.{is_of}
use Rattle.market_events.specs.Requests.{same_key, same_id}
use Rattle.market_events.specs.Sellers.{SellerChange, lines_invoiced, invoice_lines, marked, changes_by, changes_after, seller_changes, adds, entries_at, status_at, seller_sums, seller_rows}
use Rattle.market_events.specs.Services.{Role, answers, invoices, invoices_lines, is_for_lines}
use Rattle.market_events.specs.Steps.{Step, taken_bodies, same_lines}
use Rattle.market_events.specs.Stocks.{Reservation}
use Rattle.market_events.proofs.Values.Lists.{and_both, or_right, or_left, and_from, map-map}
use Rattle.market_events.proofs.Steps.Orders.{lines_of}
use Rattle.market_events.proofs.Values.Same.{same_id-self, same_key-self}
use Rattle.market_events.proofs.Steps.SellerChanges.{changed_by, given, with_status, entries_now, entries_at-append, entries_at-changes_by, entries_at-marked, invoices_none, lines_of_seller}

-- what sellers answer
pub answers-seller : (steps : List Step) (from : Link) (b : Body) → answers Role.Seller steps from b ≡ seller_rows (seller_sums steps) b
unfolding answers
answers-seller steps from b = refl

-- the line is of the seller, and of the product
abbrev pub is_sellers : ℕ → ProductKey → PricedLine → Bool
is_sellers seller key line = (line.key.seller == seller) && same_key line.key key

-- the entry is of the checkout, and of one of these lines of the seller
abbrev pub is_marked : ℕ → RequestId → List PricedLine → SellerChange → Bool
is_marked seller id lines e = same_id id e.checkout && list_any (is_sellers seller e.line.key) lines

-- the entry has this status, where the test holds of it
abbrev pub set_where : (SellerChange → Bool) → OrderStatus → SellerChange → SellerChange
set_where test status e = if test e then record { checkout = e.checkout; line = e.line; status = status } else e

-- a map that changes no element
map-self : {A : Type 0} (f : A → A) → ((x : A) → f x ≡ x) → (xs : List A) → map f xs ≡ xs
map-self f same [] = refl
map-self f same (x ∷ xs) = λ i. same x i ∷ map-self f same xs i

-- changes of lines, with a status that adds none, set this status where the entry is one of these lines
pub marked-sets : (seller : ℕ) (id : RequestId) (st : OrderStatus) → adds st ≡ false → (lines : List PricedLine) (es : List SellerChange) → fold changed_by es (marked seller id st lines) ≡ map (set_where (is_marked seller id lines) st) es
marked-sets seller id st other [] es = sym (map-self (set_where (is_marked seller id []) st) (λ e. none e (same_id id e.checkout)) es)
  where
    none : (e : SellerChange) (a : Bool) → (if a && false then record { checkout = e.checkout; line = e.line; status = st } else e) ≡ e
    none e true = refl
    none e false = refl
marked-sets seller id st other (l ∷ lines) es = either (l.key.seller == seller) refl (λ more. marked-sets seller id st other lines more)
  where
    skipped : (l.key.seller == seller) ≡ false → (e : SellerChange) → set_where (is_marked seller id lines) st e ≡ set_where (is_marked seller id (l ∷ lines)) st e
    skipped differs e = rw differs

    moved : (e : SellerChange) (a b c : Bool) → set_where (λ x. a && c) st (if a && b then record { checkout = e.checkout; line = e.line; status = st } else e) ≡ (if a && (b || c) then record { checkout = e.checkout; line = e.line; status = st } else e)
    moved e true true true = refl
    moved e true true false = refl
    moved e true false c = refl
    moved e false b c = refl

    -- the test reads only the checkout and the line
    reads : (e : SellerChange) (b : Bool) → set_where (is_marked seller id lines) st (if b then record { checkout = e.checkout; line = e.line; status = st } else e) ≡ set_where (λ x. is_marked seller id lines e) st (if b then record { checkout = e.checkout; line = e.line; status = st } else e)
    reads e true = refl
    reads e false = refl

    taken : (l.key.seller == seller) ≡ true → (e : SellerChange) → set_where (is_marked seller id lines) st (given (record { checkout = id; line = l; status = st }) e) ≡ set_where (is_marked seller id (l ∷ lines)) st e
    taken own e =
        reads e (same_id id e.checkout && same_key l.key e.line.key)
        ∙ moved e (same_id id e.checkout) (same_key l.key e.line.key) (list_any (is_sellers seller e.line.key) lines)
        ∙ sym (rw own)

    either : (b : Bool) → (l.key.seller == seller) ≡ b → ((more : List SellerChange) → fold changed_by more (marked seller id st lines) ≡ map (set_where (is_marked seller id lines) st) more)
        → fold changed_by es (map (λ (line : PricedLine). record { checkout = id; line = line; status = st }) (cond (l.key.seller == seller) (l ∷ lines_of_seller seller lines) (lines_of_seller seller lines))) ≡ map (set_where (is_marked seller id (l ∷ lines)) st) es
    either true own rest =
        ap (λ ls. fold changed_by es (map (λ (line : PricedLine). record { checkout = id; line = line; status = st }) ls)) (ap (λ b. cond b (l ∷ lines_of_seller seller lines) (lines_of_seller seller lines)) own)
        ∙ ap (λ b. fold changed_by (map (given (record { checkout = id; line = l; status = st })) es ++ (if b then record { checkout = id; line = l; status = st } ∷ [] else [])) (marked seller id st lines)) other
        ∙ ap (λ more. fold changed_by more (marked seller id st lines)) (append-nil (map (given (record { checkout = id; line = l; status = st })) es))
        ∙ rest (map (given (record { checkout = id; line = l; status = st })) es)
        ∙ map-map (given (record { checkout = id; line = l; status = st })) (set_where (is_marked seller id lines) st) es
        ∙ ap (λ f. map f es) (λ i e. taken own e i)
    either false differs rest =
        ap (λ ls. fold changed_by es (map (λ (line : PricedLine). record { checkout = id; line = line; status = st }) ls)) (ap (λ b. cond b (l ∷ lines_of_seller seller lines) (lines_of_seller seller lines)) differs)
        ∙ rest es ∙ ap (λ f. map f es) (λ i e. skipped differs e i)

-- the entry is of a line of its checkout's invoice
abbrev pub from_invoice : ℕ → List Body → SellerChange → Bool
from_invoice seller bs e = list_any (is_sellers seller e.line.key) (invoice_lines bs e.checkout)

-- the lines that an event invoices stand in their checkout's invoice
from_marked : (seller : ℕ) (bs : List Body) (id : RequestId) (lines : List PricedLine) → ((key : ProductKey) → list_any (is_sellers seller key) lines ≡ true → list_any (is_sellers seller key) (invoice_lines bs id) ≡ true)
    → list_all (from_invoice seller bs) (marked seller id status.Invoiced lines) ≡ true
from_marked seller bs id [] within = refl
from_marked seller bs id (l ∷ lines) within = either (l.key.seller == seller) refl (from_marked seller bs id lines (λ key any. within key (or_right (is_sellers seller key l) any)))
  where
    here : (l.key.seller == seller) ≡ true → list_any (is_sellers seller l.key) (l ∷ lines) ≡ true
    here own = or_left (is_sellers seller l.key l) (list_any (is_sellers seller l.key) lines) (rw (own, same_key-self l.key))

    either : (b : Bool) → (l.key.seller == seller) ≡ b → list_all (from_invoice seller bs) (marked seller id status.Invoiced lines) ≡ true
        → list_all (from_invoice seller bs) (map (λ (line : PricedLine). record { checkout = id; line = line; status = status.Invoiced }) (cond (l.key.seller == seller) (l ∷ lines_of_seller seller lines) (lines_of_seller seller lines))) ≡ true
    either true own rest =
        subst (λ b. list_all (from_invoice seller bs) (map (λ (line : PricedLine). record { checkout = id; line = line; status = status.Invoiced }) (cond b (l ∷ lines_of_seller seller lines) (lines_of_seller seller lines))) ≡ true) (sym own)
        (and_from (list_any (is_sellers seller l.key) (invoice_lines bs id)) (list_all (from_invoice seller bs) (marked seller id status.Invoiced lines)) (within l.key (here own)) rest)
    either false differs rest =
        subst (λ b. list_all (from_invoice seller bs) (map (λ (line : PricedLine). record { checkout = id; line = line; status = status.Invoiced }) (cond b (l ∷ lines_of_seller seller lines) (lines_of_seller seller lines))) ≡ true) (sym differs) rest

-- each entry is of a line of its checkout's invoice
from_after : (seller : ℕ) (before bs : List Body) → list_all (from_invoice seller (before ++ bs)) (entries_at (changes_after seller before bs)) ≡ true
from_after seller before [] = refl
from_after seller before (b ∷ bs) =
    ap (list_all (from_invoice seller (before ++ b ∷ bs))) (entries_at-append (changes_by seller before b) (changes_after seller (before ++ b ∷ []) bs))
    ∙ list_all-append (from_invoice seller (before ++ b ∷ bs)) (entries_at (changes_by seller before b)) (entries_at (changes_after seller (before ++ b ∷ []) bs))
    ∙ and_from (list_all (from_invoice seller (before ++ b ∷ bs)) (entries_at (changes_by seller before b))) (list_all (from_invoice seller (before ++ b ∷ bs)) (entries_at (changes_after seller (before ++ b ∷ []) bs)))
    (own b) (subst (λ all. list_all (from_invoice seller all) (entries_at (changes_after seller (before ++ b ∷ []) bs)) ≡ true) (append_assoc before (b ∷ []) bs) (from_after seller (before ++ b ∷ []) bs))
  where
    quiet : (b : Body) → invoices_none b ≡ true → list_all (from_invoice seller (before ++ b ∷ bs)) (entries_at (changes_by seller before b)) ≡ true
    quiet b none = ap (list_all (from_invoice seller (before ++ b ∷ bs))) (entries_at-changes_by seller before b none)

    own : (b : Body) → list_all (from_invoice seller (before ++ b ∷ bs)) (entries_at (changes_by seller before b)) ≡ true
    own (body.Invoice checkout customer lines total) =
        ap (list_all (from_invoice seller (before ++ body.Invoice checkout customer lines total ∷ bs))) (entries_at-marked seller checkout lines)
        ∙ from_marked seller (before ++ body.Invoice checkout customer lines total ∷ bs) checkout lines (λ key any.
        ap (list_any (is_sellers seller key)) (flat_map-append (lines_invoiced checkout) before (body.Invoice checkout customer lines total ∷ bs) ∙ ap (λ b. invoice_lines before checkout ++ ((if b then lines else []) ++ invoice_lines bs checkout)) (same_id-self checkout))
        ∙ list_any-append (is_sellers seller key) (invoice_lines before checkout) (lines ++ invoice_lines bs checkout)
        ∙ or_right (list_any (is_sellers seller key) (invoice_lines before checkout)) (list_any-append (is_sellers seller key) lines (invoice_lines bs checkout) ∙ or_left (list_any (is_sellers seller key) lines) (list_any (is_sellers seller key) (invoice_lines bs checkout)) any))
    own (body.Changed key version change) = refl
    own (body.Reserve checkout customer lines) = refl
    own (body.ReserveFailed checkout key reason) = refl
    own (body.StockConfirmed checkout customer lines) = refl
    own (body.Ended checkout ending) = refl
    own (body.Asked request) = refl
    own (body.Told id reply) = refl
    own other = quiet other refl

-- the entries with their last status, too
pub entries_from_invoices : (steps : List Step) (seller : ℕ) → list_all (from_invoice seller (taken_bodies steps)) (entries_now (seller_changes steps seller)) ≡ true
entries_from_invoices steps seller = each (entries_at (seller_changes steps seller)) (from_after seller [] (taken_bodies steps))
  where
    one : (e : SellerChange) (o : Option OrderStatus) → from_invoice seller (taken_bodies steps) (with_status e o) ≡ from_invoice seller (taken_bodies steps) e
    one e None = refl
    one e (Some st) = refl

    each : (es : List SellerChange) → list_all (from_invoice seller (taken_bodies steps)) es ≡ true → list_all (from_invoice seller (taken_bodies steps)) (map (λ (e : SellerChange). with_status e (status_at (seller_changes steps seller) e)) es) ≡ true
    each [] all = refl
    each (e ∷ es) all =
        let both = and_both (from_invoice seller (taken_bodies steps) e) (list_all (from_invoice seller (taken_bodies steps)) es) all in
        rw (one e (status_at (seller_changes steps seller) e), both.0) (each es both.1)

-- two tests that agree on entries that all pass a third
pub sets_agree : (third test other : SellerChange → Bool) (st : OrderStatus) → ((e : SellerChange) → third e ≡ true → test e ≡ other e) → (es : List SellerChange) → list_all third es ≡ true → map (set_where test st) es ≡ map (set_where other st) es
sets_agree third test other st same [] all = refl
sets_agree third test other st same (e ∷ es) all =
    let both = and_both (third e) (list_all third es) all in
    λ i. (if same e both.0 i then record { checkout = e.checkout; line = e.line; status = st } else e) ∷ sets_agree third test other st same es both.1 i

-- the checkout that an invoice is of
abbrev pub invoice_in : Body → Option Reservation
invoice_in (body.Invoice checkout customer lines total) = Some (record { checkout = checkout; customer = customer; lines = lines })
invoice_in other = None

-- the checkouts that were invoiced, as they were taken
abbrev pub invoices_taken : List Step → List Reservation
invoices_taken steps = filter_map invoice_in (taken_bodies steps)

-- the lines of a checkout's invoices
pub invoice_lines-is : (bs : List Body) (id : RequestId) → invoice_lines bs id ≡ lines_of (filter_map invoice_in bs) id
invoice_lines-is [] id = refl
invoice_lines-is (b ∷ bs) id = ap (λ ls. lines_invoiced id b ++ ls) (invoice_lines-is bs id) ∙ one b (filter_map invoice_in bs)
  where
    one : (b : Body) (rs : List Reservation) → lines_invoiced id b ++ lines_of rs id ≡ lines_of (cons_option (invoice_in b) rs) id
    one (body.Invoice checkout customer lines total) rs = refl
    one other rs = refl

-- a checkout was invoiced
pub is_invoiced-is : (bs : List Body) (id : RequestId) → list_any (invoices id) bs ≡ list_any (is_of id) (filter_map invoice_in bs)
is_invoiced-is [] id = refl
is_invoiced-is (b ∷ bs) id = ap (λ a. invoices id b || a) (is_invoiced-is bs id) ∙ one b (filter_map invoice_in bs)
  where
    one : (b : Body) (rs : List Reservation) → (invoices id b || list_any (is_of id) rs) ≡ list_any (is_of id) (cons_option (invoice_in b) rs)
    one (body.Invoice checkout customer lines total) rs = refl
    one other rs = refl

-- a checkout was invoiced with these lines
pub invoices_lines-is : (bs : List Body) (id : RequestId) (customer : ℕ) (lines : List PricedLine) → list_any (invoices_lines id customer lines) bs ≡ list_any (is_for_lines id customer lines) (filter_map invoice_in bs)
invoices_lines-is [] id customer lines = refl
invoices_lines-is (b ∷ bs) id customer lines = ap (λ a. invoices_lines id customer lines b || a) (invoices_lines-is bs id customer lines) ∙ one b (filter_map invoice_in bs)
  where
    assoc : (a b c : Bool) → (a && b && c) ≡ ((a && b) && c)
    assoc true b c = refl
    assoc false b c = refl

    one : (b : Body) (rs : List Reservation) → (invoices_lines id customer lines b || list_any (is_for_lines id customer lines) rs) ≡ list_any (is_for_lines id customer lines) (cons_option (invoice_in b) rs)
    one (body.Invoice checkout c others total) rs = ap (λ a. a || list_any (is_for_lines id customer lines) rs) (assoc (same_id checkout id) (c == customer) (same_lines others lines))
    one other rs = refl
