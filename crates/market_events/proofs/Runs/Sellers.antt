-- What holds of sellers after a run, and the entries of a seller after one more step.
use Rattle.std.proofs.Common.{◌≡◌, ℕ, ◌+◌, ◌≤◌, Bool, true, false, cond, ◌&&◌, ◌||◌, ◌==◌, not, List, [], ◌∷◌, ◌++◌, map, filter, filter_map, fold, if◌then◌else◌, count_by, refl, ap, ap₂, sym, subst, ◌∙◌, append-nil, append_assoc, arith}
use Rattle.std.specs.List.{list_any, list_all, flat_map}
use Rattle.std.proofs.lemmas.List.{map-append}
use Rattle.std.proofs.lemmas.List.Folds.{list_any-append}
use Rattle.std.proofs.lemmas.List.Sums.{sum_by_push, fold-append}
use Rattle.market_amounts.specs.declared.keys.ProductKey.{ProductKey}
use Rattle.market_amounts.specs.declared.keys.RequestId.{RequestId}
use Rattle.market_events.specs.declared.bodies.Body.{Body}
use Rattle.market_events.specs.declared.bodies.Body.TheVariants as body
use Rattle.market_events.specs.declared.bodies.Item.{Item}
use Rattle.market_events.specs.declared.bodies.PayRule.{PayRule}
use Rattle.market_events.specs.declared.bodies.PricedLine.{PricedLine}
use Rattle.market_events.specs.declared.replies.OrderStatus.{OrderStatus}
use Rattle.market_events.specs.declared.replies.OrderStatus.TheVariants as status
use Rattle.market_events.specs.Orders.{is_of, is_taken, is_item_of}
use Rattle.market_events.specs.Requests.{same_key, same_id}
use Rattle.market_events.specs.Sellers.{SellerChange, invoice_lines, marked, lines_with_keys, item_delivered, changes_by, seller_changes, same_entry}
use Rattle.market_events.specs.Services.{Role, Follows, IsRunOf, invoices, invoices_lines, seller_fits}
use Rattle.market_events.specs.Steps.{Step, taken_bodies}
use Rattle.market_events.specs.Stocks.{Reservation, is_settled}
use Rattle.market_events.proofs.Values.Lists.{and_both, not_true, and_not, filter_map-push, count-none, or_right, or_left}
use Rattle.market_events.proofs.Steps.Reservations.{IsOnce, lines-none, lines-found, found-for_lines}
use Rattle.market_events.proofs.Values.Same.{same_id-true, same_key-true}
use Rattle.market_events.proofs.Steps.SellerChanges.{changed_by, given, entries_now, entries_now-step, lines_of_seller, seller_changes-same}
use Rattle.market_events.proofs.Steps.SellerEntries.{is_sellers, is_marked, set_where, marked-sets, from_invoice, entries_from_invoices, sets_agree, invoice_in, invoices_taken, invoice_lines-is, is_invoiced-is, invoices_lines-is}
use Rattle.market_events.proofs.Steps.Taken.{taken_bodies-push, fits-parts, run_has}

-- invoices: the one of the step's body is taken last
pub invoices_taken-push : (steps : List Step) (s : Step) → invoices_taken (steps ++ s ∷ []) ≡ invoices_taken steps ++ filter_map invoice_in (s.body ∷ [])
invoices_taken-push steps s = ap (filter_map invoice_in) (taken_bodies-push steps s) ∙ filter_map-push invoice_in (taken_bodies steps) s.body

-- each checkout has one invoice at most
abbrev pub AreOnce : List Step → Type 0
AreOnce steps = (id : RequestId) → IsOnce id (invoices_taken steps)

-- each body that fits keeps it
by_body : (steps : List Step) (s : Step) (b : Body) → s.body ≡ b → seller_fits steps b ≡ true → AreOnce steps → AreOnce (steps ++ s ∷ [])
by_body steps s (body.Invoice checkout customer lines total) is fit once id =
    rw (invoices_taken-push steps s, is, sum_by_push (λ (r : Reservation). cond (is_of id r) 1 0) (invoices_taken steps) (record { checkout = checkout; customer = customer; lines = lines })) (either (same_id checkout id) refl)
  where
    either : (b : Bool) → same_id checkout id ≡ b → count_by (is_of id) (invoices_taken steps) + cond (same_id checkout id) 1 0 ≤ 1
    either true same =
        let new : list_any (is_of id) (invoices_taken steps) ≡ false = sym (is_invoiced-is (taken_bodies steps) id) ∙ ap (is_taken invoices steps) (sym (same_id-true checkout id same)) ∙ not_true (is_taken invoices steps checkout) fit in
        rw (same, count-none (is_of id) (invoices_taken steps) new) (omega arith)
    either false other = rw other (omega (arith, once id))
by_body steps s b is fit once id = rw (invoices_taken-push steps s, is, append-nil (invoices_taken steps)) (once id)

-- a step that follows keeps it
pub AreOnce-keeps : (steps : List Step) (s : Step) → Follows Role.Seller steps s → AreOnce steps → AreOnce (steps ++ s ∷ [])
AreOnce-keeps steps s follows once = by_body steps s s.body refl (fits-parts Role.Seller steps s.from s.body follows.fit).due once

-- after a run of sellers, a checkout has one invoice at most
pub invoiced_once : (steps : List Step) → IsRunOf Role.Seller steps → (id : RequestId) → IsOnce id (invoices_taken steps)
invoiced_once steps run = run_has Role.Seller AreOnce AreOnce-keeps (λ id. omega arith) steps run

-- a checkout that was invoiced with these lines has them
pub invoice_lines-taken : (steps : List Step) → IsRunOf Role.Seller steps → (checkout : RequestId) (customer : ℕ) (lines : List PricedLine) → list_any (invoices_lines checkout customer lines) (taken_bodies steps) ≡ true → invoice_lines (taken_bodies steps) checkout ≡ lines
invoice_lines-taken steps run checkout customer lines any =
    let once = invoiced_once steps run checkout in
    invoice_lines-is (taken_bodies steps) checkout
    ∙ lines-found checkout (invoices_taken steps) (record { checkout = checkout; customer = customer; lines = lines }) once
    (found-for_lines checkout customer lines (invoices_taken steps) once (sym (invoices_lines-is (taken_bodies steps) checkout customer lines) ∙ any))

-- a checkout that was not invoiced has no lines
pub invoice_lines-none : (steps : List Step) (checkout : RequestId) → is_taken invoices steps checkout ≡ false → invoice_lines (taken_bodies steps) checkout ≡ []
invoice_lines-none steps checkout new = invoice_lines-is (taken_bodies steps) checkout ∙ lines-none checkout (invoices_taken steps) (sym (is_invoiced-is (taken_bodies steps) checkout) ∙ new)

-- an entry's line of its checkout's invoice, among those that it marks
one_marked : (seller : ℕ) (id : RequestId) (lines : List PricedLine) (bs : List Body) (e : SellerChange) → (same_id id e.checkout ≡ true → list_any (is_sellers seller e.line.key) lines ≡ true) → is_marked seller id lines e ≡ same_id id e.checkout
one_marked seller id lines bs e has = either (same_id id e.checkout) has
  where
    either : (b : Bool) → (b ≡ true → list_any (is_sellers seller e.line.key) lines ≡ true) → (b && list_any (is_sellers seller e.line.key) lines) ≡ b
    either true has = has refl
    either false has = refl

-- the entries of the checkout
abbrev pub is_entry_of : RequestId → SellerChange → Bool
is_entry_of id e = same_id id e.checkout

-- entries: an event that marks lines of the checkout, among which are all of its invoice
marked_all : (steps : List Step) (seller : ℕ) (id : RequestId) (st : OrderStatus) (lines : List PricedLine) → ((key : ProductKey) → list_any (is_sellers seller key) (invoice_lines (taken_bodies steps) id) ≡ true → list_any (is_sellers seller key) lines ≡ true)
    → map (set_where (is_marked seller id lines) st) (entries_now (seller_changes steps seller)) ≡ map (set_where (is_entry_of id) st) (entries_now (seller_changes steps seller))
marked_all steps seller id st lines has =
    sets_agree (from_invoice seller (taken_bodies steps)) (is_marked seller id lines) (is_entry_of id) st
    (λ e own. one_marked seller id lines (taken_bodies steps) e (λ same. has e.line.key (ap (λ c. list_any (is_sellers seller e.line.key) (invoice_lines (taken_bodies steps) c)) (same_id-true id e.checkout same) ∙ own)))
    (entries_now (seller_changes steps seller)) (entries_from_invoices steps seller)

-- entries: there is no payment of the checkout, whose entries become cancelled
pub entries_now-cancelled : (steps : List Step) (s : Step) (checkout : RequestId) (customer : ℕ) (reason : PayRule) → s.body ≡ body.Failed checkout customer reason → (seller : ℕ)
    → entries_now (seller_changes (steps ++ s ∷ []) seller) ≡ map (set_where (is_entry_of checkout) status.Cancelled) (entries_now (seller_changes steps seller))
entries_now-cancelled steps s checkout customer reason is seller =
    entries_now-step steps s seller
    ∙ ap (λ b. fold changed_by (entries_now (seller_changes steps seller)) (changes_by seller (taken_bodies steps) b)) is
    ∙ marked-sets seller checkout status.Cancelled refl (invoice_lines (taken_bodies steps) checkout) (entries_now (seller_changes steps seller))
    ∙ marked_all steps seller checkout status.Cancelled (invoice_lines (taken_bodies steps) checkout) (λ key any. any)

-- entries: the checkout was shipped
pub entries_now-shipped : (steps : List Step) (s : Step) (checkout : RequestId) → s.body ≡ body.Shipped checkout → (seller : ℕ)
    → entries_now (seller_changes (steps ++ s ∷ []) seller) ≡ map (set_where (is_entry_of checkout) status.Shipped) (entries_now (seller_changes steps seller))
entries_now-shipped steps s checkout is seller =
    entries_now-step steps s seller
    ∙ ap (λ b. fold changed_by (entries_now (seller_changes steps seller)) (changes_by seller (taken_bodies steps) b)) is
    ∙ marked-sets seller checkout status.Shipped refl (invoice_lines (taken_bodies steps) checkout) (entries_now (seller_changes steps seller))
    ∙ marked_all steps seller checkout status.Shipped (invoice_lines (taken_bodies steps) checkout) (λ key any. any)

-- one of the lines with a key that it has
keyed : (seller : ℕ) (key : ProductKey) (lines : List PricedLine) → list_any (is_sellers seller key) lines ≡ true → list_any (is_sellers seller key) (filter (λ (line : PricedLine). same_key line.key key) lines) ≡ true
keyed seller key [] any = cc
keyed seller key (l ∷ lines) any = either (same_key l.key key) refl any (λ more. keyed seller key lines more)
  where
    either : (b : Bool) → same_key l.key key ≡ b → (((l.key.seller == seller) && same_key l.key key) || list_any (is_sellers seller key) lines) ≡ true → (list_any (is_sellers seller key) lines ≡ true → list_any (is_sellers seller key) (filter (λ (line : PricedLine). same_key line.key key) lines) ≡ true)
        → list_any (is_sellers seller key) (cond (same_key l.key key) (l ∷ filter (λ (line : PricedLine). same_key line.key key) lines) (filter (λ (line : PricedLine). same_key line.key key) lines)) ≡ true
    either true same any rest = rw same (here (l.key.seller == seller) (rw same at any))
      where
        here : (b : Bool) → ((b && true) || list_any (is_sellers seller key) lines) ≡ true → ((b && same_key l.key key) || list_any (is_sellers seller key) (filter (λ (line : PricedLine). same_key line.key key) lines)) ≡ true
        here true any = rw same
        here false any = rest any
    either false other rest' rest = rw other (rest (skip (l.key.seller == seller) (rw other at rest')))
      where
        skip : (b : Bool) → ((b && false) || list_any (is_sellers seller key) lines) ≡ true → list_any (is_sellers seller key) lines ≡ true
        skip true any = any
        skip false any = any

-- lines with keys of which one is this have it
all_keyed : (seller : ℕ) (key : ProductKey) (lines : List PricedLine) → list_any (is_sellers seller key) lines ≡ true → (keys : List PricedLine) → list_any (is_sellers seller key) keys ≡ true
    → list_any (is_sellers seller key) (lines_with_keys lines (map (λ (line : PricedLine). line.key) keys)) ≡ true
all_keyed seller key lines has [] any = cc
all_keyed seller key lines has (l ∷ keys) any =
    list_any-append (is_sellers seller key) (filter (λ (line : PricedLine). same_key line.key l.key) lines) (lines_with_keys lines (map (λ (line : PricedLine). line.key) keys))
    ∙ either (same_key l.key key) refl any (λ more. all_keyed seller key lines has keys more)
  where
    either : (b : Bool) → same_key l.key key ≡ b → (((l.key.seller == seller) && same_key l.key key) || list_any (is_sellers seller key) keys) ≡ true → (list_any (is_sellers seller key) keys ≡ true → list_any (is_sellers seller key) (lines_with_keys lines (map (λ (line : PricedLine). line.key) keys)) ≡ true)
        → (list_any (is_sellers seller key) (filter (λ (line : PricedLine). same_key line.key l.key) lines) || list_any (is_sellers seller key) (lines_with_keys lines (map (λ (line : PricedLine). line.key) keys))) ≡ true
    either true same any rest =
        or_left (list_any (is_sellers seller key) (filter (λ (line : PricedLine). same_key line.key l.key) lines)) (list_any (is_sellers seller key) (lines_with_keys lines (map (λ (line : PricedLine). line.key) keys)))
        (subst (λ k. list_any (is_sellers seller key) (filter (λ (line : PricedLine). same_key line.key k) lines) ≡ true) (sym (same_key-true l.key key same)) (keyed seller key lines has))
    either false other any rest = or_right (list_any (is_sellers seller key) (filter (λ (line : PricedLine). same_key line.key l.key) lines)) (rest (skip (l.key.seller == seller) (rw other at any)))
      where
        skip : (b : Bool) → ((b && false) || list_any (is_sellers seller key) keys) ≡ true → list_any (is_sellers seller key) keys ≡ true
        skip true any = any
        skip false any = any

-- entries: the checkout's payment was taken, whose entries become paid
pub entries_now-paid : (steps : List Step) (s : Step) (checkout : RequestId) (customer : ℕ) (lines : List PricedLine) (total : ℕ) → IsRunOf Role.Seller steps → s.body ≡ body.Confirmed checkout customer lines total → seller_fits steps (body.Confirmed checkout customer lines total) ≡ true → (seller : ℕ)
    → entries_now (seller_changes (steps ++ s ∷ []) seller) ≡ map (set_where (is_entry_of checkout) status.Paid) (entries_now (seller_changes steps seller))
entries_now-paid steps s checkout customer lines total run is fit seller =
    let both = and_not (list_any (invoices_lines checkout customer lines) (taken_bodies steps)) (is_settled steps checkout) fit in
    let own = invoice_lines-taken steps run checkout customer lines both.0 in
    entries_now-step steps s seller
    ∙ ap (λ b. fold changed_by (entries_now (seller_changes steps seller)) (changes_by seller (taken_bodies steps) b)) is
    ∙ marked-sets seller checkout status.Paid refl (lines_with_keys (invoice_lines (taken_bodies steps) checkout) (map (λ (line : PricedLine). line.key) lines)) (entries_now (seller_changes steps seller))
    ∙ marked_all steps seller checkout status.Paid (lines_with_keys (invoice_lines (taken_bodies steps) checkout) (map (λ (line : PricedLine). line.key) lines))
    (λ key any. all_keyed seller key (invoice_lines (taken_bodies steps) checkout) any lines (ap (list_any (is_sellers seller key)) (sym own) ∙ any))

-- a new entry of a checkout
abbrev invoiced : RequestId → PricedLine → SellerChange
invoiced id line = record { checkout = id; line = line; status = status.Invoiced }

-- entries of other checkouts stay, where lines are invoiced
kept_given : (id : RequestId) (line : PricedLine) (es : List SellerChange) → list_all (λ (e : SellerChange). not (same_id id e.checkout)) es ≡ true → map (given (invoiced id line)) es ≡ es
kept_given id line [] all = refl
kept_given id line (e ∷ es) all =
    let both = and_both (not (same_id id e.checkout)) (list_all (λ (e : SellerChange). not (same_id id e.checkout)) es) all in
    λ i. (if not_true (same_id id e.checkout) both.0 i && same_key line.key e.line.key then record { checkout = e.checkout; line = e.line; status = status.Invoiced } else e) ∷ kept_given id line es both.1 i

-- and so do those that were just invoiced
new_given : (id : RequestId) (line : PricedLine) (ls : List PricedLine) → map (given (invoiced id line)) (map (invoiced id) ls) ≡ map (invoiced id) ls
new_given id line [] = refl
new_given id line (l ∷ ls) = either (same_entry (invoiced id line) (invoiced id l)) (new_given id line ls)
  where
    either : (b : Bool) → map (given (invoiced id line)) (map (invoiced id) ls) ≡ map (invoiced id) ls
        → (if b then record { checkout = id; line = l; status = status.Invoiced } else invoiced id l) ∷ map (given (invoiced id line)) (map (invoiced id) ls) ≡ invoiced id l ∷ map (invoiced id) ls
    either true rest = ap (λ es. invoiced id l ∷ es) rest
    either false rest = ap (λ es. invoiced id l ∷ es) rest

-- lines of a new checkout that are invoiced stand last
invoiced_all : (id : RequestId) (es : List SellerChange) → list_all (λ (e : SellerChange). not (same_id id e.checkout)) es ≡ true → (before ls : List PricedLine) → fold changed_by (es ++ map (invoiced id) before) (map (invoiced id) ls) ≡ es ++ map (invoiced id) (before ++ ls)
invoiced_all id es apart before [] = ap (λ ls. es ++ map (invoiced id) ls) (sym (append-nil before))
invoiced_all id es apart before (l ∷ ls) =
    ap (λ more. fold changed_by (more ++ invoiced id l ∷ []) (map (invoiced id) ls))
    (map-append (given (invoiced id l)) es (map (invoiced id) before) ∙ ap (λ xs. xs ++ map (given (invoiced id l)) (map (invoiced id) before)) (kept_given id l es apart) ∙ ap (λ ys. es ++ ys) (new_given id l before))
    ∙ ap (λ more. fold changed_by more (map (invoiced id) ls)) (append_assoc es (map (invoiced id) before) (invoiced id l ∷ []) ∙ ap (λ ys. es ++ ys) (sym (map-append (invoiced id) before (l ∷ []))))
    ∙ invoiced_all id es apart (before ++ l ∷ []) ls
    ∙ ap (λ more. es ++ map (invoiced id) more) (append_assoc before (l ∷ []) ls)

-- a checkout that was not invoiced has no entry
pub unentered : (steps : List Step) (seller : ℕ) (checkout : RequestId) → is_taken invoices steps checkout ≡ false → list_all (λ (e : SellerChange). not (same_id checkout e.checkout)) (entries_now (seller_changes steps seller)) ≡ true
unentered steps seller checkout new = each (entries_now (seller_changes steps seller)) (entries_from_invoices steps seller)
  where
    none : (e : SellerChange) → from_invoice seller (taken_bodies steps) e ≡ true → (b : Bool) → same_id checkout e.checkout ≡ b → same_id checkout e.checkout ≡ false
    none e own true same = cc (own, ap (λ c. list_any (is_sellers seller e.line.key) (invoice_lines (taken_bodies steps) c)) (sym (same_id-true checkout e.checkout same)), ap (list_any (is_sellers seller e.line.key)) (invoice_lines-none steps checkout new))
    none e own false other = other

    each : (es : List SellerChange) → list_all (from_invoice seller (taken_bodies steps)) es ≡ true → list_all (λ (e : SellerChange). not (same_id checkout e.checkout)) es ≡ true
    each [] all = refl
    each (e ∷ es) all =
        let both = and_both (from_invoice seller (taken_bodies steps) e) (list_all (from_invoice seller (taken_bodies steps)) es) all in
        rw (none e both.0 (same_id checkout e.checkout) refl) (each es both.1)

-- entries: the checkout was invoiced, whose lines of the seller are added
pub entries_now-invoiced : (steps : List Step) (s : Step) (checkout : RequestId) (customer : ℕ) (lines : List PricedLine) (total : ℕ) → s.body ≡ body.Invoice checkout customer lines total → is_taken invoices steps checkout ≡ false → (seller : ℕ)
    → entries_now (seller_changes (steps ++ s ∷ []) seller) ≡ entries_now (seller_changes steps seller) ++ marked seller checkout status.Invoiced lines
entries_now-invoiced steps s checkout customer lines total is new seller =
    entries_now-step steps s seller
    ∙ ap (λ b. fold changed_by (entries_now (seller_changes steps seller)) (changes_by seller (taken_bodies steps) b)) is
    ∙ ap (λ es. fold changed_by es (marked seller checkout status.Invoiced lines)) (sym (append-nil (entries_now (seller_changes steps seller))))
    ∙ invoiced_all checkout (entries_now (seller_changes steps seller)) (unentered steps seller checkout new) [] (lines_of_seller seller lines)

-- of a checkout's lines those with the item's key, where the checkout has a line of this key
item_lines : (seller : ℕ) (key own : ProductKey) (lines : List PricedLine) → list_any (is_sellers seller key) lines ≡ true → list_any (is_sellers seller key) (lines_with_keys lines (own ∷ [])) ≡ same_key own key
item_lines seller key own lines has = ap (list_any (is_sellers seller key)) (append-nil (filter (λ (line : PricedLine). same_key line.key own) lines)) ∙ either (same_key own key) refl
  where
    none : (ls : List PricedLine) → same_key own key ≡ false → list_any (is_sellers seller key) (filter (λ (line : PricedLine). same_key line.key own) ls) ≡ false
    none [] other = refl
    none (l ∷ ls) other = here (same_key l.key own) refl (none ls other)
      where
        here : (b : Bool) → same_key l.key own ≡ b → list_any (is_sellers seller key) (filter (λ (line : PricedLine). same_key line.key own) ls) ≡ false
            → list_any (is_sellers seller key) (cond (same_key l.key own) (l ∷ filter (λ (line : PricedLine). same_key line.key own) ls) (filter (λ (line : PricedLine). same_key line.key own) ls)) ≡ false
        here true same rest = rw same (rw (ap (λ k. same_key k key) (same_key-true l.key own same) ∙ other) (skip (l.key.seller == seller)))
          where
            skip : (b : Bool) → ((b && false) || list_any (is_sellers seller key) (filter (λ (line : PricedLine). same_key line.key own) ls)) ≡ false
            skip true = rest
            skip false = rest
        here false differs rest = rw differs rest

    either : (b : Bool) → same_key own key ≡ b → list_any (is_sellers seller key) (filter (λ (line : PricedLine). same_key line.key own) lines) ≡ same_key own key
    either true same = subst (λ k. list_any (is_sellers seller key) (filter (λ (line : PricedLine). same_key line.key k) lines) ≡ true) (sym (same_key-true own key same)) (keyed seller key lines has) ∙ sym same
    either false other = none lines other ∙ sym other

-- the entry stands among these items
abbrev pub is_entry_in : List Item → SellerChange → Bool
is_entry_in items e = list_any (is_item_of e.checkout e.line.key) items

-- entries: a delivery, of whose items the entries become delivered
pub entries_now-delivered : (steps : List Step) (s : Step) (items : List Item) → s.body ≡ body.Delivered items → (seller : ℕ)
    → entries_now (seller_changes (steps ++ s ∷ []) seller) ≡ map (set_where (is_entry_in items) status.Delivered) (entries_now (seller_changes steps seller))
entries_now-delivered steps s items is seller =
    entries_now-step steps s seller
    ∙ ap (λ b. fold changed_by (entries_now (seller_changes steps seller)) (changes_by seller (taken_bodies steps) b)) is
    ∙ each items (entries_now (seller_changes steps seller)) (entries_from_invoices steps seller)
  where
    own : (i : Item) (e : SellerChange) → from_invoice seller (taken_bodies steps) e ≡ true → is_marked seller i.checkout (lines_with_keys (invoice_lines (taken_bodies steps) i.checkout) (i.key ∷ [])) e ≡ is_item_of e.checkout e.line.key i
    own i e from = either (same_id i.checkout e.checkout) refl
      where
        either : (b : Bool) → same_id i.checkout e.checkout ≡ b → (same_id i.checkout e.checkout && list_any (is_sellers seller e.line.key) (lines_with_keys (invoice_lines (taken_bodies steps) i.checkout) (i.key ∷ []))) ≡ (same_id i.checkout e.checkout && same_key i.key e.line.key)
        either true same = ap (λ b. same_id i.checkout e.checkout && b) (item_lines seller e.line.key i.key (invoice_lines (taken_bodies steps) i.checkout) (ap (λ c. list_any (is_sellers seller e.line.key) (invoice_lines (taken_bodies steps) c)) (same_id-true i.checkout e.checkout same) ∙ from))
        either false other = rw other

    kept : (test : SellerChange → Bool) (es : List SellerChange) → list_all (from_invoice seller (taken_bodies steps)) es ≡ true → list_all (from_invoice seller (taken_bodies steps)) (map (set_where test status.Delivered) es) ≡ true
    kept test [] all = refl
    kept test (e ∷ es) all =
        let both = and_both (from_invoice seller (taken_bodies steps) e) (list_all (from_invoice seller (taken_bodies steps)) es) all in
        rw (one (test e) ∙ both.0) (kept test es both.1)
      where
        one : (b : Bool) → from_invoice seller (taken_bodies steps) (if b then record { checkout = e.checkout; line = e.line; status = status.Delivered } else e) ≡ from_invoice seller (taken_bodies steps) e
        one true = refl
        one false = refl

    joined : (i : Item) (items : List Item) (es : List SellerChange) → map (set_where (is_entry_in items) status.Delivered) (map (set_where (λ e. is_item_of e.checkout e.line.key i) status.Delivered) es) ≡ map (set_where (is_entry_in (i ∷ items)) status.Delivered) es
    joined i items [] = refl
    joined i items (e ∷ es) = ap₂ (λ x xs. x ∷ xs) (reads (is_item_of e.checkout e.line.key i) ∙ one (is_item_of e.checkout e.line.key i) (is_entry_in items e)) (joined i items es)
      where
        reads : (a : Bool) → set_where (is_entry_in items) status.Delivered (if a then record { checkout = e.checkout; line = e.line; status = status.Delivered } else e) ≡ set_where (λ x. is_entry_in items e) status.Delivered (if a then record { checkout = e.checkout; line = e.line; status = status.Delivered } else e)
        reads true = refl
        reads false = refl

        one : (a b : Bool) → set_where (λ x. b) status.Delivered (if a then record { checkout = e.checkout; line = e.line; status = status.Delivered } else e) ≡ (if a || b then record { checkout = e.checkout; line = e.line; status = status.Delivered } else e)
        one true true = refl
        one true false = refl
        one false b = refl

    each : (items : List Item) (es : List SellerChange) → list_all (from_invoice seller (taken_bodies steps)) es ≡ true → fold changed_by es (flat_map (item_delivered (taken_bodies steps) seller) items) ≡ map (set_where (is_entry_in items) status.Delivered) es
    each [] es all = sym (same es)
      where
        same : (es : List SellerChange) → map (set_where (is_entry_in []) status.Delivered) es ≡ es
        same [] = refl
        same (e ∷ es) = ap (λ xs. e ∷ xs) (same es)
    each (i ∷ items) es all =
        fold-append changed_by es (item_delivered (taken_bodies steps) seller i) (flat_map (item_delivered (taken_bodies steps) seller) items)
        ∙ ap (λ more. fold changed_by more (flat_map (item_delivered (taken_bodies steps) seller) items))
        (marked-sets seller i.checkout status.Delivered refl (lines_with_keys (invoice_lines (taken_bodies steps) i.checkout) (i.key ∷ [])) es
        ∙ sets_agree (from_invoice seller (taken_bodies steps)) (is_marked seller i.checkout (lines_with_keys (invoice_lines (taken_bodies steps) i.checkout) (i.key ∷ []))) (λ e. is_item_of e.checkout e.line.key i) status.Delivered (λ e from. own i e from) es all)
        ∙ each items (map (set_where (λ e. is_item_of e.checkout e.line.key i) status.Delivered) es) (kept (λ e. is_item_of e.checkout e.line.key i) es all)
        ∙ joined i items es

-- entries: any other step
pub entries_now-same : (steps : List Step) (s : Step) (seller : ℕ) → changes_by seller (taken_bodies steps) s.body ≡ [] → entries_now (seller_changes (steps ++ s ∷ []) seller) ≡ entries_now (seller_changes steps seller)
entries_now-same steps s seller none = ap entries_now (seller_changes-same steps s seller none)
