-- After a run each change of a seller is of an entry, and a seller with changes stands in an invoice.
use Rattle.std.proofs.Common.{◌≡◌, ℕ, ◌+◌, suc, zero, Bool, true, false, cond, ◌==◌, ◌&&◌, ◌||◌, List, [], ◌∷◌, ◌++◌, Some, map, filter, if◌then◌else◌, refl, ap, ap₂, sym, subst, ◌∙◌, arith}
use Rattle.std.specs.List.{flat_map, list_any, list_all, slice_get}
use Rattle.std.proofs.lemmas.Bool.{or_parts, or_from}
use Rattle.std.proofs.lemmas.Bool.Decides.{nat_tests}
use Rattle.std.proofs.lemmas.List.Folds.{list_any-append, list_all-append}
use Rattle.market_amounts.specs.declared.keys.ProductKey.{ProductKey}
use Rattle.market_amounts.specs.declared.keys.RequestId.{RequestId}
use Rattle.market_events.specs.declared.bodies.Body.{Body}
use Rattle.market_events.specs.declared.bodies.Body.TheVariants as body
use Rattle.market_events.specs.declared.bodies.Item.{Item}
use Rattle.market_events.specs.declared.bodies.PricedLine.{PricedLine}
use Rattle.market_events.specs.declared.replies.OrderStatus.{OrderStatus}
use Rattle.market_events.specs.declared.replies.OrderStatus.TheVariants as status
use Rattle.market_events.specs.Cells.{sellers_in, entry_number}
use Rattle.market_events.specs.Requests.{same_id, same_key}
use Rattle.market_events.specs.Sellers.{SellerChange, lines_invoiced, invoice_lines, marked, lines_with_keys, item_delivered, changes_by, changes_after, seller_changes, entries_at, same_entry}
use Rattle.market_events.specs.declared.roles.Role.{Role}
use Rattle.market_events.specs.Services.{IsRunOf}
use Rattle.market_events.specs.Steps.{Step, taken_bodies}
use Rattle.market_events.proofs.Values.Lists.{and_from, and_both, or_left, or_right, flat_map-push}
use Rattle.market_events.proofs.Values.Same.{same_id-self, same_id-true, same_key-self}
use Rattle.market_events.proofs.Steps.SellerChanges.{lines_of_seller, entries_at-append, entries_at-marked, seller_changes-push, invoice_lines-push}
use Rattle.market_events.proofs.Steps.SellerEntries.{is_sellers}
use Rattle.market_events.proofs.Steps.Taken.{run_has}

-- whether the line is of the seller
abbrev pub is_line_of_seller : ℕ → PricedLine → Bool
is_line_of_seller seller line = line.key.seller == seller

-- lines of which none is of the seller bring no changes of the seller
marked_none : (seller : ℕ) (id : RequestId) (st : OrderStatus) (lines : List PricedLine) → list_any (is_line_of_seller seller) lines ≡ false → marked seller id st lines ≡ []
marked_none seller id st [] none = refl
marked_none seller id st (l ∷ lines) none =
    let parts = or_parts (l.key.seller == seller) (list_any (is_line_of_seller seller) lines) none in
    ap (λ b. map (λ (line : PricedLine). record { checkout = id; line = line; status = st }) (cond b (l ∷ lines_of_seller seller lines) (lines_of_seller seller lines))) parts.0
    ∙ marked_none seller id st lines parts.1

-- some of the lines
filtered_none : (test keep : PricedLine → Bool) (lines : List PricedLine) → list_any test lines ≡ false → list_any test (filter keep lines) ≡ false
filtered_none test keep [] none = refl
filtered_none test keep (l ∷ lines) none = let parts = or_parts (test l) (list_any test lines) none in by (keep l) parts.0 (filtered_none test keep lines parts.1)
  where
    by : (b : Bool) → test l ≡ false → list_any test (filter keep lines) ≡ false → list_any test (cond b (l ∷ filter keep lines) (filter keep lines)) ≡ false
    by true here rest = or_from (test l) (list_any test (filter keep lines)) here rest
    by false here rest = rest

keyed_none : (test : PricedLine → Bool) (lines : List PricedLine) → list_any test lines ≡ false → (keys : List ProductKey) → list_any test (lines_with_keys lines keys) ≡ false
keyed_none test lines none [] = refl
keyed_none test lines none (key ∷ keys) =
    list_any-append test (filter (λ (line : PricedLine). same_key line.key key) lines) (lines_with_keys lines keys)
    ∙ or_from (list_any test (filter (λ (line : PricedLine). same_key line.key key) lines)) (list_any test (lines_with_keys lines keys)) (filtered_none test (λ (line : PricedLine). same_key line.key key) lines none) (keyed_none test lines none keys)

-- a test of two numbers may be turned round
turned : (a b : ℕ) → (a == b) ≡ (b == a)
turned a b = grind (arith, nat_tests)

-- the seller is one of those of the lines
any_seller : (seller : ℕ) (lines : List PricedLine) → list_any (λ s. seller == s) (map (λ (line : PricedLine). line.key.seller) lines) ≡ false → list_any (is_line_of_seller seller) lines ≡ false
any_seller seller [] none = refl
any_seller seller (l ∷ lines) none =
    let parts = or_parts (seller == l.key.seller) (list_any (λ s. seller == s) (map (λ (line : PricedLine). line.key.seller) lines)) none in
    or_from (l.key.seller == seller) (list_any (is_line_of_seller seller) lines) (turned l.key.seller seller ∙ parts.0) (any_seller seller lines parts.1)

-- the lines of no invoice are of the seller
invoiced_none : (seller : ℕ) (bs : List Body) (id : RequestId) → list_any (λ s. seller == s) (flat_map sellers_in bs) ≡ false → list_any (is_line_of_seller seller) (invoice_lines bs id) ≡ false
invoiced_none seller [] id none = refl
invoiced_none seller (b ∷ bs) id none =
    let parts = or_parts (list_any (λ s. seller == s) (sellers_in b)) (list_any (λ s. seller == s) (flat_map sellers_in bs)) (sym (list_any-append (λ s. seller == s) (sellers_in b) (flat_map sellers_in bs)) ∙ none) in
    list_any-append (is_line_of_seller seller) (lines_invoiced id b) (invoice_lines bs id)
    ∙ or_from (list_any (is_line_of_seller seller) (lines_invoiced id b)) (list_any (is_line_of_seller seller) (invoice_lines bs id)) (one b parts.0) (invoiced_none seller bs id parts.1)
  where
    one : (b : Body) → list_any (λ s. seller == s) (sellers_in b) ≡ false → list_any (is_line_of_seller seller) (lines_invoiced id b) ≡ false
    one (body.Invoice checkout customer lines total) none = at (same_id checkout id)
      where
        at : (c : Bool) → list_any (is_line_of_seller seller) (if c then lines else []) ≡ false
        at true = any_seller seller lines none
        at false = refl
    one other none = refl

-- an event brings the seller no changes, where no line of an invoice is of the seller
changes_none : (seller : ℕ) (before : List Body) (b : Body) → list_any (λ s. seller == s) (flat_map sellers_in before) ≡ false → list_any (λ s. seller == s) (sellers_in b) ≡ false → changes_by seller before b ≡ []
changes_none seller before (body.Invoice checkout customer lines total) none here = marked_none seller checkout status.Invoiced lines (any_seller seller lines here)
changes_none seller before (body.Confirmed checkout customer lines total) none here =
    marked_none seller checkout status.Paid (lines_with_keys (invoice_lines before checkout) (map (λ (line : PricedLine). line.key) lines)) (keyed_none (is_line_of_seller seller) (invoice_lines before checkout) (invoiced_none seller before checkout none) (map (λ (line : PricedLine). line.key) lines))
changes_none seller before (body.Failed checkout customer reason) none here = marked_none seller checkout status.Cancelled (invoice_lines before checkout) (invoiced_none seller before checkout none)
changes_none seller before (body.Shipped checkout) none here = marked_none seller checkout status.Shipped (invoice_lines before checkout) (invoiced_none seller before checkout none)
changes_none seller before (body.Delivered items) none here = each items
  where
    each : (items : List Item) → flat_map (item_delivered before seller) items ≡ []
    each [] = refl
    each (i ∷ items) =
        ap₂ (λ (a b : List SellerChange). a ++ b)
        (marked_none seller i.checkout status.Delivered (lines_with_keys (invoice_lines before i.checkout) (i.key ∷ [])) (keyed_none (is_line_of_seller seller) (invoice_lines before i.checkout) (invoiced_none seller before i.checkout none) (i.key ∷ [])))
        (each items)
changes_none seller before other none here = refl

-- a seller that stands in no invoice has no changes
unnamed : (seller : ℕ) (before bs : List Body) → list_any (λ s. seller == s) (flat_map sellers_in before) ≡ false → list_any (λ s. seller == s) (flat_map sellers_in bs) ≡ false → changes_after seller before bs ≡ []
unnamed seller before [] none rest = refl
unnamed seller before (b ∷ bs) none rest =
    let parts = or_parts (list_any (λ s. seller == s) (sellers_in b)) (list_any (λ s. seller == s) (flat_map sellers_in bs)) (sym (list_any-append (λ s. seller == s) (sellers_in b) (flat_map sellers_in bs)) ∙ rest) in
    ap₂ (λ (a b : List SellerChange). a ++ b) (changes_none seller before b none parts.0)
    (unnamed seller (before ++ b ∷ []) bs
    (ap (list_any (λ s. seller == s)) (flat_map-push sellers_in before b) ∙ list_any-append (λ s. seller == s) (flat_map sellers_in before) (sellers_in b)
    ∙ or_from (list_any (λ s. seller == s) (flat_map sellers_in before)) (list_any (λ s. seller == s) (sellers_in b)) none parts.0) parts.1)

pub sellers_told : (steps : List Step) (seller : ℕ) → list_any (λ s. seller == s) (flat_map sellers_in (taken_bodies steps)) ≡ false → seller_changes steps seller ≡ []
sellers_told steps seller none = unnamed seller [] (taken_bodies steps) refl none

-- the change is of one of these entries
abbrev pub has_entry : List SellerChange → SellerChange → Bool
has_entry entries c = list_any (λ (e : SellerChange). same_entry e c) entries

-- the change's entry has a number, which more entries do not change
pub number_kept : (entries more : List SellerChange) (c : SellerChange) → has_entry entries c ≡ true → entry_number (entries ++ more) c ≡ entry_number entries c
number_kept [] more c has = cc
number_kept (e ∷ entries) more c has = by (same_entry e c) has (number_kept entries more c)
  where
    by : (b : Bool) → (b || has_entry entries c) ≡ true → (has_entry entries c ≡ true → entry_number (entries ++ more) c ≡ entry_number entries c)
        → (if b then 1 else 1 + entry_number (entries ++ more) c) ≡ (if b then 1 else 1 + entry_number entries c)
    by true has rest = refl
    by false has rest = ap (λ n. 1 + n) (rest has)

-- the line of a checkout is among the entries
abbrev is_entered : List SellerChange → RequestId → ProductKey → Bool
is_entered entries id key = list_any (λ (e : SellerChange). same_id e.checkout id && same_key e.line.key key) entries

-- lines that are invoiced are entries
marked_entered : (seller : ℕ) (id : RequestId) (key : ProductKey) (st : OrderStatus) (lines : List PricedLine) → list_any (is_sellers seller key) lines ≡ true → is_entered (marked seller id st lines) id key ≡ true
marked_entered seller id key st [] any = cc
marked_entered seller id key st (l ∷ lines) any = by (l.key.seller == seller) any (marked_entered seller id key st lines)
  where
    by : (b : Bool) → ((b && same_key l.key key) || list_any (is_sellers seller key) lines) ≡ true → (list_any (is_sellers seller key) lines ≡ true → is_entered (marked seller id st lines) id key ≡ true)
        → is_entered (map (λ (line : PricedLine). record { checkout = id; line = line; status = st }) (cond b (l ∷ lines_of_seller seller lines) (lines_of_seller seller lines))) id key ≡ true
    by true any rest = at (same_key l.key key) any
      where
        at : (c : Bool) → (c || list_any (is_sellers seller key) lines) ≡ true → ((same_id id id && c) || is_entered (marked seller id st lines) id key) ≡ true
        at true any = or_left (same_id id id && true) (is_entered (marked seller id st lines) id key) (and_from (same_id id id) true (same_id-self id) refl)
        at false any = or_right (same_id id id && false) (rest any)
    by false any rest = rest any

-- changes of lines that are all entered are of entries
marked_has : (seller : ℕ) (id : RequestId) (st : OrderStatus) (entries : List SellerChange) (lines : List PricedLine) → ((key : ProductKey) → list_any (is_sellers seller key) lines ≡ true → is_entered entries id key ≡ true)
    → list_all (has_entry entries) (marked seller id st lines) ≡ true
marked_has seller id st entries [] has = refl
marked_has seller id st entries (l ∷ lines) has = by (l.key.seller == seller) refl (marked_has seller id st entries lines (λ key any. has key (or_right (is_sellers seller key l) any)))
  where
    by : (b : Bool) → (l.key.seller == seller) ≡ b → list_all (has_entry entries) (marked seller id st lines) ≡ true
        → list_all (has_entry entries) (map (λ (line : PricedLine). record { checkout = id; line = line; status = st }) (cond b (l ∷ lines_of_seller seller lines) (lines_of_seller seller lines))) ≡ true
    by true own rest =
        and_from (is_entered entries id l.key) (list_all (has_entry entries) (marked seller id st lines))
        (has l.key (or_left (is_sellers seller l.key l) (list_any (is_sellers seller l.key) lines) (and_from (l.key.seller == seller) (same_key l.key l.key) own (same_key-self l.key)))) rest
    by false other rest = rest

-- what is among some of the lines is among all
any_filtered : (test keep : PricedLine → Bool) (lines : List PricedLine) → list_any test (filter keep lines) ≡ true → list_any test lines ≡ true
any_filtered test keep [] any = any
any_filtered test keep (l ∷ lines) any = by (keep l) any (any_filtered test keep lines)
  where
    by : (b : Bool) → list_any test (cond b (l ∷ filter keep lines) (filter keep lines)) ≡ true → (list_any test (filter keep lines) ≡ true → list_any test lines ≡ true) → (test l || list_any test lines) ≡ true
    by true any rest = at (test l) any
      where
        at : (c : Bool) → (c || list_any test (filter keep lines)) ≡ true → (c || list_any test lines) ≡ true
        at true any = refl
        at false any = rest any
    by false any rest = or_right (test l) (rest any)

any_keyed : (test : PricedLine → Bool) (lines : List PricedLine) (keys : List ProductKey) → list_any test (lines_with_keys lines keys) ≡ true → list_any test lines ≡ true
any_keyed test lines [] any = cc
any_keyed test lines (key ∷ keys) any =
    by (list_any test (filter (λ (line : PricedLine). same_key line.key key) lines)) refl (sym (list_any-append test (filter (λ (line : PricedLine). same_key line.key key) lines) (lines_with_keys lines keys)) ∙ any)
    (λ rest. any_keyed test lines keys rest)
  where
    by : (b : Bool) → list_any test (filter (λ (line : PricedLine). same_key line.key key) lines) ≡ b → (list_any test (filter (λ (line : PricedLine). same_key line.key key) lines) || list_any test (lines_with_keys lines keys)) ≡ true
        → (list_any test (lines_with_keys lines keys) ≡ true → list_any test lines ≡ true) → list_any test lines ≡ true
    by true here any rest = any_filtered test (λ (line : PricedLine). same_key line.key key) lines here
    by false none any rest = rest (sym (ap (λ b. b || list_any test (lines_with_keys lines keys)) none) ∙ any)

-- what holds of a seller after a run: an invoice's line is an entry, and each change is of an entry
pub record IsEntered (seller : ℕ) (steps : List Step) : Type 0 where
  pub lines : (id : RequestId) (key : ProductKey) → list_any (is_sellers seller key) (invoice_lines (taken_bodies steps) id) ≡ true → is_entered (entries_at (seller_changes steps seller)) id key ≡ true
  pub changes : list_all (has_entry (entries_at (seller_changes steps seller))) (seller_changes steps seller) ≡ true

-- changes of more entries
has_more : (entries more cs : List SellerChange) → list_all (has_entry entries) cs ≡ true → list_all (has_entry (entries ++ more)) cs ≡ true
has_more entries more [] all = refl
has_more entries more (c ∷ cs) all =
    let both = and_both (has_entry entries c) (list_all (has_entry entries) cs) all in
    and_from (has_entry (entries ++ more) c) (list_all (has_entry (entries ++ more)) cs)
    (list_any-append (λ (e : SellerChange). same_entry e c) entries more ∙ or_left (has_entry entries c) (has_entry more c) both.0) (has_more entries more cs both.1)

module _ (seller : ℕ) (steps : List Step) (was : IsEntered seller steps) where
  -- the changes that an event brings are of entries, new ones included
  brought_has : (b : Body) → list_all (has_entry (entries_at (seller_changes steps seller) ++ entries_at (changes_by seller (taken_bodies steps) b))) (changes_by seller (taken_bodies steps) b) ≡ true
  brought_has (body.Invoice checkout customer lines total) =
      marked_has seller checkout status.Invoiced (entries_at (seller_changes steps seller) ++ entries_at (marked seller checkout status.Invoiced lines)) lines (λ key any.
      list_any-append (λ (e : SellerChange). same_id e.checkout checkout && same_key e.line.key key) (entries_at (seller_changes steps seller)) (entries_at (marked seller checkout status.Invoiced lines))
      ∙ or_right (is_entered (entries_at (seller_changes steps seller)) checkout key) (ap (λ es. is_entered es checkout key) (entries_at-marked seller checkout lines) ∙ marked_entered seller checkout key status.Invoiced lines any))
  brought_has (body.Confirmed checkout customer lines total) =
      has_more (entries_at (seller_changes steps seller)) _ (changes_by seller (taken_bodies steps) (body.Confirmed checkout customer lines total))
      (marked_has seller checkout status.Paid (entries_at (seller_changes steps seller)) (lines_with_keys (invoice_lines (taken_bodies steps) checkout) (map (λ (line : PricedLine). line.key) lines))
      (λ key any. was.lines checkout key (any_keyed (is_sellers seller key) (invoice_lines (taken_bodies steps) checkout) (map (λ (line : PricedLine). line.key) lines) any)))
  brought_has (body.Failed checkout customer reason) =
      has_more (entries_at (seller_changes steps seller)) _ (changes_by seller (taken_bodies steps) (body.Failed checkout customer reason))
      (marked_has seller checkout status.Cancelled (entries_at (seller_changes steps seller)) (invoice_lines (taken_bodies steps) checkout) (λ key any. was.lines checkout key any))
  brought_has (body.Shipped checkout) =
      has_more (entries_at (seller_changes steps seller)) _ (changes_by seller (taken_bodies steps) (body.Shipped checkout))
      (marked_has seller checkout status.Shipped (entries_at (seller_changes steps seller)) (invoice_lines (taken_bodies steps) checkout) (λ key any. was.lines checkout key any))
  brought_has (body.Delivered items) =
      has_more (entries_at (seller_changes steps seller)) _ (changes_by seller (taken_bodies steps) (body.Delivered items)) (each items)
    where
      each : (items : List Item) → list_all (has_entry (entries_at (seller_changes steps seller))) (flat_map (item_delivered (taken_bodies steps) seller) items) ≡ true
      each [] = refl
      each (i ∷ items) =
          list_all-append (has_entry (entries_at (seller_changes steps seller))) (item_delivered (taken_bodies steps) seller i) (flat_map (item_delivered (taken_bodies steps) seller) items)
          ∙ and_from (list_all (has_entry (entries_at (seller_changes steps seller))) (item_delivered (taken_bodies steps) seller i)) (list_all (has_entry (entries_at (seller_changes steps seller))) (flat_map (item_delivered (taken_bodies steps) seller) items))
          (marked_has seller i.checkout status.Delivered (entries_at (seller_changes steps seller)) (lines_with_keys (invoice_lines (taken_bodies steps) i.checkout) (i.key ∷ []))
          (λ key any. was.lines i.checkout key (any_keyed (is_sellers seller key) (invoice_lines (taken_bodies steps) i.checkout) (i.key ∷ []) any)))
          (each items)
  brought_has other = refl

  -- the lines that an event invoices are entries
  invoiced_entered : (b : Body) (id : RequestId) (key : ProductKey) → list_any (is_sellers seller key) (lines_invoiced id b) ≡ true → is_entered (entries_at (changes_by seller (taken_bodies steps) b)) id key ≡ true
  invoiced_entered (body.Invoice checkout customer lines total) id key any = at (same_id checkout id) refl any
    where
      at : (c : Bool) → same_id checkout id ≡ c → list_any (is_sellers seller key) (if c then lines else []) ≡ true → is_entered (entries_at (marked seller checkout status.Invoiced lines)) id key ≡ true
      at true same any =
          subst (λ id. is_entered (entries_at (marked seller checkout status.Invoiced lines)) id key ≡ true) (same_id-true checkout id same)
          (ap (λ es. is_entered es checkout key) (entries_at-marked seller checkout lines) ∙ marked_entered seller checkout key status.Invoiced lines any)
      at false other any = cc
  invoiced_entered other id key any = cc

-- a step keeps it
entered_keeps : (seller : ℕ) (steps : List Step) (s : Step) → IsEntered seller steps → IsEntered seller (steps ++ s ∷ [])
entered_keeps seller steps s was = record {
  lines = λ id key any.
      ap (λ es. is_entered es id key) entries
      ∙ list_any-append (λ (e : SellerChange). same_id e.checkout id && same_key e.line.key key) (entries_at (seller_changes steps seller)) (entries_at (changes_by seller (taken_bodies steps) s.body))
      ∙ by id key (list_any (is_sellers seller key) (invoice_lines (taken_bodies steps) id)) refl
      (sym (ap (list_any (is_sellers seller key)) (invoice_lines-push steps s id) ∙ list_any-append (is_sellers seller key) (invoice_lines (taken_bodies steps) id) (lines_invoiced id s.body)) ∙ any);
  changes =
      (λ i. list_all (has_entry (entries i)) (seller_changes-push steps s seller i))
      ∙ list_all-append (has_entry (entries_at (seller_changes steps seller) ++ entries_at (changes_by seller (taken_bodies steps) s.body))) (seller_changes steps seller) (changes_by seller (taken_bodies steps) s.body)
      ∙ and_from (list_all (has_entry (entries_at (seller_changes steps seller) ++ entries_at (changes_by seller (taken_bodies steps) s.body))) (seller_changes steps seller))
      (list_all (has_entry (entries_at (seller_changes steps seller) ++ entries_at (changes_by seller (taken_bodies steps) s.body))) (changes_by seller (taken_bodies steps) s.body))
      (has_more (entries_at (seller_changes steps seller)) (entries_at (changes_by seller (taken_bodies steps) s.body)) (seller_changes steps seller) was.changes) (brought_has seller steps was s.body);
}
  where
    entries : entries_at (seller_changes (steps ++ s ∷ []) seller) ≡ entries_at (seller_changes steps seller) ++ entries_at (changes_by seller (taken_bodies steps) s.body)
    entries = ap entries_at (seller_changes-push steps s seller) ∙ entries_at-append (seller_changes steps seller) (changes_by seller (taken_bodies steps) s.body)

    by : (id : RequestId) (key : ProductKey) (b : Bool) → list_any (is_sellers seller key) (invoice_lines (taken_bodies steps) id) ≡ b
        → (list_any (is_sellers seller key) (invoice_lines (taken_bodies steps) id) || list_any (is_sellers seller key) (lines_invoiced id s.body)) ≡ true
        → (is_entered (entries_at (seller_changes steps seller)) id key || is_entered (entries_at (changes_by seller (taken_bodies steps) s.body)) id key) ≡ true
    by id key true here any =
        or_left (is_entered (entries_at (seller_changes steps seller)) id key) (is_entered (entries_at (changes_by seller (taken_bodies steps) s.body)) id key) (was.lines id key here)
    by id key false none any =
        or_right (is_entered (entries_at (seller_changes steps seller)) id key)
        (invoiced_entered seller steps was s.body id key (sym (ap (λ b. b || list_any (is_sellers seller key) (lines_invoiced id s.body)) none) ∙ any))

-- after a run of sellers, it holds of each seller
pub entered : (seller : ℕ) (steps : List Step) → IsRunOf Role.Seller steps → IsEntered seller steps
entered seller steps run =
    run_has Role.Seller (IsEntered seller) (λ steps s follows was. entered_keeps seller steps s was) (record { lines = λ id key any. none any; changes = refl }) steps run
  where
    none : false ≡ true → false ≡ true
    none e = e

-- what all pass, each at its place passes
pub all_at : (test : SellerChange → Bool) (cs : List SellerChange) (i : ℕ) (c : SellerChange) → list_all test cs ≡ true → slice_get cs i ≡ Some c → test c ≡ true
all_at test [] i c all is = cc
all_at test (x ∷ cs) zero c all is =
    let both = and_both (test x) (list_all test cs) all in
    let same : x ≡ c = some_same x c is in ap test (sym same) ∙ both.0
  where
    some_same : (x y : SellerChange) → Some x ≡ Some y → x ≡ y
    some_same x y e = cc
all_at test (x ∷ cs) (suc i) c all is = all_at test cs i c (and_both (test x) (list_all test cs) all).1 is
