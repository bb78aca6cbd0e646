-- What one more step makes of the changes of a seller's entries.
use Rattle.std.proofs.Common.{◌≡◌, ℕ, ◌+◌, Bool, true, false, ◌==◌, List, [], ◌∷◌, ◌++◌, Option, Some, None, length, map, filter, fold, if◌then◌else◌, refl, ap, sym, ◌∙◌, append-nil, append_assoc, length-append}
use Rattle.std.specs.List.{flat_map}
use Rattle.std.specs.Option.{option_or}
use Rattle.std.proofs.lemmas.List.{map-append}
use Rattle.std.proofs.lemmas.List.Elements.{filter-append}
use Rattle.market_amounts.specs.declared.keys.RequestId.{RequestId}
use Rattle.market_events.specs.declared.bodies.Body.{Body}
use Rattle.market_events.specs.declared.bodies.Body.TheVariants as body
use Rattle.market_events.specs.declared.bodies.Item.{Item}
use Rattle.market_events.specs.declared.bodies.PricedLine.{PricedLine}
use Rattle.market_events.specs.declared.replies.OrderStatus.{OrderStatus}
use Rattle.market_events.specs.declared.replies.OrderStatus.TheVariants as status
use Rattle.market_events.specs.Sellers.{SellerChange, lines_invoiced, invoice_lines, marked, lines_with_keys, item_delivered, changes_by, changes_after, seller_changes, adds, is_invoiced, entries_at, same_entry, status_at}
use Rattle.market_events.specs.Steps.{Step, taken_bodies}
use Rattle.market_events.proofs.Steps.Copies.{last_some-push}
use Rattle.market_events.proofs.Values.Same.{same_id-self, same_key-self}
use Rattle.market_events.proofs.Steps.Taken.{taken_bodies-push}
use Rattle.market_events.proofs.Values.Lists.{flat_map-push, map-map}

-- the changes of one more event, after others
changes_after-push : (seller : ℕ) (before bs : List Body) (b : Body) → changes_after seller before (bs ++ b ∷ []) ≡ changes_after seller before bs ++ changes_by seller (before ++ bs) b
changes_after-push seller before [] b = append-nil (changes_by seller before b) ∙ ap (λ bs. changes_by seller bs b) (sym (append-nil before))
changes_after-push seller before (x ∷ bs) b =
    ap (λ cs. changes_by seller before x ++ cs) (changes_after-push seller (before ++ x ∷ []) bs b ∙ ap (λ bs'. changes_after seller (before ++ x ∷ []) bs ++ changes_by seller bs' b) (append_assoc before (x ∷ []) bs))
    ∙ sym (append_assoc (changes_by seller before x) (changes_after seller (before ++ x ∷ []) bs) (changes_by seller (before ++ x ∷ bs) b))

-- changes: those that the step's body brings stand last
pub seller_changes-push : (steps : List Step) (s : Step) (seller : ℕ) → seller_changes (steps ++ s ∷ []) seller ≡ seller_changes steps seller ++ changes_by seller (taken_bodies steps) s.body
seller_changes-push steps s seller = ap (changes_after seller []) (taken_bodies-push steps s) ∙ changes_after-push seller [] (taken_bodies steps) s.body

-- changes: a step whose body brings none
pub seller_changes-same : (steps : List Step) (s : Step) (seller : ℕ) → changes_by seller (taken_bodies steps) s.body ≡ [] → seller_changes (steps ++ s ∷ []) seller ≡ seller_changes steps seller
seller_changes-same steps s seller none = seller_changes-push steps s seller ∙ rw none (append-nil (seller_changes steps seller))

-- the point: it rises by how many changes the step's body brings
pub point-push : (steps : List Step) (s : Step) (seller : ℕ) → length (seller_changes (steps ++ s ∷ []) seller) ≡ length (seller_changes steps seller) + length (changes_by seller (taken_bodies steps) s.body)
point-push steps s seller = ap length (seller_changes-push steps s seller) ∙ length-append (seller_changes steps seller) (changes_by seller (taken_bodies steps) s.body)

-- the lines of a checkout's invoice: those of the step's body stand last
pub invoice_lines-push : (steps : List Step) (s : Step) (id : RequestId) → invoice_lines (taken_bodies (steps ++ s ∷ [])) id ≡ invoice_lines (taken_bodies steps) id ++ lines_invoiced id s.body
invoice_lines-push steps s id = ap (flat_map (lines_invoiced id)) (taken_bodies-push steps s) ∙ flat_map-push (lines_invoiced id) (taken_bodies steps) s.body

-- the lines of an invoice: a step whose body is no invoice of the checkout
pub invoice_lines-same : (steps : List Step) (s : Step) (id : RequestId) → lines_invoiced id s.body ≡ [] → invoice_lines (taken_bodies (steps ++ s ∷ [])) id ≡ invoice_lines (taken_bodies steps) id
invoice_lines-same steps s id none = invoice_lines-push steps s id ∙ rw none (append-nil (invoice_lines (taken_bodies steps) id))

-- entries: those of more changes stand last
pub entries_at-append : (changes more : List SellerChange) → entries_at (changes ++ more) ≡ entries_at changes ++ entries_at more
entries_at-append changes more = filter-append is_invoiced changes more

-- the lines of a seller
abbrev pub lines_of_seller : ℕ → List PricedLine → List PricedLine
lines_of_seller seller lines = filter (λ (line : PricedLine). line.key.seller == seller) lines

-- invoiced lines are entries, and lines with another status are none
pub entries_at-marked : (seller : ℕ) (id : RequestId) (lines : List PricedLine) → entries_at (marked seller id status.Invoiced lines) ≡ marked seller id status.Invoiced lines
entries_at-marked seller id lines = each (lines_of_seller seller lines)
  where
    each : (ls : List PricedLine) → filter is_invoiced (map (λ (line : PricedLine). record { checkout = id; line = line; status = status.Invoiced }) ls) ≡ map (λ (line : PricedLine). record { checkout = id; line = line; status = status.Invoiced }) ls
    each [] = refl
    each (l ∷ ls) = ap (λ cs. record { checkout = id; line = l; status = status.Invoiced } ∷ cs) (each ls)

-- lines that get another status are no entries
pub entries_at-marked_none : (seller : ℕ) (id : RequestId) (status : OrderStatus) → adds status ≡ false → (lines : List PricedLine) → entries_at (marked seller id status lines) ≡ []
entries_at-marked_none seller id status other lines = each (lines_of_seller seller lines)
  where
    each : (ls : List PricedLine) → filter is_invoiced (map (λ (line : PricedLine). record { checkout = id; line = line; status = status }) ls) ≡ []
    each [] = refl
    each (l ∷ ls) = rw other (each ls)

-- an event that invoices nothing adds no entry
abbrev pub invoices_none : Body → Bool
invoices_none (body.Invoice checkout customer lines total) = false
invoices_none other = true

-- the changes of an event that invoices nothing add no entry
pub entries_at-changes_by : (seller : ℕ) (before : List Body) (b : Body) → invoices_none b ≡ true → entries_at (changes_by seller before b) ≡ []
entries_at-changes_by seller before (body.Invoice checkout customer lines total) other = cc
entries_at-changes_by seller before (body.Confirmed checkout customer lines total) other = entries_at-marked_none seller checkout status.Paid refl (lines_with_keys (invoice_lines before checkout) (map (λ (line : PricedLine). line.key) lines))
entries_at-changes_by seller before (body.Failed checkout customer reason) other = entries_at-marked_none seller checkout status.Cancelled refl (invoice_lines before checkout)
entries_at-changes_by seller before (body.Shipped checkout) other = entries_at-marked_none seller checkout status.Shipped refl (invoice_lines before checkout)
entries_at-changes_by seller before (body.Delivered items) other = each items
  where
    each : (items : List Item) → entries_at (flat_map (item_delivered before seller) items) ≡ []
    each [] = refl
    each (i ∷ items) =
        entries_at-append (item_delivered before seller i) (flat_map (item_delivered before seller) items)
        ∙ ap (λ es. es ++ entries_at (flat_map (item_delivered before seller) items)) (entries_at-marked_none seller i.checkout status.Delivered refl (lines_with_keys (invoice_lines before i.checkout) (i.key ∷ [])))
        ∙ each items
entries_at-changes_by seller before b other = refl

-- an entry's last status: the last change decides, where it is of the entry
pub status_at-push : (changes : List SellerChange) (c entry : SellerChange) → status_at (changes ++ c ∷ []) entry ≡ (if same_entry c entry then Some c.status else status_at changes entry)
status_at-push changes c entry = last_some-push (λ (c : SellerChange). if same_entry c entry then Some c.status else None) changes c ∙ either (same_entry c entry)
  where
    either : (b : Bool) → option_or (if b then Some c.status else None) (status_at changes entry) ≡ (if b then Some c.status else status_at changes entry)
    either true = refl
    either false = refl

-- an entry with this status, where there is one
abbrev pub with_status : SellerChange → Option OrderStatus → SellerChange
with_status entry None = entry
with_status entry (Some status) = record { checkout = entry.checkout; line = entry.line; status = status }

-- the entries after these changes, each with its last status
abbrev pub entries_now : List SellerChange → List SellerChange
entries_now changes = map (λ (e : SellerChange). with_status e (status_at changes e)) (entries_at changes)

-- the change's status is given to its entry
abbrev pub given : SellerChange → SellerChange → SellerChange
given c entry = if same_entry c entry then record { checkout = entry.checkout; line = entry.line; status = c.status } else entry

-- entries after one more change: its entry has its status, and where it adds one this stands last
abbrev pub changed_by : List SellerChange → SellerChange → List SellerChange
changed_by entries c = map (given c) entries ++ (if is_invoiced c then c ∷ [] else [])

-- entries: one more change
pub entries_now-push : (changes : List SellerChange) (c : SellerChange) → entries_now (changes ++ c ∷ []) ≡ changed_by (entries_now changes) c
entries_now-push changes c =
    ap (map (λ (e : SellerChange). with_status e (status_at (changes ++ c ∷ []) e))) (entries_at-append changes (c ∷ []))
    ∙ map-append (λ (e : SellerChange). with_status e (status_at (changes ++ c ∷ []) e)) (entries_at changes) (entries_at (c ∷ []))
    ∙ ap (λ es. es ++ map (λ (e : SellerChange). with_status e (status_at (changes ++ c ∷ []) e)) (entries_at (c ∷ []))) (ap (λ f. map f (entries_at changes)) (λ i e. old e i) ∙ sym (map-map (λ (e : SellerChange). with_status e (status_at changes e)) (given c) (entries_at changes)))
    ∙ ap (λ es. map (given c) (entries_now changes) ++ es) (new (is_invoiced c))
  where
    set_one : (e : SellerChange) (b : Bool) (o : Option OrderStatus) → with_status e (if b then Some c.status else o) ≡ (if b then record { checkout = (with_status e o).checkout; line = (with_status e o).line; status = c.status } else with_status e o)
    set_one e true None = refl
    set_one e true (Some st) = refl
    set_one e false None = refl
    set_one e false (Some st) = refl

    unmoved : (e : SellerChange) (o : Option OrderStatus) → same_entry c (with_status e o) ≡ same_entry c e
    unmoved e None = refl
    unmoved e (Some st) = refl

    old : (e : SellerChange) → with_status e (status_at (changes ++ c ∷ []) e) ≡ given c (with_status e (status_at changes e))
    old e = ap (with_status e) (status_at-push changes c e) ∙ set_one e (same_entry c e) (status_at changes e)
        ∙ ap (λ b. if b then record { checkout = (with_status e (status_at changes e)).checkout; line = (with_status e (status_at changes e)).line; status = c.status } else with_status e (status_at changes e)) (sym (unmoved e (status_at changes e)))

    self : same_entry c c ≡ true
    self = rw (same_id-self c.checkout, same_key-self c.line.key)

    last : status_at (changes ++ c ∷ []) c ≡ Some c.status
    last = status_at-push changes c c ∙ rw self

    new : (b : Bool) → map (λ (e : SellerChange). with_status e (status_at (changes ++ c ∷ []) e)) (if b then c ∷ [] else []) ≡ (if b then c ∷ [] else [])
    new false = refl
    new true = ap (λ o. with_status c o ∷ []) last

-- entries: more changes are given in turn
pub entries_now-append : (changes more : List SellerChange) → entries_now (changes ++ more) ≡ fold changed_by (entries_now changes) more
entries_now-append changes [] = ap entries_now (append-nil changes)
entries_now-append changes (c ∷ more) =
    ap entries_now (sym (append_assoc changes (c ∷ []) more))
    ∙ entries_now-append (changes ++ c ∷ []) more
    ∙ ap (λ es. fold changed_by es more) (entries_now-push changes c)

-- entries: after one more step, its body's changes are given in turn
pub entries_now-step : (steps : List Step) (s : Step) (seller : ℕ) → entries_now (seller_changes (steps ++ s ∷ []) seller) ≡ fold changed_by (entries_now (seller_changes steps seller)) (changes_by seller (taken_bodies steps) s.body)
entries_now-step steps s seller = ap entries_now (seller_changes-push steps s seller) ∙ entries_now-append (seller_changes steps seller) (changes_by seller (taken_bodies steps) s.body)
