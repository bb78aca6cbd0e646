-- The changes that an event brings, of all sellers, and those of one seller.
use Rattle.std.proofs.Common.{◌≡◌, ℕ, ◌≤◌, Bool, true, false, cond, ◌==◌, List, [], ◌∷◌, ◌++◌, Option, Some, None, find, map, filter, filter_map, length, option_map, if◌then◌else◌, refl, ap, ap₂, sym, ◌∙◌, arith, append-nil}
use Rattle.std.specs.List.{cons_option, flat_map, list_any}
use Rattle.std.specs.Option.{option_to_list}
use Rattle.std.proofs.lemmas.List.Elements.{filter-append}
use Rattle.market_amounts.specs.declared.keys.ProductKey.{ProductKey}
use Rattle.market_amounts.specs.declared.keys.RequestId.{RequestId}
use Rattle.market_events.specs.declared.bodies.Body.{Body}
use Rattle.market_events.specs.declared.bodies.Body.TheVariants as body
use Rattle.market_events.specs.declared.bodies.Item.{Item}
use Rattle.market_events.specs.declared.bodies.PricedLine.{PricedLine}
use Rattle.market_events.specs.declared.replies.OrderStatus.{OrderStatus}
use Rattle.market_events.specs.declared.replies.OrderStatus.TheVariants as status
use Rattle.market_events.specs.Requests.{same_id, same_key}
use Rattle.market_events.specs.Sellers.{SellerChange, lines_invoiced, invoice_lines, marked, lines_with_keys, item_delivered, changes_by}
use Rattle.market_events.specs.declared.roles.Role.{Role}
use Rattle.market_events.specs.Services.{IsRunOf, invoices, invoices_lines, seller_fits}
use Rattle.market_events.specs.Steps.{Step, taken_bodies}
use Rattle.market_events.specs.Stocks.{is_settled}
use Rattle.market_events.specs.Orders.{is_taken}
use Rattle.market_events.proofs.Values.Lists.{and_not, not_true}
use Rattle.market_events.proofs.Values.Same.{same_id-true, same_key-self, same_key-swap}
use Rattle.market_events.proofs.Steps.SellerChanges.{lines_of_seller, invoice_lines-push}
use Rattle.market_events.proofs.Runs.Sellers.{invoice_lines-taken, invoice_lines-none}
use Rattle.market_events.proofs.Runs.Totals.{keyed_once, invoice_lines-rise}
use Rattle.seller_service.specs.Tables.{marks, is_of_seller, all_marked, delivered_by, brought_by, lines_after}
use Rattle.seller_service.proofs.Lists.{one_found}

-- of lines that get a status, those of a seller
pub all_marked-seller : (seller : ℕ) (id : RequestId) (status : OrderStatus) (lines : List PricedLine) → filter (is_of_seller seller) (all_marked id status lines) ≡ marked seller id status lines
all_marked-seller seller id status [] = refl
all_marked-seller seller id status (l ∷ lines) = by (l.key.seller == seller) (all_marked-seller seller id status lines)
  where
    by : (b : Bool) → filter (is_of_seller seller) (all_marked id status lines) ≡ marked seller id status lines
        → cond b (marks id status l ∷ filter (is_of_seller seller) (all_marked id status lines)) (filter (is_of_seller seller) (all_marked id status lines))
        ≡ map (marks id status) (cond b (l ∷ lines_of_seller seller lines) (lines_of_seller seller lines))
    by true rest = ap (λ cs. marks id status l ∷ cs) rest
    by false rest = rest

-- the lines with this key
abbrev with_key : ProductKey → List PricedLine → List PricedLine
with_key key lines = filter (λ (line : PricedLine). same_key line.key key) lines

-- a line whose key no other one has is not among those with their keys
skipped : (l : PricedLine) (more others : List PricedLine) → with_key l.key others ≡ []
    → lines_with_keys (l ∷ more) (map (λ (line : PricedLine). line.key) others) ≡ lines_with_keys more (map (λ (line : PricedLine). line.key) others)
skipped l more [] none = refl
skipped l more (o ∷ others) none = by (same_key o.key l.key) refl none (skipped l more others)
  where
    by : (b : Bool) → same_key o.key l.key ≡ b → cond (same_key o.key l.key) (o ∷ with_key l.key others) (with_key l.key others) ≡ []
        → (with_key l.key others ≡ [] → lines_with_keys (l ∷ more) (map (λ (line : PricedLine). line.key) others) ≡ lines_with_keys more (map (λ (line : PricedLine). line.key) others))
        → cond (same_key l.key o.key) (l ∷ with_key o.key more) (with_key o.key more) ++ lines_with_keys (l ∷ more) (map (λ (line : PricedLine). line.key) others)
        ≡ with_key o.key more ++ lines_with_keys more (map (λ (line : PricedLine). line.key) others)
    by true same none rest =
        let some : o ∷ with_key l.key others ≡ [] = sym (ap (λ b. cond b (o ∷ with_key l.key others) (with_key l.key others)) same) ∙ none in cc
    by false other none rest =
        ap₂ (λ (b : Bool) (ys : List PricedLine). cond b (l ∷ with_key o.key more) (with_key o.key more) ++ ys) (same_key-swap l.key o.key ∙ other)
        (rest (sym (ap (λ b. cond b (o ∷ with_key l.key others) (with_key l.key others)) other) ∙ none))

-- lines whose keys rise are those with their own keys
pub with_own_keys : (lines : List PricedLine) → ((key : ProductKey) → length (with_key key lines) ≤ 1) → lines_with_keys lines (map (λ (line : PricedLine). line.key) lines) ≡ lines
with_own_keys [] once = refl
with_own_keys (l ∷ more) once =
    ap₂ (λ (b : Bool) (ys : List PricedLine). cond b (l ∷ with_key l.key more) (with_key l.key more) ++ ys) (same_key-self l.key) (skipped l more more none ∙ with_own_keys more later)
    ∙ ap (λ ys. (l ∷ ys) ++ more) none
  where
    no_more : (ys : List PricedLine) → length (l ∷ ys) ≤ 1 → ys ≡ []
    no_more [] few = refl
    no_more (y ∷ ys) few = absurd (omega (arith, few))

    here : length (cond (same_key l.key l.key) (l ∷ with_key l.key more) (with_key l.key more)) ≡ length (l ∷ with_key l.key more)
    here = ap (λ b. length (cond b (l ∷ with_key l.key more) (with_key l.key more))) (same_key-self l.key)

    none : with_key l.key more ≡ []
    none = no_more (with_key l.key more) (omega (arith, once l.key, here))

    later : (key : ProductKey) → length (with_key key more) ≤ 1
    later key = by (same_key l.key key) (once key)
      where
        by : (b : Bool) → length (cond b (l ∷ with_key key more) (with_key key more)) ≤ 1 → length (with_key key more) ≤ 1
        by true few = omega (arith, few)
        by false few = few

-- after a run, an invoice has a line with a key at most
key_once : (steps : List Step) → IsRunOf Role.Seller steps → (id : RequestId) (key : ProductKey) → length (with_key key (invoice_lines (taken_bodies steps) id)) ≤ 1
key_once steps run id key = keyed_once key (invoice_lines (taken_bodies steps) id) (invoice_lines-rise steps run id)

-- the line of an item, where it is of the seller
pub item-seller : (seller : ℕ) (before : List Body) (i : Item) → length (with_key i.key (invoice_lines before i.checkout)) ≤ 1
    → filter (is_of_seller seller) (option_to_list (delivered_by (invoice_lines before) i)) ≡ item_delivered before seller i
item-seller seller before i once =
    ap (filter (is_of_seller seller)) (by (find (λ (line : PricedLine). same_key line.key i.key) (invoice_lines before i.checkout)))
    ∙ all_marked-seller seller i.checkout status.Delivered (option_to_list (find (λ (line : PricedLine). same_key line.key i.key) (invoice_lines before i.checkout)))
    ∙ ap (marked seller i.checkout status.Delivered) (sym (append-nil (with_key i.key (invoice_lines before i.checkout)) ∙ one_found (λ (line : PricedLine). same_key line.key i.key) (invoice_lines before i.checkout) once))
  where
    by : (o : Option PricedLine) → option_to_list (option_map (marks i.checkout status.Delivered) o) ≡ all_marked i.checkout status.Delivered (option_to_list o)
    by None = refl
    by (Some line) = refl

-- the lines of items, those of the seller
items-seller : (seller : ℕ) (before : List Body) → ((id : RequestId) (key : ProductKey) → length (with_key key (invoice_lines before id)) ≤ 1) → (items : List Item)
    → filter (is_of_seller seller) (filter_map (delivered_by (invoice_lines before)) items) ≡ flat_map (item_delivered before seller) items
items-seller seller before once [] = refl
items-seller seller before once (i ∷ items) =
    ap (filter (is_of_seller seller)) (by (delivered_by (invoice_lines before) i))
    ∙ filter-append (is_of_seller seller) (option_to_list (delivered_by (invoice_lines before) i)) (filter_map (delivered_by (invoice_lines before)) items)
    ∙ ap₂ (λ (a b : List SellerChange). a ++ b) (item-seller seller before i (once i.checkout i.key)) (items-seller seller before once items)
  where
    by : (o : Option SellerChange) → cons_option o (filter_map (delivered_by (invoice_lines before)) items) ≡ option_to_list o ++ filter_map (delivered_by (invoice_lines before)) items
    by None = refl
    by (Some c) = refl

-- after a run, the changes of a seller among those that a body brings
pub brought-seller : (steps : List Step) → IsRunOf Role.Seller steps → (b : Body) → seller_fits steps b ≡ true → (seller : ℕ)
    → filter (is_of_seller seller) (brought_by (invoice_lines (taken_bodies steps)) b) ≡ changes_by seller (taken_bodies steps) b
brought-seller steps run (body.Invoice checkout customer lines total) fit seller = all_marked-seller seller checkout status.Invoiced lines
brought-seller steps run (body.Confirmed checkout customer lines total) fit seller =
    let both = and_not (list_any (invoices_lines checkout customer lines) (taken_bodies steps)) (is_settled steps checkout) fit in
    let own = invoice_lines-taken steps run checkout customer lines both.0 in
    all_marked-seller seller checkout status.Paid (invoice_lines (taken_bodies steps) checkout)
    ∙ ap (marked seller checkout status.Paid)
    (sym (ap (λ ls. lines_with_keys (invoice_lines (taken_bodies steps) checkout) (map (λ (line : PricedLine). line.key) ls)) (sym own)
    ∙ with_own_keys (invoice_lines (taken_bodies steps) checkout) (key_once steps run checkout)))
brought-seller steps run (body.Failed checkout customer reason) fit seller = all_marked-seller seller checkout status.Cancelled (invoice_lines (taken_bodies steps) checkout)
brought-seller steps run (body.Shipped checkout) fit seller = all_marked-seller seller checkout status.Shipped (invoice_lines (taken_bodies steps) checkout)
brought-seller steps run (body.Delivered items) fit seller = items-seller seller (taken_bodies steps) (key_once steps run) items
brought-seller steps run b fit seller = refl

-- the lines of the invoices after one more step
pub lines-after : (steps : List Step) (s : Step) (b : Body) → s.body ≡ b → seller_fits steps b ≡ true → (id : RequestId)
    → lines_after (invoice_lines (taken_bodies steps)) b id ≡ invoice_lines (taken_bodies (steps ++ s ∷ [])) id
lines-after steps s b is fit id = by b fit ∙ ap (λ b. invoice_lines (taken_bodies steps) id ++ lines_invoiced id b) (sym is) ∙ sym (invoice_lines-push steps s id)
  where
    none : invoice_lines (taken_bodies steps) id ≡ invoice_lines (taken_bodies steps) id ++ []
    none = sym (append-nil (invoice_lines (taken_bodies steps) id))

    by : (b : Body) → seller_fits steps b ≡ true → lines_after (invoice_lines (taken_bodies steps)) b id ≡ invoice_lines (taken_bodies steps) id ++ lines_invoiced id b
    by (body.Invoice checkout customer lines total) fit = at (same_id checkout id) refl
      where
        at : (c : Bool) → same_id checkout id ≡ c → (if c then lines else invoice_lines (taken_bodies steps) id) ≡ invoice_lines (taken_bodies steps) id ++ (if c then lines else [])
        at true same =
            ap (λ ys. ys ++ lines) (sym (invoice_lines-none steps id (ap (is_taken invoices steps) (sym (same_id-true checkout id same)) ∙ not_true (is_taken invoices steps checkout) fit)))
        at false other = none
    by other fit = none
