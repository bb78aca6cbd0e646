-- After a run of sellers, a seller's point is the sum of what each body that was taken weighs (point-weighed): the lines of an
-- invoice and of a payment, those of a checkout that failed or was shipped, and the items of a delivery.
use Rattle.std.proofs.Common.{◌≡◌, ℕ, ◌==◌, Bool, true, false, cond, List, [], ◌∷◌, ◌++◌, length, map, filter, if◌then◌else◌, sum_by, count_by, inl, inr, refl, ap, sym, ◌∙◌, append-nil, arith, length-append}
use Rattle.std.specs.List.{flat_map, list_any, list_all}
use Rattle.std.proofs.lemmas.List.{length-map}
use Rattle.std.proofs.lemmas.List.Sums.{sum_by-cons}
use Rattle.market_amounts.specs.declared.keys.ProductKey.{ProductKey}
use Rattle.market_amounts.specs.declared.keys.RequestId.{RequestId}
use Rattle.market_events.specs.declared.bodies.Body.{Body}
use Rattle.market_events.specs.declared.bodies.Body.TheVariants as body
use Rattle.market_events.specs.declared.bodies.Item.{Item}
use Rattle.market_events.specs.declared.bodies.PricedLine.{PricedLine}
use Rattle.market_events.specs.declared.replies.OrderStatus.{OrderStatus}
use Rattle.market_events.specs.declared.replies.OrderStatus.TheVariants as status
use Rattle.market_events.specs.Orders.{is_taken, items_taken, ships}
use Rattle.market_events.specs.Requests.{same_id, same_key}
use Rattle.market_events.specs.Sellers.{SellerChange, changes_by, invoice_lines, item_delivered, lines_invoiced, lines_with_keys, marked, seller_changes}
use Rattle.market_events.specs.declared.roles.Role.{Role}
use Rattle.market_events.specs.Services.{Follows, IsRunOf, invoices, invoices_lines, is_line_of, items_apart, seller_fits, seller_item_fits}
use Rattle.market_events.specs.Steps.{Step, taken_bodies}
use Rattle.market_events.specs.Stocks.{fails, is_confirmed, is_settled}
use Rattle.market_events.specs.WellFormed.{keys_rise}
use Rattle.market_events.proofs.Values.Lists.{and_both, and_not, not_true, or_left, or_true}
use Rattle.market_events.proofs.Values.Same.{same_id-true, same_id-self, same_key-true, same_key-self, same_key-swap}
use Rattle.market_events.proofs.Steps.SellerChanges.{invoice_lines-same, lines_of_seller, point-push}
use Rattle.market_events.proofs.Runs.Sellers.{invoice_lines-taken}
use Rattle.market_events.proofs.Steps.Taken.{fits-parts, is_settled-is, is_taken-push}
use Rattle.market_events.proofs.Runs.Totals.{invoice_lines-rise}
use Rattle.market_history.specs.Book.{lines_for}
use Rattle.market_laws.specs.Runs.{Member}
use Rattle.market_laws.proofs.Origins.Cuts.{member_of_any}
use Rattle.market_laws.proofs.Settled.Passing.{single}
use Rattle.market_laws.proofs.Runs.Counts.{run_with, sum_taken-push}
use Rattle.market_laws.proofs.Runs.SellerEntries.{keys-once}
use Rattle.market_laws.proofs.Runs.SellerOrder.{CanCome, comes-in-order, in-order}

-- how many of the lines are the seller's
abbrev pub own_lines : ℕ → List PricedLine → ℕ
own_lines seller lines = length (lines_for seller lines)

-- how many changes of the seller a body brings, where the checkouts have these lines
abbrev pub weight : ℕ → (RequestId → List PricedLine) → Body → ℕ
weight seller lines_at (body.Invoice checkout customer lines total) = own_lines seller lines
weight seller lines_at (body.Confirmed checkout customer lines total) = own_lines seller lines
weight seller lines_at (body.Failed checkout customer rule) = own_lines seller (lines_at checkout)
weight seller lines_at (body.Shipped checkout) = own_lines seller (lines_at checkout)
weight seller lines_at (body.Delivered items) = count_by (λ (i : Item). i.key.seller == seller) items
weight seller lines_at other = 0

marked-length : (seller : ℕ) (id : RequestId) (st : OrderStatus) (lines : List PricedLine) → length (marked seller id st lines) ≡ own_lines seller lines
marked-length seller id st lines = length-map {B = SellerChange} (lines_of_seller seller lines) (λ (line : PricedLine). record { checkout = id; line = line; status = st })

-- in rising lines a line is the one of its key
line-alone : (lines : List PricedLine) → keys_rise lines ≡ true → (line : PricedLine) (key : ProductKey) → Member line lines → line.key ≡ key → filter (λ (m : PricedLine). same_key m.key key) lines ≡ line ∷ []
line-alone lines rise line key here same =
    single (λ (m : PricedLine). same_key m.key key) line lines
    (ap (λ t. count_by t lines) (λ i m. same_key-swap m.key key i) ∙ ap (λ k. count_by (λ (m : PricedLine). same_key k m.key) lines) (sym same) ∙ keys-once line lines rise here) here
    (ap (λ k. same_key k key) same ∙ same_key-self key)

-- so the lines with the keys of rising lines are these lines
pub own-keys : (lines : List PricedLine) → keys_rise lines ≡ true → lines_with_keys lines (map (λ (line : PricedLine). line.key) lines) ≡ lines
own-keys lines rise = each lines (λ line here. line-alone lines rise line line.key here refl)
  where
    each : (ls : List PricedLine) → ((line : PricedLine) → Member line ls → filter (λ (m : PricedLine). same_key m.key line.key) lines ≡ line ∷ []) → lines_with_keys lines (map (λ (line : PricedLine). line.key) ls) ≡ ls
    each [] alone = refl
    each (l ∷ ls) alone = λ i. alone l (inl refl) i ++ each ls (λ line here. alone line (inr here)) i

-- an item of rising lines brings its seller one change
item-weighed : (seller : ℕ) (lines : List PricedLine) (item : Item) → keys_rise lines ≡ true → is_line_of lines item ≡ true
    → length (marked seller item.checkout status.Delivered (lines_with_keys lines (item.key ∷ []))) ≡ cond (item.key.seller == seller) 1 0
item-weighed seller lines item rise any =
    let found = member_of_any (λ (line : PricedLine). same_key line.key item.key) lines any in
    let same = same_key-true found.0.key item.key found.2 in
    let kept = filter (λ (m : PricedLine). same_key m.key item.key) lines in
    marked-length seller item.checkout status.Delivered (lines_with_keys lines (item.key ∷ []))
    ∙ ap (own_lines seller) (append-nil kept ∙ line-alone lines rise found.0 item.key found.1 same)
    ∙ ap (λ (k : ProductKey). length (cond (k.seller == seller) (found.0 ∷ []) [])) same
    ∙ by found.0 (item.key.seller == seller)
  where
    by : (line : PricedLine) (b : Bool) → length (cond b (line ∷ []) []) ≡ cond b 1 0
    by line true = refl
    by line false = refl

-- where the lines of each checkout that was invoiced are these, what was taken weighs as much as there are changes
abbrev Weighs : ℕ → List Step → Type 0
Weighs seller steps =
    (lines_at : RequestId → List PricedLine) → ((id : RequestId) → is_taken invoices steps id ≡ true → invoice_lines (taken_bodies steps) id ≡ lines_at id)
    → length (seller_changes steps seller) ≡ sum_by (weight seller lines_at) (taken_bodies steps)

module _ (seller : ℕ) (before : List Step) (s : Step) (run : IsRunOf Role.Seller before) (follows : Follows Role.Seller before s) where
  -- a checkout that was invoiced keeps its lines
  lines-stay : (id : RequestId) → is_taken invoices before id ≡ true → invoice_lines (taken_bodies (before ++ s ∷ [])) id ≡ invoice_lines (taken_bodies before) id
  lines-stay id was = invoice_lines-same before s id (by s.body (fits-parts Role.Seller before s.from s.body follows.fit).due)
    where
      by : (b : Body) → seller_fits before b ≡ true → lines_invoiced id b ≡ []
      by (body.Invoice checkout customer lines total) fit = one (same_id checkout id) refl
        where
          one : (t : Bool) → same_id checkout id ≡ t → (if t then lines else []) ≡ []
          one true same =
              let new : is_taken invoices before id ≡ false = ap (is_taken invoices before) (sym (same_id-true checkout id same)) ∙ not_true (is_taken invoices before checkout) fit in
              cc
          one false differs = refl
      by other fit = refl

  -- and stays invoiced
  invoice-stays : (id : RequestId) → is_taken invoices before id ≡ true → is_taken invoices (before ++ s ∷ []) id ≡ true
  invoice-stays id was = is_taken-push invoices before s id ∙ or_left (is_taken invoices before id) (invoices id s.body) was

  module _ (lines_at : RequestId → List PricedLine) (same : (id : RequestId) → is_taken invoices before id ≡ true → invoice_lines (taken_bodies before) id ≡ lines_at id) where
    -- the lines of a checkout that was invoiced
    lines-weighed : (id : RequestId) (st : OrderStatus) → is_taken invoices before id ≡ true → length (marked seller id st (invoice_lines (taken_bodies before) id)) ≡ own_lines seller (lines_at id)
    lines-weighed id st was = marked-length seller id st (invoice_lines (taken_bodies before) id) ∙ ap (own_lines seller) (same id was)

    items-weighed : (items : List Item) → list_all (seller_item_fits before) items ≡ true → length (flat_map (item_delivered (taken_bodies before) seller) items) ≡ count_by (λ (i : Item). i.key.seller == seller) items
    items-weighed [] all = refl
    items-weighed (i ∷ items) all =
        let both = and_both (seller_item_fits before i) (list_all (seller_item_fits before) items) all in
        let line = (and_both (is_taken ships before i.checkout) (is_line_of (invoice_lines (taken_bodies before) i.checkout) i) both.0).1 in
        let one = item-weighed seller (invoice_lines (taken_bodies before) i.checkout) i (invoice_lines-rise before run i.checkout) line in
        omega (
          arith,
          one,
          items-weighed items both.1,
          length-append (item_delivered (taken_bodies before) seller i) (flat_map (item_delivered (taken_bodies before) seller) items),
          sum_by-cons (λ (i : Item). cond (i.key.seller == seller) 1 0) i items,
        )

    step-weighed : (b : Body) → seller_fits before b ≡ true → CanCome before b → length (changes_by seller (taken_bodies before) b) ≡ weight seller lines_at b
    step-weighed (body.Invoice checkout customer lines total) fit can = marked-length seller checkout status.Invoiced lines
    step-weighed (body.Confirmed checkout customer lines total) fit can =
        let both = and_not (list_any (invoices_lines checkout customer lines) (taken_bodies before)) (is_settled before checkout) fit in
        let own = invoice_lines-taken before run checkout customer lines both.0 in
        let rise : keys_rise lines ≡ true = ap keys_rise (sym own) ∙ invoice_lines-rise before run checkout in
        marked-length seller checkout status.Paid (lines_with_keys (invoice_lines (taken_bodies before) checkout) (map (λ (line : PricedLine). line.key) lines))
        ∙ ap (λ ls. own_lines seller (lines_with_keys ls (map (λ (line : PricedLine). line.key) lines))) own ∙ ap (own_lines seller) (own-keys lines rise)
    step-weighed (body.Failed checkout customer rule) fit can = lines-weighed checkout status.Cancelled (can.settles_later checkout (same_id-self checkout)).0
    step-weighed (body.Shipped checkout) fit can =
        let paid = (can.ships_later checkout (same_id-self checkout)).0 in
        lines-weighed checkout status.Shipped ((in-order before run).invoiced checkout (is_settled-is before checkout ∙ or_true (is_taken fails before checkout) (is_confirmed before checkout) paid))
    step-weighed (body.Delivered items) fit can = items-weighed items (and_both (items_apart (items_taken before) items) (list_all (seller_item_fits before) items) fit).1
    step-weighed other fit can = refl

pub point-weighed : (seller : ℕ) (steps : List Step) → IsRunOf Role.Seller steps → length (seller_changes steps seller) ≡ sum_by (weight seller (invoice_lines (taken_bodies steps))) (taken_bodies steps)
point-weighed seller steps run = run_with Role.Seller (Weighs seller) keeps (λ lines_at same. refl) steps run (invoice_lines (taken_bodies steps)) (λ id was. refl)
  where
    keeps : (before : List Step) (s : Step) → IsRunOf Role.Seller before → Follows Role.Seller before s → Weighs seller before → Weighs seller (before ++ s ∷ [])
    keeps before s run follows rest lines_at same =
        let earlier : (id : RequestId) → is_taken invoices before id ≡ true → invoice_lines (taken_bodies before) id ≡ lines_at id =
        λ id was. sym (lines-stay seller before s run follows id was) ∙ same id (invoice-stays seller before s run follows id was) in
        let one = step-weighed seller before s run follows lines_at earlier s.body (fits-parts Role.Seller before s.from s.body follows.fit).due (comes-in-order before s follows) in
        omega (arith, rest lines_at earlier, one, point-push before s seller, sum_taken-push (weight seller lines_at) before s)
