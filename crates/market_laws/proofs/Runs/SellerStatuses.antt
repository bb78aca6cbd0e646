-- After a run of sellers, the status of each entry is due by what was taken of its checkout and its line (statuses-due).
use Rattle.std.proofs.Common.{◌≡◌, ℕ, ◌==◌, Bool, true, false, ◌||◌, List, [], ◌∷◌, ◌++◌, map, if◌then◌else◌, refl, ap, sym, ◌∙◌, subst}
use Rattle.std.specs.List.{AllByRecursion, list_any}
use Rattle.market_amounts.specs.declared.keys.ProductKey.{ProductKey}
use Rattle.market_amounts.specs.declared.keys.RequestId.{RequestId}
use Rattle.market_events.specs.declared.bodies.Body.{Body}
use Rattle.market_events.specs.declared.bodies.Body.TheVariants as body
use Rattle.market_events.specs.declared.bodies.PricedLine.{PricedLine}
use Rattle.market_events.specs.declared.replies.OrderStatus.{OrderStatus}
use Rattle.market_events.specs.declared.replies.OrderStatus.TheVariants as status
use Rattle.market_events.specs.Orders.{is_item_of, is_taken, items_in, items_taken, ships}
use Rattle.market_events.specs.Requests.{same_id}
use Rattle.market_events.specs.Sellers.{SellerChange, changes_by, marked, seller_changes}
use Rattle.market_events.specs.declared.roles.Role.{Role}
use Rattle.market_events.specs.Services.{Follows, IsRunOf, invoices, seller_fits}
use Rattle.market_events.specs.Steps.{Step, taken_bodies}
use Rattle.market_events.specs.Stocks.{confirms, fails, is_settled, settles}
use Rattle.market_events.proofs.Values.Lists.{false_from, not_true, or_false, or_true}
use Rattle.market_events.proofs.Steps.SellerChanges.{entries_now, lines_of_seller}
use Rattle.market_events.proofs.Runs.Sellers.{is_entry_of, is_entry_in, entries_now-cancelled, entries_now-shipped, entries_now-paid, entries_now-invoiced, entries_now-delivered, entries_now-same}
use Rattle.market_events.proofs.Steps.SellerEntries.{set_where}
use Rattle.market_events.proofs.Steps.Taken.{fits-parts, is_taken-push}
use Rattle.market_laws.proofs.Growth.Members.{all-append, all-weaker}
use Rattle.market_laws.proofs.Runs.Counts.{run_with}
use Rattle.market_laws.proofs.Runs.SellerOrder.{InOrder, CanCome, comes-in-order, in-order, items_taken-more, unsettled}

-- the status by whether the checkout failed, the line was delivered, and the checkout was shipped and paid for
abbrev pub status_due : Bool → Bool → Bool → Bool → OrderStatus
status_due failed delivered shipped paid =
    if failed then status.Cancelled
    else if delivered then status.Delivered
    else if shipped then status.Shipped
    else if paid then status.Paid
    else status.Invoiced

-- that of a line of a checkout, after these steps
abbrev pub due : List Step → RequestId → ProductKey → OrderStatus
due steps id key = status_due (is_taken fails steps id) (list_any (is_item_of id key) (items_taken steps)) (is_taken ships steps id) (is_taken confirms steps id)

-- the entry has the status that is due
abbrev pub HasDue : List Step → SellerChange → Type 0
HasDue steps e = e.status ≡ due steps e.checkout e.line.key

-- by its tests
pub due-is : (steps : List Step) (id : RequestId) (key : ProductKey) (f d s p : Bool) → is_taken fails steps id ≡ f → list_any (is_item_of id key) (items_taken steps) ≡ d → is_taken ships steps id ≡ s → is_taken confirms steps id ≡ p
    → due steps id key ≡ status_due f d s p
due-is steps id key f d s p failed delivered shipped paid = λ i. status_due (failed i) (delivered i) (shipped i) (paid i)

-- what holds of each mapped element
all-mapped : {A B : Type 0} (P : A → Type 0) (Q : B → Type 0) (f : A → B) → ((x : A) → P x → Q (f x)) → (xs : List A) → AllByRecursion P xs → AllByRecursion Q (map f xs)
all-mapped P Q f each [] all = tt
all-mapped P Q f each (x ∷ xs) all = (each x all.0, all-mapped P Q f each xs all.1)

-- of marked lines each is of the checkout, with the status
pub marked-each : (P : SellerChange → Type 0) (seller : ℕ) (id : RequestId) (st : OrderStatus) → ((line : PricedLine) → P (record { checkout = id; line = line; status = st })) → (lines : List PricedLine) → AllByRecursion P (marked seller id st lines)
marked-each P seller id st each [] = tt
marked-each P seller id st each (l ∷ lines) = by (l.key.seller == seller) (marked-each P seller id st each lines)
  where
    by : (b : Bool) → AllByRecursion P (marked seller id st lines) → AllByRecursion P (map (λ (line : PricedLine). record { checkout = id; line = line; status = st }) (if b then l ∷ lines_of_seller seller lines else lines_of_seller seller lines))
    by true rest = (each l, rest)
    by false rest = rest

module _ (before : List Step) (s : Step) (run : IsRunOf Role.Seller before) (follows : Follows Role.Seller before s) where
  -- the order of what was taken before, and of the step
  o : InOrder before
  o = in-order before run

  can : CanCome before s.body
  can = comes-in-order before s follows

  -- the status that is due after the step
  abbrev later : RequestId → ProductKey → OrderStatus
  later id key = due (before ++ s ∷ []) id key

  -- the checkout that is not shipped has no line that was delivered
  undelivered : (id : RequestId) (key : ProductKey) → is_taken ships before id ≡ false → list_any (is_item_of id key) (items_taken before) ≡ false
  undelivered id key none = false_from (list_any (is_item_of id key) (items_taken before)) (λ any. sym none ∙ o.shipped id key any)

  -- one that was not paid for was not shipped
  unshipped : (id : RequestId) → is_taken confirms before id ≡ false → is_taken ships before id ≡ false
  unshipped id none = false_from (is_taken ships before id) (λ any. sym none ∙ o.paid id any)

  -- one that was paid for did not fail
  unfailed : (id : RequestId) → is_taken confirms before id ≡ true → is_taken fails before id ≡ false
  unfailed id paid = false_from (is_taken fails before id) (λ any. sym (o.apart id any) ∙ paid)

  -- one that was not invoiced was not settled
  uninvoiced : (id : RequestId) → is_taken invoices before id ≡ false → is_settled before id ≡ false
  uninvoiced id none = false_from (is_settled before id) (λ any. sym none ∙ o.invoiced id any)

  -- by the body of the step
  module _ (b : Body) (is : s.body ≡ b) where
    -- tests after the step
    flag : (test : RequestId → Body → Bool) (id : RequestId) (x y : Bool) → is_taken test before id ≡ x → test id b ≡ y → is_taken test (before ++ s ∷ []) id ≡ (x || y)
    flag test id x y was now = is_taken-push test before s id ∙ ap (λ c. is_taken test before id || test id c) is ∙ (λ i. was i || now i)

    item_flag : (id : RequestId) (key : ProductKey) (x y : Bool) → list_any (is_item_of id key) (items_taken before) ≡ x → list_any (is_item_of id key) (items_in b) ≡ y → list_any (is_item_of id key) (items_taken (before ++ s ∷ [])) ≡ (x || y)
    item_flag id key x y was now = items_taken-more before s id key ∙ ap (λ c. list_any (is_item_of id key) (items_taken before) || list_any (is_item_of id key) (items_in c)) is ∙ (λ i. was i || now i)

    -- where the body is of none of them, the same is due
    same_due : (id : RequestId) (key : ProductKey) → fails id b ≡ false → list_any (is_item_of id key) (items_in b) ≡ false → ships id b ≡ false → confirms id b ≡ false → later id key ≡ due before id key
    same_due id key failed delivered shipped paid =
        let f = is_taken fails before id in
        let d = list_any (is_item_of id key) (items_taken before) in
        let t = is_taken ships before id in
        let p = is_taken confirms before id in
        due-is (before ++ s ∷ []) id key f d t p (flag fails id f false refl failed ∙ or_false f) (item_flag id key d false refl delivered ∙ or_false d) (flag ships id t false refl shipped ∙ or_false t)
        (flag confirms id p false refl paid ∙ or_false p)

  module _ (seller : ℕ) (all : AllByRecursion (HasDue before) (entries_now (seller_changes before seller))) where
    abbrev AllDue : List SellerChange → Type 0
    AllDue entries = AllByRecursion (HasDue (before ++ s ∷ [])) entries

    -- entries of which some get a status, where this is due, and the others keep theirs, where the same is due
    set_all : (test : SellerChange → Bool) (st : OrderStatus) → ((e : SellerChange) → test e ≡ true → later e.checkout e.line.key ≡ st) → ((e : SellerChange) → test e ≡ false → later e.checkout e.line.key ≡ due before e.checkout e.line.key)
        → AllDue (map (set_where test st) (entries_now (seller_changes before seller)))
    set_all test st new old = all-mapped (HasDue before) (HasDue (before ++ s ∷ [])) (set_where test st) (λ e has. one e has (test e) refl) (entries_now (seller_changes before seller)) all
      where
        one : (e : SellerChange) → HasDue before e → (t : Bool) → test e ≡ t → HasDue (before ++ s ∷ []) (if t then record { checkout = e.checkout; line = e.line; status = st } else e)
        one e has true passes = sym (new e passes)
        one e has false passes = has ∙ sym (old e passes)

    -- all keep theirs
    keep_all : ((id : RequestId) (key : ProductKey) → later id key ≡ due before id key) → AllDue (entries_now (seller_changes before seller))
    keep_all old = all-weaker (HasDue before) (HasDue (before ++ s ∷ [])) (λ e has. has ∙ sym (old e.checkout e.line.key)) (entries_now (seller_changes before seller)) all

    -- the step keeps them due
    by_body : (b : Body) → s.body ≡ b → seller_fits before b ≡ true → AllDue (entries_now (seller_changes (before ++ s ∷ []) seller))
    by_body (body.Failed checkout customer rule) is fit =
        subst AllDue (sym (entries_now-cancelled before s checkout customer rule is seller))
        (set_all (is_entry_of checkout) status.Cancelled (λ e passes. new e passes) (λ e other. same_due b is e.checkout e.line.key other refl refl refl))
      where
        b : Body
        b = body.Failed checkout customer rule

        new : (e : SellerChange) → same_id checkout e.checkout ≡ true → later e.checkout e.line.key ≡ status.Cancelled
        new e passes =
            let id = e.checkout in
            let after = before ++ s ∷ [] in
            let none = unsettled before id (can.settles_later id (ap (settles id) is ∙ passes)).1 in
            due-is after id e.line.key true (list_any (is_item_of id e.line.key) (items_taken after)) (is_taken ships after id) (is_taken confirms after id) (flag b is fails id false true none.0 passes) refl refl refl
    by_body (body.Confirmed checkout customer lines total) is fit =
        subst AllDue (sym (entries_now-paid before s checkout customer lines total run is fit seller))
        (set_all (is_entry_of checkout) status.Paid (λ e passes. new e passes) (λ e other. same_due b is e.checkout e.line.key refl refl refl other))
      where
        b : Body
        b = body.Confirmed checkout customer lines total

        new : (e : SellerChange) → same_id checkout e.checkout ≡ true → later e.checkout e.line.key ≡ status.Paid
        new e passes =
            let id = e.checkout in
            let none = unsettled before id (can.settles_later id (ap (settles id) is ∙ passes)).1 in
            let unsent = unshipped id none.1 in
            due-is (before ++ s ∷ []) id e.line.key false false false true (flag b is fails id false false none.0 refl) (item_flag b is id e.line.key false false (undelivered id e.line.key unsent) refl)
            (flag b is ships id false false unsent refl) (flag b is confirms id false true none.1 passes)
    by_body (body.Shipped checkout) is fit =
        subst AllDue (sym (entries_now-shipped before s checkout is seller))
        (set_all (is_entry_of checkout) status.Shipped (λ e passes. new e passes) (λ e other. same_due b is e.checkout e.line.key refl refl other refl))
      where
        b : Body
        b = body.Shipped checkout

        new : (e : SellerChange) → same_id checkout e.checkout ≡ true → later e.checkout e.line.key ≡ status.Shipped
        new e passes =
            let id = e.checkout in
            let was = can.ships_later id (ap (ships id) is ∙ passes) in
            due-is (before ++ s ∷ []) id e.line.key false false true (is_taken confirms (before ++ s ∷ []) id) (flag b is fails id false false (unfailed id was.0) refl)
            (item_flag b is id e.line.key false false (undelivered id e.line.key was.1) refl) (flag b is ships id false true was.1 passes) refl
    by_body (body.Delivered items) is fit =
        subst AllDue (sym (entries_now-delivered before s items is seller))
        (set_all (is_entry_in items) status.Delivered (λ e passes. new e passes) (λ e other. same_due b is e.checkout e.line.key refl other refl refl))
      where
        b : Body
        b = body.Delivered items

        new : (e : SellerChange) → is_entry_in items e ≡ true → later e.checkout e.line.key ≡ status.Delivered
        new e passes =
            let id = e.checkout in
            let had = list_any (is_item_of id e.line.key) (items_taken before) in
            let paid = o.paid id (can.items_last id e.line.key (ap (λ c. list_any (is_item_of id e.line.key) (items_in c)) is ∙ passes)) in
            due-is (before ++ s ∷ []) id e.line.key false true (is_taken ships (before ++ s ∷ []) id) (is_taken confirms (before ++ s ∷ []) id) (flag b is fails id false false (unfailed id paid) refl)
            (item_flag b is id e.line.key had true refl passes ∙ or_true had true refl) refl refl
    by_body (body.Invoice checkout customer lines total) is fit =
        subst AllDue (sym (entries_now-invoiced before s checkout customer lines total is new seller))
        (all-append (HasDue (before ++ s ∷ [])) (entries_now (seller_changes before seller)) (marked seller checkout status.Invoiced lines) (keep_all (λ id key. same_due b is id key refl refl refl refl))
        (marked-each (HasDue (before ++ s ∷ [])) seller checkout status.Invoiced (λ line. sym (first line)) lines))
      where
        b : Body
        b = body.Invoice checkout customer lines total

        new : is_taken invoices before checkout ≡ false
        new = not_true (is_taken invoices before checkout) fit

        first : (line : PricedLine) → later checkout line.key ≡ status.Invoiced
        first line =
            let none = unsettled before checkout (uninvoiced checkout new) in
            let unsent = unshipped checkout none.1 in
            due-is (before ++ s ∷ []) checkout line.key false false false false (flag b is fails checkout false false none.0 refl) (item_flag b is checkout line.key false false (undelivered checkout line.key unsent) refl)
            (flag b is ships checkout false false unsent refl) (flag b is confirms checkout false false none.1 refl)
    by_body (body.Asked request) is fit =
        subst AllDue (sym (entries_now-same before s seller (ap (λ c. changes_by seller (taken_bodies before) c) is))) (keep_all (λ id key. same_due (body.Asked request) is id key refl refl refl refl))
    by_body other is fit = cc

-- after a run each entry has the status that is due
pub statuses-due : (steps : List Step) → IsRunOf Role.Seller steps → (seller : ℕ) → AllByRecursion (HasDue steps) (entries_now (seller_changes steps seller))
statuses-due steps run seller =
    run_with Role.Seller (λ steps. AllByRecursion (HasDue steps) (entries_now (seller_changes steps seller)))
    (λ before s run follows all. by_body before s run follows seller all s.body refl (fits-parts Role.Seller before s.from s.body follows.fit).due) tt steps run
