-- After a run of sellers, what was taken of a checkout came in order (in-order): an invoice first, then that it was paid for or
-- that it was not, then that it was shipped, then items.
use Rattle.std.proofs.Common.{◌≡◌, ℕ, ◌==◌, Bool, true, false, ◌&&◌, ◌||◌, List, [], ◌∷◌, ◌++◌, ◌⊎◌, inl, inr, refl, ap, sym, ◌∙◌, subst}
use Rattle.std.specs.List.{list_any, list_all}
use Rattle.std.proofs.lemmas.Bool.{or_cases}
use Rattle.std.proofs.lemmas.List.Folds.{list_any-append}
use Rattle.market_amounts.specs.declared.keys.ProductKey.{ProductKey}
use Rattle.market_amounts.specs.declared.keys.RequestId.{RequestId}
use Rattle.market_events.specs.declared.bodies.Body.{Body}
use Rattle.market_events.specs.declared.bodies.Body.TheVariants as body
use Rattle.market_events.specs.declared.bodies.PricedLine.{PricedLine}
use Rattle.market_events.specs.Orders.{is_item_of, is_taken, items_in, items_taken, ships}
use Rattle.market_events.specs.Requests.{same_id, same_key}
use Rattle.market_events.specs.declared.roles.Role.{Role}
use Rattle.market_events.specs.Services.{Follows, IsRunOf, invoices, invoices_for, invoices_lines, items_apart, is_line_of, seller_fits, seller_item_fits}
use Rattle.market_events.specs.Sellers.{invoice_lines}
use Rattle.market_events.specs.Steps.{Step, taken_bodies, same_lines}
use Rattle.market_events.specs.Stocks.{confirms, fails, settles, is_settled}
use Rattle.market_events.proofs.Values.Lists.{and_both, and_not, any_weaker, false_from, not_true, or_left, or_parts}
use Rattle.market_events.proofs.Steps.Orders.{items_taken-push}
use Rattle.market_events.proofs.Values.Same.{same_id-true}
use Rattle.market_events.proofs.Steps.Taken.{fits-parts, is_settled-is, is_settled-push, is_taken-push, run_has}
use Rattle.market_laws.proofs.Origins.Cuts.{member_of_any}
use Rattle.market_laws.proofs.Fits.CopyMembers.{member_of_all}

-- what was taken of a checkout is in order
pub record InOrder (steps : List Step) : Type 0 where
  pub invoiced : (id : RequestId) → is_settled steps id ≡ true → is_taken invoices steps id ≡ true
  pub apart : (id : RequestId) → is_taken fails steps id ≡ true → is_taken confirms steps id ≡ false
  pub paid : (id : RequestId) → is_taken ships steps id ≡ true → is_taken confirms steps id ≡ true
  pub shipped : (id : RequestId) (key : ProductKey) → list_any (is_item_of id key) (items_taken steps) ≡ true → is_taken ships steps id ≡ true

-- what was taken before a body that fits
pub record CanCome (before : List Step) (b : Body) : Type 0 where
  pub invoices_first : (id : RequestId) → invoices id b ≡ true → is_taken invoices before id ≡ false
  pub settles_later : (id : RequestId) → settles id b ≡ true → (is_taken invoices before id ≡ true) × (is_settled before id ≡ false)
  pub ships_later : (id : RequestId) → ships id b ≡ true → (is_taken confirms before id ≡ true) × (is_taken ships before id ≡ false)
  pub items_last : (id : RequestId) (key : ProductKey) → list_any (is_item_of id key) (items_in b) ≡ true → is_taken ships before id ≡ true

-- an invoice for the checkout, of whichever customer or lines
of_lines : (id : RequestId) (customer : ℕ) (lines : List PricedLine) (b : Body) → invoices_lines id customer lines b ≡ true → invoices id b ≡ true
of_lines id customer lines (body.Invoice checkout c others total) passes = (and_both (same_id checkout id) ((c == customer) && same_lines others lines) (regroup (same_id checkout id) (c == customer) (same_lines others lines) passes)).0
  where
    regroup : (x y z : Bool) → (x && y && z) ≡ true → (x && (y && z)) ≡ true
    regroup true y z all = all
    regroup false y z all = all
of_lines id customer lines other passes = cc

of_customer : (id : RequestId) (customer : ℕ) (b : Body) → invoices_for id customer b ≡ true → invoices id b ≡ true
of_customer id customer (body.Invoice checkout c lines total) passes = (and_both (same_id checkout id) (c == customer) passes).0
of_customer id customer other passes = cc

-- a body that fits
can-come : (before : List Step) (b : Body) → seller_fits before b ≡ true → CanCome before b
can-come before (body.Invoice checkout customer lines total) fit = record {
  invoices_first = λ id same. ap (is_taken invoices before) (sym (same_id-true checkout id same)) ∙ not_true (is_taken invoices before checkout) fit;
  settles_later = λ id no. cc;
  ships_later = λ id no. cc;
  items_last = λ id key no. cc;
}
can-come before (body.Confirmed checkout customer lines total) fit =
    let both = and_not (list_any (invoices_lines checkout customer lines) (taken_bodies before)) (is_settled before checkout) fit in
    let invoiced = any_weaker (invoices_lines checkout customer lines) (invoices checkout) (of_lines checkout customer lines) (taken_bodies before) both.0 in
    record {
      invoices_first = λ id no. cc;
      settles_later = λ id same. subst (λ i. (is_taken invoices before i ≡ true) × (is_settled before i ≡ false)) (same_id-true checkout id same) (invoiced, both.1);
      ships_later = λ id no. cc;
      items_last = λ id key no. cc;
    }
can-come before (body.Failed checkout customer rule) fit =
    let both = and_not (list_any (invoices_for checkout customer) (taken_bodies before)) (is_settled before checkout) fit in
    let invoiced = any_weaker (invoices_for checkout customer) (invoices checkout) (of_customer checkout customer) (taken_bodies before) both.0 in
    record {
      invoices_first = λ id no. cc;
      settles_later = λ id same. subst (λ i. (is_taken invoices before i ≡ true) × (is_settled before i ≡ false)) (same_id-true checkout id same) (invoiced, both.1);
      ships_later = λ id no. cc;
      items_last = λ id key no. cc;
    }
can-come before (body.Shipped checkout) fit =
    let both = and_not (is_taken confirms before checkout) (is_taken ships before checkout) fit in
    record {
      invoices_first = λ id no. cc;
      settles_later = λ id no. cc;
      ships_later = λ id same. subst (λ i. (is_taken confirms before i ≡ true) × (is_taken ships before i ≡ false)) (same_id-true checkout id same) both;
      items_last = λ id key no. cc;
    }
can-come before (body.Delivered items) fit =
    let both = and_both (items_apart (items_taken before) items) (list_all (seller_item_fits before) items) fit in
    record {
      invoices_first = λ id no. cc;
      settles_later = λ id no. cc;
      ships_later = λ id no. cc;
      items_last = λ id key any.
          let found = member_of_any (is_item_of id key) items any in
          let fits = member_of_all (seller_item_fits before) found.0 items both.1 found.1 in
          let shipped = (and_both (is_taken ships before found.0.checkout) (is_line_of (invoice_lines (taken_bodies before) found.0.checkout) found.0) fits).0 in
          subst (λ i. is_taken ships before i ≡ true) (same_id-true found.0.checkout id (and_both (same_id found.0.checkout id) (same_key found.0.key key) found.2).0) shipped;
    }
can-come before (body.Asked request) fit = record { invoices_first = λ id no. cc; settles_later = λ id no. cc; ships_later = λ id no. cc; items_last = λ id key no. cc }
can-come before other fit = cc

-- of a step that follows
pub comes-in-order : (before : List Step) (s : Step) → Follows Role.Seller before s → CanCome before s.body
comes-in-order before s follows = can-come before s.body (fits-parts Role.Seller before s.from s.body follows.fit).due

fails-settle : (id : RequestId) (b : Body) → fails id b ≡ true → settles id b ≡ true
fails-settle id (body.Failed checkout customer rule) passes = passes
fails-settle id other passes = cc

confirms-settle : (id : RequestId) (b : Body) → confirms id b ≡ true → settles id b ≡ true
confirms-settle id (body.Confirmed checkout customer lines total) passes = passes
confirms-settle id other passes = cc

fails-unpaid : (id : RequestId) (b : Body) → fails id b ≡ true → confirms id b ≡ false
fails-unpaid id (body.Failed checkout customer rule) passes = refl
fails-unpaid id other passes = cc

-- one more body's items
pub items_taken-more : (before : List Step) (s : Step) (id : RequestId) (key : ProductKey) → list_any (is_item_of id key) (items_taken (before ++ s ∷ [])) ≡ (list_any (is_item_of id key) (items_taken before) || list_any (is_item_of id key) (items_in s.body))
items_taken-more before s id key = ap (list_any (is_item_of id key)) (items_taken-push before s) ∙ list_any-append (is_item_of id key) (items_taken before) (items_in s.body)

-- a checkout that was not settled was neither paid for nor failed
pub unsettled : (steps : List Step) (id : RequestId) → is_settled steps id ≡ false → (is_taken fails steps id ≡ false) × (is_taken confirms steps id ≡ false)
unsettled steps id none = or_parts (is_taken fails steps id) (is_taken confirms steps id) (sym (is_settled-is steps id) ∙ none)

-- a step keeps the order
keeps : (before : List Step) (s : Step) → Follows Role.Seller before s → InOrder before → InOrder (before ++ s ∷ [])
keeps before s follows o = record { invoiced = invoiced; apart = apart; paid = paid; shipped = shipped }
  where
    can : CanCome before s.body
    can = comes-in-order before s follows

    invoiced : (id : RequestId) → is_settled (before ++ s ∷ []) id ≡ true → is_taken invoices (before ++ s ∷ []) id ≡ true
    invoiced id any = is_taken-push invoices before s id ∙ or_left (is_taken invoices before id) (invoices id s.body) (by (or_cases (is_settled before id) (settles id s.body) (sym (is_settled-push before s id) ∙ any)))
      where
        by : (is_settled before id ≡ true) ⊎ (settles id s.body ≡ true) → is_taken invoices before id ≡ true
        by (inl was) = o.invoiced id was
        by (inr now) = (can.settles_later id now).0

    apart : (id : RequestId) → is_taken fails (before ++ s ∷ []) id ≡ true → is_taken confirms (before ++ s ∷ []) id ≡ false
    apart id any = is_taken-push confirms before s id ∙ by (or_cases (is_taken fails before id) (fails id s.body) (sym (is_taken-push fails before s id) ∙ any))
      where
        by : (is_taken fails before id ≡ true) ⊎ (fails id s.body ≡ true) → (is_taken confirms before id || confirms id s.body) ≡ false
        by (inl was) =
            rw (o.apart id was)
            (false_from (confirms id s.body) (λ passes. sym (unsettled before id (can.settles_later id (confirms-settle id s.body passes)).1).0 ∙ was))
        by (inr now) = rw ((unsettled before id (can.settles_later id (fails-settle id s.body now)).1).1) (fails-unpaid id s.body now)

    paid : (id : RequestId) → is_taken ships (before ++ s ∷ []) id ≡ true → is_taken confirms (before ++ s ∷ []) id ≡ true
    paid id any = is_taken-push confirms before s id ∙ or_left (is_taken confirms before id) (confirms id s.body) (by (or_cases (is_taken ships before id) (ships id s.body) (sym (is_taken-push ships before s id) ∙ any)))
      where
        by : (is_taken ships before id ≡ true) ⊎ (ships id s.body ≡ true) → is_taken confirms before id ≡ true
        by (inl was) = o.paid id was
        by (inr now) = (can.ships_later id now).0

    shipped : (id : RequestId) (key : ProductKey) → list_any (is_item_of id key) (items_taken (before ++ s ∷ [])) ≡ true → is_taken ships (before ++ s ∷ []) id ≡ true
    shipped id key any =
        is_taken-push ships before s id
        ∙ or_left (is_taken ships before id) (ships id s.body) (by (or_cases (list_any (is_item_of id key) (items_taken before)) (list_any (is_item_of id key) (items_in s.body)) (sym (items_taken-more before s id key) ∙ any)))
      where
        by : (list_any (is_item_of id key) (items_taken before) ≡ true) ⊎ (list_any (is_item_of id key) (items_in s.body) ≡ true) → is_taken ships before id ≡ true
        by (inl was) = o.shipped id key was
        by (inr now) = can.items_last id key now

pub in-order : (steps : List Step) → IsRunOf Role.Seller steps → InOrder steps
in-order steps run = run_has Role.Seller InOrder keeps (record { invoiced = λ id no. cc; apart = λ id no. cc; paid = λ id no. cc; shipped = λ id key no. cc }) steps run
