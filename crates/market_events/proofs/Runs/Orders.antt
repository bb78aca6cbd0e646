-- What holds of orders after a run, and their status after one more step.
use Rattle.std.proofs.Common.{◌≡◌, ◌+◌, ◌≤◌, Bool, true, false, cond, ◌&&◌, ◌||◌, List, [], ◌∷◌, ◌++◌, None, if◌then◌else◌, count_by, refl, ap, sym, subst, ◌∙◌, append-nil, arith}
use Rattle.std.specs.List.{list_any, list_all}
use Rattle.std.proofs.lemmas.List.Folds.{list_any-append}
use Rattle.std.proofs.lemmas.List.Sums.{sum_by_push}
use Rattle.market_amounts.specs.declared.keys.RequestId.{RequestId}
use Rattle.market_events.specs.declared.bodies.Body.{Body}
use Rattle.market_events.specs.declared.bodies.Body.TheVariants as body
use Rattle.market_events.specs.declared.bodies.Item.{Item}
use Rattle.market_events.specs.declared.bodies.PricedLine.{PricedLine}
use Rattle.market_events.specs.declared.links.Link.{Link}
use Rattle.market_events.specs.Formed.{body_formed, lines_formed}
use Rattle.market_events.specs.Orders.{checkouts_taken, is_of, items_in, items_taken, ships, is_taken, is_nil, order_rows, order_sums}
use Rattle.market_events.specs.Requests.{same_id}
use Rattle.market_events.specs.Services.{Role, Follows, IsRunOf, answers, order_fits, order_item_fits, is_line_of, items_apart, is_for, is_for_lines}
use Rattle.market_events.specs.Steps.{Step}
use Rattle.market_events.specs.Stocks.{Reservation, reservation_in, confirms, fails, is_settled}
use Rattle.market_events.proofs.Steps.Orders.{checkouts_taken-same, checkouts_taken-confirmed, has_order-confirmed, items_taken-push, items_taken-same, lines_of}
use Rattle.market_events.proofs.Steps.Reservations.{IsOnce, for-of, for_lines-of}
use Rattle.market_events.proofs.Values.Same.{same_id-true}
use Rattle.market_events.proofs.Steps.Taken.{is_taken-push, is_taken-same, is_settled-is, fits-parts, run_has}
use Rattle.market_events.proofs.Runs.Stock.{checkout_formed-lines}
use Rattle.market_events.proofs.Values.Lists.{and_both, or_false, or_parts, not_true, and_not, flat_map-push, count-none, any_weaker, all-any}

-- what orders answer
pub answers-order : (steps : List Step) (from : Link) (b : Body) → answers Role.Order steps from b ≡ order_rows (order_sums steps) b
unfolding answers
answers-order steps from b = refl

-- the item is of the checkout
abbrev pub is_item_for : RequestId → Item → Bool
is_item_for id i = same_id i.checkout id

-- what was taken of a checkout: an order first, then that its payment failed or was made, then that it was shipped, then items
pub record OrderIs (has failed paid shipped delivered empty : Bool) : Type 0 where
  pub unfailed : has ≡ false → failed ≡ false
  pub unpaid : has ≡ false → paid ≡ false
  pub apart : failed ≡ true → paid ≡ false
  pub paid_first : shipped ≡ true → paid ≡ true
  pub shipped_first : delivered ≡ true → shipped ≡ true
  pub some : has ≡ true → empty ≡ false

-- what was taken of this checkout
abbrev pub OrderAt : List Step → RequestId → Type 0
OrderAt steps id =
    OrderIs (list_any (is_of id) (checkouts_taken steps)) (is_taken fails steps id) (is_taken confirms steps id) (is_taken ships steps id)
    (list_any (is_item_for id) (items_taken steps)) (is_nil (lines_of (checkouts_taken steps) id))

-- what holds of orders after a run
pub record OrderRun (steps : List Step) : Type 0 where
  -- a checkout has one order at most
  pub once : (id : RequestId) → IsOnce id (checkouts_taken steps)
  pub at : (id : RequestId) → OrderAt steps id

-- a payment is taken
with_paid : (h f p s d n t : Bool) → OrderIs h f p s d n → (t ≡ true → (h ≡ true) × (f ≡ false)) → OrderIs h f (p || t) s d n
with_paid h f p s d n false is given = subst (λ p. OrderIs h f p s d n) (sym (or_false p)) is
with_paid h f p s d n true is given =
    let has = (given refl).0 in let unfailed = (given refl).1 in
    record { unfailed = is.unfailed; unpaid = λ none. cc; apart = λ failed. cc; paid_first = λ shipped. or_true p; shipped_first = is.shipped_first; some = is.some }
  where
    or_true : (a : Bool) → (a || true) ≡ true
    or_true true = refl
    or_true false = refl

-- a payment failed
with_failed : (h f p s d n t : Bool) → OrderIs h f p s d n → (t ≡ true → (h ≡ true) × (p ≡ false)) → OrderIs h (f || t) p s d n
with_failed h f p s d n false is given = subst (λ f. OrderIs h f p s d n) (sym (or_false f)) is
with_failed h f p s d n true is given =
    let has = (given refl).0 in let unpaid = (given refl).1 in
    record { unfailed = λ none. cc; unpaid = is.unpaid; apart = λ failed. unpaid; paid_first = is.paid_first; shipped_first = is.shipped_first; some = is.some }

-- a shipment is taken
with_shipped : (h f p s d n t : Bool) → OrderIs h f p s d n → (t ≡ true → p ≡ true) → OrderIs h f p (s || t) d n
with_shipped h f p s d n false is given = subst (λ s. OrderIs h f p s d n) (sym (or_false s)) is
with_shipped h f p s d n true is given = record { unfailed = is.unfailed; unpaid = is.unpaid; apart = is.apart; paid_first = λ shipped. given refl; shipped_first = λ delivered. or_true s; some = is.some }
  where
    or_true : (a : Bool) → (a || true) ≡ true
    or_true true = refl
    or_true false = refl

-- a delivery is taken
with_delivered : (h f p s d n t : Bool) → OrderIs h f p s d n → (t ≡ true → s ≡ true) → OrderIs h f p s (d || t) n
with_delivered h f p s d n false is given = subst (λ d. OrderIs h f p s d n) (sym (or_false d)) is
with_delivered h f p s d n true is given = record { unfailed = is.unfailed; unpaid = is.unpaid; apart = is.apart; paid_first = is.paid_first; shipped_first = λ delivered. given refl; some = is.some }

-- a checkout is confirmed
with_order : (h f p s d : Bool) (old new : List PricedLine) (t : Bool) → OrderIs h f p s d (is_nil old) → is_nil new ≡ false → OrderIs (h || t) f p s d (is_nil (old ++ (if t then new else [])))
with_order h f p s d old new false is some = subst (λ ls. OrderIs (h || false) f p s d (is_nil ls)) (sym (append-nil old)) (subst (λ h. OrderIs h f p s d (is_nil old)) (sym (or_false h)) is)
with_order h f p s d old new true is some = record { unfailed = λ none. is.unfailed (no_more h none); unpaid = λ none. is.unpaid (no_more h none); apart = is.apart; paid_first = is.paid_first; shipped_first = is.shipped_first; some = λ has. not_nil old }
  where
    no_more : (a : Bool) → (a || true) ≡ false → a ≡ false
    no_more true none = cc
    no_more false none = refl

    not_nil : (xs : List PricedLine) → is_nil (xs ++ new) ≡ false
    not_nil [] = some
    not_nil (x ∷ xs) = refl

-- a step that takes nothing of a checkout
same_at : (steps : List Step) (s : Step) (b : Body) → s.body ≡ b → reservation_in b ≡ None → items_in b ≡ [] → (id : RequestId) → fails id b ≡ false → confirms id b ≡ false → ships id b ≡ false → OrderAt steps id → OrderAt (steps ++ s ∷ []) id
same_at steps s b is none nothing id unfailing unconfirming unshipping at =
    rw (checkouts_taken-same steps s (ap reservation_in is ∙ none), items_taken-same steps s (ap items_in is ∙ nothing), is_taken-same fails steps s id (ap (fails id) is ∙ unfailing), is_taken-same confirms steps s id (ap (confirms id) is ∙ unconfirming), is_taken-same ships steps s id (ap (ships id) is ∙ unshipping)) at

-- a step that confirms no checkout keeps each at one order
same_once : (steps : List Step) (s : Step) (id : RequestId) → reservation_in s.body ≡ None → IsOnce id (checkouts_taken steps) → IsOnce id (checkouts_taken (steps ++ s ∷ []))
same_once steps s id none once = rw (checkouts_taken-same steps s none) once

-- lines that are well formed are some
pub lines_formed-some : (lines : List PricedLine) → lines_formed lines ≡ true → is_nil lines ≡ false
lines_formed-some [] formed = cc
lines_formed-some (line ∷ lines) formed = refl

-- each body that fits keeps it
by_body : (steps : List Step) (s : Step) (b : Body) → s.body ≡ b → order_fits steps b ≡ true → body_formed b ≡ true → OrderRun steps → OrderRun (steps ++ s ∷ [])
by_body steps s (body.Asked request) is fit formed run = record {
  once = λ id. same_once steps s id (ap reservation_in is) (run.once id);
  at = λ id. same_at steps s (body.Asked request) is refl refl id refl refl refl (run.at id);
}
by_body steps s (body.StockConfirmed checkout customer lines) is fit formed run = record {
  once = λ id. rw (checkouts_taken-confirmed steps s checkout customer lines is, sum_by_push (λ (r : Reservation). cond (is_of id r) 1 0) (checkouts_taken steps) (record { checkout = checkout; customer = customer; lines = lines })) (counted id (same_id checkout id) refl);
  at = λ id. rw (items_taken-same steps s (ap items_in is), is_taken-same fails steps s id (ap (fails id) is), is_taken-same confirms steps s id (ap (confirms id) is), is_taken-same ships steps s id (ap (ships id) is), has_order-confirmed steps s checkout customer lines is id, taken_lines id)
      (with_order (list_any (is_of id) (checkouts_taken steps)) (is_taken fails steps id) (is_taken confirms steps id) (is_taken ships steps id) (list_any (is_item_for id) (items_taken steps)) (lines_of (checkouts_taken steps) id) lines (same_id checkout id) (run.at id) (lines_formed-some lines (checkout_formed-lines checkout customer lines formed)));
}
  where
    taken_lines : (id : RequestId) → lines_of (checkouts_taken (steps ++ s ∷ [])) id ≡ lines_of (checkouts_taken steps) id ++ (if same_id checkout id then lines else [])
    taken_lines id = ap (λ rs. lines_of rs id) (checkouts_taken-confirmed steps s checkout customer lines is)
        ∙ flat_map-push (λ (r : Reservation). if is_of id r then r.lines else []) (checkouts_taken steps) (record { checkout = checkout; customer = customer; lines = lines })

    counted : (id : RequestId) (b : Bool) → same_id checkout id ≡ b → count_by (is_of id) (checkouts_taken steps) + cond (same_id checkout id) 1 0 ≤ 1
    counted id true same =
        let new : list_any (is_of id) (checkouts_taken steps) ≡ false = ap (λ id. list_any (is_of id) (checkouts_taken steps)) (sym (same_id-true checkout id same)) ∙ not_true (list_any (is_of checkout) (checkouts_taken steps)) fit in
        rw (same, count-none (is_of id) (checkouts_taken steps) new) (omega arith)
    counted id false same = rw same (omega (arith, run.once id))
by_body steps s (body.Confirmed checkout customer lines total) is fit formed run = record {
  once = λ id. same_once steps s id (ap reservation_in is) (run.once id);
  at = λ id. rw (checkouts_taken-same steps s (ap reservation_in is), items_taken-same steps s (ap items_in is), is_taken-same fails steps s id (ap (fails id) is), is_taken-push confirms steps s id, is_taken-same ships steps s id (ap (ships id) is), is)
      (with_paid (list_any (is_of id) (checkouts_taken steps)) (is_taken fails steps id) (is_taken confirms steps id) (is_taken ships steps id) (list_any (is_item_for id) (items_taken steps)) (is_nil (lines_of (checkouts_taken steps) id)) (same_id checkout id) (run.at id) (here id));
}
  where
    both : (list_any (is_for_lines checkout customer lines) (checkouts_taken steps) ≡ true) × (is_settled steps checkout ≡ false)
    both = and_not (list_any (is_for_lines checkout customer lines) (checkouts_taken steps)) (is_settled steps checkout) fit

    here : (id : RequestId) → same_id checkout id ≡ true → (list_any (is_of id) (checkouts_taken steps) ≡ true) × (is_taken fails steps id ≡ false)
    here id same = subst (λ id. (list_any (is_of id) (checkouts_taken steps) ≡ true) × (is_taken fails steps id ≡ false)) (same_id-true checkout id same) (
      any_weaker (is_for_lines checkout customer lines) (is_of checkout) (for_lines-of checkout customer lines) (checkouts_taken steps) both.0,
      (or_parts (is_taken fails steps checkout) (is_taken confirms steps checkout) (sym (is_settled-is steps checkout) ∙ both.1)).0,
    )
by_body steps s (body.Failed checkout customer reason) is fit formed run = record {
  once = λ id. same_once steps s id (ap reservation_in is) (run.once id);
  at = λ id. rw (checkouts_taken-same steps s (ap reservation_in is), items_taken-same steps s (ap items_in is), is_taken-push fails steps s id, is_taken-same confirms steps s id (ap (confirms id) is), is_taken-same ships steps s id (ap (ships id) is), is)
      (with_failed (list_any (is_of id) (checkouts_taken steps)) (is_taken fails steps id) (is_taken confirms steps id) (is_taken ships steps id) (list_any (is_item_for id) (items_taken steps)) (is_nil (lines_of (checkouts_taken steps) id)) (same_id checkout id) (run.at id) (here id));
}
  where
    both : (list_any (is_for checkout customer) (checkouts_taken steps) ≡ true) × (is_settled steps checkout ≡ false)
    both = and_not (list_any (is_for checkout customer) (checkouts_taken steps)) (is_settled steps checkout) fit

    here : (id : RequestId) → same_id checkout id ≡ true → (list_any (is_of id) (checkouts_taken steps) ≡ true) × (is_taken confirms steps id ≡ false)
    here id same = subst (λ id. (list_any (is_of id) (checkouts_taken steps) ≡ true) × (is_taken confirms steps id ≡ false)) (same_id-true checkout id same) (
      any_weaker (is_for checkout customer) (is_of checkout) (for-of checkout customer) (checkouts_taken steps) both.0,
      (or_parts (is_taken fails steps checkout) (is_taken confirms steps checkout) (sym (is_settled-is steps checkout) ∙ both.1)).1,
    )
by_body steps s (body.Shipped checkout) is fit formed run = record {
  once = λ id. same_once steps s id (ap reservation_in is) (run.once id);
  at = λ id. rw (checkouts_taken-same steps s (ap reservation_in is), items_taken-same steps s (ap items_in is), is_taken-same fails steps s id (ap (fails id) is), is_taken-same confirms steps s id (ap (confirms id) is), is_taken-push ships steps s id, is)
      (with_shipped (list_any (is_of id) (checkouts_taken steps)) (is_taken fails steps id) (is_taken confirms steps id) (is_taken ships steps id) (list_any (is_item_for id) (items_taken steps)) (is_nil (lines_of (checkouts_taken steps) id)) (same_id checkout id) (run.at id) (here id));
}
  where
    here : (id : RequestId) → same_id checkout id ≡ true → is_taken confirms steps id ≡ true
    here id same = ap (is_taken confirms steps) (sym (same_id-true checkout id same)) ∙ (and_not (is_taken confirms steps checkout) (is_taken ships steps checkout) fit).0
by_body steps s (body.Delivered items) is fit formed run = record {
  once = λ id. same_once steps s id (ap reservation_in is) (run.once id);
  at = λ id. rw (checkouts_taken-same steps s (ap reservation_in is), items_taken-push steps s, is_taken-same fails steps s id (ap (fails id) is), is_taken-same confirms steps s id (ap (confirms id) is), is_taken-same ships steps s id (ap (ships id) is), is, list_any-append (is_item_for id) (items_taken steps) items)
      (with_delivered (list_any (is_of id) (checkouts_taken steps)) (is_taken fails steps id) (is_taken confirms steps id) (is_taken ships steps id) (list_any (is_item_for id) (items_taken steps)) (is_nil (lines_of (checkouts_taken steps) id)) (list_any (is_item_for id) items) (run.at id) (here id));
}
  where
    all : list_all (order_item_fits steps) items ≡ true
    all = (and_both (items_apart (items_taken steps) items) (list_all (order_item_fits steps) items) fit).1

    here : (id : RequestId) → list_any (is_item_for id) items ≡ true → is_taken ships steps id ≡ true
    here id any = all-any (order_item_fits steps) (is_item_for id) (is_taken ships steps id ≡ true)
        (λ item passes same. ap (is_taken ships steps) (sym (same_id-true item.checkout id same)) ∙ (and_both (is_taken ships steps item.checkout) (list_any (λ (r : Reservation). is_of item.checkout r && is_line_of r.lines item) (checkouts_taken steps)) passes).0)
        items all any
by_body steps s other is fit formed run = cc

-- a step that follows keeps it
pub OrderRun-keeps : (steps : List Step) (s : Step) → Follows Role.Order steps s → OrderRun steps → OrderRun (steps ++ s ∷ [])
OrderRun-keeps steps s follows run =
    let parts = fits-parts Role.Order steps s.from s.body follows.fit in
    by_body steps s s.body refl parts.due parts.formed run

-- a run of orders has it
pub OrderRun-of : (steps : List Step) → IsRunOf Role.Order steps → OrderRun steps
OrderRun-of steps run = run_has Role.Order OrderRun OrderRun-keeps (record { once = λ id. omega arith; at = λ id. record { unfailed = λ h. refl; unpaid = λ h. refl; apart = λ h. refl; paid_first = λ h. cc; shipped_first = λ h. cc; some = λ h. cc } }) steps run
