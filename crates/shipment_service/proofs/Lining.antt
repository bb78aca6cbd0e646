-- A package that is put behind all others, and taken away again.
use Rattle.std.proofs.Common.{◌≡◌, ℕ, ◌+◌, ◌-◌, ◌<◌, Bool, true, false, cond, ◌==◌, ◌||◌, nat_lt, List, [], ◌∷◌, ◌++◌, length, take, Option, Some, None, if◌then◌else◌, refl, ap, sym, ◌∙◌, subst, arith, append-nil, append_assoc, length-append}
use Rattle.std.specs.List.{list_all, enumerate_from}
use Rattle.std.proofs.lemmas.Bool.{eqb-true, eq-eqb, ltb-true}
use Rattle.std.proofs.lemmas.Bool.Decides.{nat_tests}
use Rattle.std.proofs.lemmas.List.Elements.{filter-append}
use Rattle.market_events.proofs.NamedCells.Keyed.{none_some}
use Rattle.market_events.specs.declared.bodies.Item.{Item}
use Rattle.market_events.proofs.Values.Lists.{and_both}
use Rattle.market_events.specs.Entries.{entry_at}
use Rattle.shipment_service.specs.Tables.{put_at, has_number, of_seller, queue_of, queue_at, first_number, Waits, AreBelow}
use Rattle.shipment_service.proofs.Numbers.{or_else}

-- two equal somethings
pub same_some : {A : Type 0} (x y : A) → Some x ≡ Some y → x ≡ y
same_some x y e = cc

-- the first number of two lists
pub first_number-append : (xs ys : List (ℕ × Item)) → first_number (xs ++ ys) ≡ or_else (first_number xs) (first_number ys)
first_number-append [] ys = refl
first_number-append (x ∷ xs) ys = refl

-- where nothing is first, there is nothing
pub first_none : (xs : List (ℕ × Item)) → first_number xs ≡ None → xs ≡ []
first_none [] none = refl
first_none (x ∷ xs) none = cc

-- the queue of a seller with one package more
abbrev pub if_of : ℕ → ℕ × Item → List (ℕ × Item)
if_of s p = if of_seller s p then p ∷ [] else []

pub queue_of-push : (waiting : List (ℕ × Item)) (p : ℕ × Item) (s : ℕ) → queue_of (waiting ++ p ∷ []) s ≡ queue_of waiting s ++ if_of s p
queue_of-push waiting p s = filter-append (of_seller s) waiting (p ∷ [])

-- the numbers of a queue are below those that all are below
pub first_below : (n : ℕ) (waiting : List (ℕ × Item)) → AreBelow n waiting → (s m : ℕ) → first_number (queue_of waiting s) ≡ Some m → m < n
first_below n [] below s m first = cc
first_below n (p ∷ ps) below s m first =
    let both = and_both (nat_lt p.0 n) (list_all (λ (p : ℕ × Item). nat_lt p.0 n) ps) below in
    either (of_seller s p) first (first_below n ps both.1 s m) (ltb-true p.0 n both.0)
  where
    either : (b : Bool) → first_number (cond b (p ∷ queue_of ps s) (queue_of ps s)) ≡ Some m → (first_number (queue_of ps s) ≡ Some m → m < n) → p.0 < n → m < n
    either true is rest low = subst (λ k. k < n) (same_some p.0 m is) low
    either false is rest low = rest is

-- the same tables
pub waits_same : (queues : List (ℕ × List (ℕ × Item))) (oldest : List (ℕ × ℕ)) (queues' : List (ℕ × List (ℕ × Item))) (oldest' : List (ℕ × ℕ)) (waiting : List (ℕ × Item))
    → ((s : ℕ) → queue_at queues' s ≡ queue_at queues s) → ((n : ℕ) → entry_at oldest' n ≡ entry_at oldest n) → Waits queues oldest waiting → Waits queues' oldest' waiting
waits_same queues oldest queues' oldest' waiting lines ones waits = record {
  queue = λ s. lines s ∙ waits.queue s;
  first = λ n s. ((λ e. (waits.first n s).0 (sym (ones n) ∙ e)), (λ e. ones n ∙ (waits.first n s).1 e));
}

module _ (queues : List (ℕ × List (ℕ × Item))) (oldest : List (ℕ × ℕ)) (waiting : List (ℕ × Item)) (n : ℕ) (item : Item) (below : AreBelow n waiting) where
  abbrev seller : ℕ
  seller = item.key.seller

  -- a queue with the package, if it is its seller's
  abbrev with_it : ℕ → List (ℕ × Item) → List (ℕ × Item)
  with_it s was = if s == item.key.seller then was ++ (n, item) ∷ [] else was

  pushed : (s : ℕ) (was : List (ℕ × Item)) → with_it s was ≡ was ++ if_of s (n, item)
  pushed s was = by (s == item.key.seller) refl
    where
      by : (b : Bool) → (s == item.key.seller) ≡ b → cond b (was ++ (n, item) ∷ []) was ≡ was ++ if_of s (n, item)
      by true is = let mine : (item.key.seller == s) ≡ true = grind (arith, nat_tests) in sym (ap (λ b. was ++ cond {A = List (ℕ × Item)} b ((n, item) ∷ []) []) mine)
      by false is = let other : (item.key.seller == s) ≡ false = grind (arith, nat_tests) in sym (ap (λ b. was ++ cond {A = List (ℕ × Item)} b ((n, item) ∷ []) []) other ∙ append-nil was)

  -- no seller has this number
  pub is_fresh : Waits queues oldest waiting → entry_at oldest n ≡ None
  is_fresh waits = by (entry_at oldest n) refl
    where
      by : (o : Option ℕ) → entry_at oldest n ≡ o → entry_at oldest n ≡ None
      by None e = e
      by (Some s) e = absurd (omega (arith, first_below n waiting below s n ((waits.first n s).0 e)))

  -- so nothing is put over
  pub apart : Waits queues oldest waiting → (s m : ℕ) → has_number ((n, s) ∷ []) m ≡ true → entry_at oldest m ≡ None
  apart waits s m has = let same : n ≡ m = grind (arith, nat_tests) in subst (λ k. entry_at oldest k ≡ None) same (is_fresh waits)

  -- the package behind the others of its seller
  pub add_behind : (queues' : List (ℕ × List (ℕ × Item))) → Waits queues oldest waiting → (queue_at queues seller ≡ [] → ⊥) → ((s : ℕ) → queue_at queues' s ≡ with_it s (queue_at queues s))
      → Waits queues' oldest (waiting ++ (n, item) ∷ [])
  add_behind queues' waits busy lines = record {
    queue = λ s. lines s ∙ pushed s (queue_at queues s) ∙ ap (λ q. q ++ if_of s (n, item)) (waits.queue s) ∙ sym (queue_of-push waiting (n, item) s);
    first = λ m s. (
      (λ e. ap first_number (queue_of-push waiting (n, item) s) ∙ first_number-append (queue_of waiting s) (if_of s (n, item)) ∙ ap (λ (o : Option ℕ). or_else o (first_number (if_of s (n, item)))) ((waits.first m s).0 e)),
      (λ e. (waits.first m s).1 (back m s (first_number (queue_of waiting s)) refl (sym (first_number-append (queue_of waiting s) (if_of s (n, item))) ∙ sym (ap first_number (queue_of-push waiting (n, item) s)) ∙ e))),
    );
  }
    where
      -- a seller without packages is another one
      idle : (m s : ℕ) → queue_of waiting s ≡ [] → (b : Bool) → of_seller s (n, item) ≡ b → first_number (cond b ((n, item) ∷ []) []) ≡ Some m → ⊥
      idle m s empty true mine e = busy (ap (queue_at queues) (eqb-true item.key.seller s mine) ∙ waits.queue s ∙ empty)
      idle m s empty false other e = none_some m e

      back : (m s : ℕ) → (o : Option ℕ) → first_number (queue_of waiting s) ≡ o → or_else (first_number (queue_of waiting s)) (first_number (if_of s (n, item))) ≡ Some m → first_number (queue_of waiting s) ≡ Some m
      back m s (Some k) is e = is ∙ sym (ap (λ (o : Option ℕ). or_else o (first_number (if_of s (n, item)))) is) ∙ e
      back m s None is e = absurd (idle m s (first_none (queue_of waiting s) is) (of_seller s (n, item)) refl (sym (ap (λ (o : Option ℕ). or_else o (first_number (if_of s (n, item)))) is) ∙ e))

  -- the first package of its seller
  pub add_first : (queues' : List (ℕ × List (ℕ × Item))) (oldest' : List (ℕ × ℕ)) → Waits queues oldest waiting → queue_at queues seller ≡ [] → ((s : ℕ) → queue_at queues' s ≡ with_it s (queue_at queues s))
      → ((m : ℕ) → entry_at oldest' m ≡ put_at m (entry_at oldest m) ((n, item.key.seller) ∷ [])) → Waits queues' oldest' (waiting ++ (n, item) ∷ [])
  add_first queues' oldest' waits empty lines ones = record {
    queue = λ s. lines s ∙ pushed s (queue_at queues s) ∙ ap (λ q. q ++ if_of s (n, item)) (waits.queue s) ∙ sym (queue_of-push waiting (n, item) s);
    first = λ m s. (there m s, back m s);
  }
    where
      whole : (s : ℕ) → first_number (queue_of (waiting ++ (n, item) ∷ []) s) ≡ or_else (first_number (queue_of waiting s)) (first_number (if_of s (n, item)))
      whole s = ap first_number (queue_of-push waiting (n, item) s) ∙ first_number-append (queue_of waiting s) (if_of s (n, item))

      alone : first_number (queue_of (waiting ++ (n, item) ∷ []) item.key.seller) ≡ Some n
      alone =
          whole item.key.seller ∙ ap (λ q. or_else (first_number q) (first_number (if_of item.key.seller (n, item)))) (sym (waits.queue item.key.seller) ∙ empty)
          ∙ ap (λ b. first_number (cond {A = List (ℕ × Item)} b ((n, item) ∷ []) [])) (eq-eqb item.key.seller item.key.seller refl)

      there : (m s : ℕ) → entry_at oldest' m ≡ Some s → first_number (queue_of (waiting ++ (n, item) ∷ []) s) ≡ Some m
      there m s e = by (n == m) refl (sym (ones m) ∙ e)
        where
          by : (b : Bool) → (n == m) ≡ b → cond b (Some item.key.seller) (entry_at oldest m) ≡ Some s → first_number (queue_of (waiting ++ (n, item) ∷ []) s) ≡ Some m
          by true is e = ap (λ s. first_number (queue_of (waiting ++ (n, item) ∷ []) s)) (sym (same_some item.key.seller s e)) ∙ alone ∙ ap Some (eqb-true n m is)
          by false is e = whole s ∙ ap (λ (o : Option ℕ). or_else o (first_number (if_of s (n, item)))) ((waits.first m s).0 e)

      back : (m s : ℕ) → first_number (queue_of (waiting ++ (n, item) ∷ []) s) ≡ Some m → entry_at oldest' m ≡ Some s
      back m s e = ones m ∙ by (of_seller s (n, item)) refl (sym (whole s) ∙ e)
        where
          other : first_number (queue_of waiting s) ≡ Some m → cond (n == m) (Some item.key.seller) (entry_at oldest m) ≡ Some s
          other first = let low = first_below n waiting below s m first in let differ : (n == m) ≡ false = grind (arith, nat_tests) in ap (λ b. cond b (Some item.key.seller) (entry_at oldest m)) differ ∙ (waits.first m s).1 first

          by : (b : Bool) → of_seller s (n, item) ≡ b → or_else (first_number (queue_of waiting s)) (first_number (cond b ((n, item) ∷ []) [])) ≡ Some m → cond (n == m) (Some item.key.seller) (entry_at oldest m) ≡ Some s
          by true mine e =
              let gone : queue_of waiting s ≡ [] = sym (waits.queue s) ∙ ap (queue_at queues) (sym (eqb-true item.key.seller s mine)) ∙ empty in
              let here : n ≡ m = same_some n m (sym (ap (λ q. or_else (first_number q) (Some n)) gone) ∙ e) in
              ap (λ b. cond b (Some item.key.seller) (entry_at oldest m)) (eq-eqb n m here) ∙ ap Some (eqb-true item.key.seller s mine)
          by false mine e = other (or_none (first_number (queue_of waiting s)) e)
            where
              or_none : (o : Option ℕ) → or_else o None ≡ Some m → o ≡ Some m
              or_none None e = cc
              or_none (Some k) e = e

  -- a queue without its last one
  abbrev but_last : List (ℕ × Item) → List (ℕ × Item)
  but_last was = take (length was - 1) was

  but_last-push : (q : List (ℕ × Item)) → but_last (q ++ (n, item) ∷ []) ≡ q
  but_last-push q =
      let long : length (q ++ (n, item) ∷ []) - 1 ≡ length q = omega (arith, length-append q ((n, item) ∷ [])) in
      ap (λ k. take k (q ++ (n, item) ∷ [])) long ∙ front q
    where
      front : (q : List (ℕ × Item)) → take (length q) (q ++ (n, item) ∷ []) ≡ q
      front [] = refl
      front (x ∷ q) = ap (λ r. x ∷ r) (front q)

  back_again : (s : ℕ) (q : List (ℕ × Item)) → (if s == item.key.seller then but_last (q ++ if_of s (n, item)) else q ++ if_of s (n, item)) ≡ q
  back_again s q = by (s == item.key.seller) refl
    where
      by : (b : Bool) → (s == item.key.seller) ≡ b → cond b (but_last (q ++ if_of s (n, item))) (q ++ if_of s (n, item)) ≡ q
      by true is = let mine : (item.key.seller == s) ≡ true = grind (arith, nat_tests) in ap (λ b. but_last (q ++ cond {A = List (ℕ × Item)} b ((n, item) ∷ []) [])) mine ∙ but_last-push q
      by false is = let other : (item.key.seller == s) ≡ false = grind (arith, nat_tests) in ap (λ b. q ++ cond {A = List (ℕ × Item)} b ((n, item) ∷ []) []) other ∙ append-nil q

  -- the queues after the package was put and taken away
  pub put_back : (queues' queues'' : List (ℕ × List (ℕ × Item))) → ((s : ℕ) → queue_at queues' s ≡ with_it s (queue_at queues s))
      → ((s : ℕ) → queue_at queues'' s ≡ (if s == item.key.seller then but_last (queue_at queues' s) else queue_at queues' s)) → (s : ℕ) → queue_at queues'' s ≡ queue_at queues s
  put_back queues' queues'' put away s =
      away s ∙ ap (λ q. if s == item.key.seller then but_last q else q) (put s ∙ pushed s (queue_at queues s)) ∙ back_again s (queue_at queues s)

  -- the packages without the last one
  pub take_away : (queues' : List (ℕ × List (ℕ × Item))) (oldest' : List (ℕ × ℕ)) → Waits queues oldest (waiting ++ (n, item) ∷ [])
      → ((s : ℕ) → queue_at queues' s ≡ (if s == item.key.seller then but_last (queue_at queues s) else queue_at queues s))
      → ((m : ℕ) → entry_at oldest' m ≡ (if has_number ((n, item.key.seller) ∷ []) m then None else entry_at oldest m)) → Waits queues' oldest' waiting
  take_away queues' oldest' waits lines ones = record {
    queue = λ s. lines s ∙ ap (λ q. if s == item.key.seller then but_last q else q) (waits.queue s ∙ queue_of-push waiting (n, item) s) ∙ back_again s (queue_of waiting s);
    first = λ m s. (there m s, back m s);
  }
    where
      whole : (s : ℕ) → first_number (queue_of (waiting ++ (n, item) ∷ []) s) ≡ or_else (first_number (queue_of waiting s)) (first_number (if_of s (n, item)))
      whole s = ap first_number (queue_of-push waiting (n, item) s) ∙ first_number-append (queue_of waiting s) (if_of s (n, item))

      not_it : (m s : ℕ) → (n == m) ≡ false → (b : Bool) → first_number (cond {A = List (ℕ × Item)} b ((n, item) ∷ []) []) ≡ Some m → ⊥
      not_it m s differ true e = let same = eq-eqb n m (same_some n m e) in let no : true ≡ false = sym same ∙ differ in cc
      not_it m s differ false e = none_some m e

      there : (m s : ℕ) → entry_at oldest' m ≡ Some s → first_number (queue_of waiting s) ≡ Some m
      there m s e = by (n == m) refl (sym (ones m) ∙ e)
        where
          left : (n == m) ≡ false → (o : Option ℕ) → or_else o (first_number (if_of s (n, item))) ≡ Some m → o ≡ Some m
          left differ None e = absurd (not_it m s differ (of_seller s (n, item)) e)
          left differ (Some k) e = e

          by : (b : Bool) → (n == m) ≡ b → cond (b || false) None (entry_at oldest m) ≡ Some s → first_number (queue_of waiting s) ≡ Some m
          by true is e = absurd (none_some s e)
          by false is e = left is (first_number (queue_of waiting s)) (sym (whole s) ∙ (waits.first m s).0 e)

      back : (m s : ℕ) → first_number (queue_of waiting s) ≡ Some m → entry_at oldest' m ≡ Some s
      back m s first =
          let low = first_below n waiting below s m first in
          let differ : (n == m) ≡ false = grind (arith, nat_tests) in
          ones m ∙ ap (λ b. cond (b || false) None (entry_at oldest m)) differ
          ∙ (waits.first m s).1 (whole s ∙ ap (λ (o : Option ℕ). or_else o (first_number (if_of s (n, item)))) first)

-- numbers below one are below the next
pub below_next : (n : ℕ) (item : Item) (waiting : List (ℕ × Item)) → AreBelow n waiting → AreBelow (n + 1) (waiting ++ (n, item) ∷ [])
below_next n item [] below = let low : nat_lt n (n + 1) ≡ true = grind (arith, nat_tests) in rw low refl
below_next n item (p ∷ ps) below =
    let both = and_both (nat_lt p.0 n) (list_all (λ (p : ℕ × Item). nat_lt p.0 n) ps) below in
    let low : nat_lt p.0 (n + 1) ≡ true = grind (arith, nat_tests) in
    rw low (below_next n item ps both.1)

-- the package and those behind it
pub one_and_more : (waiting : List (ℕ × Item)) (n : ℕ) (item : Item) (items : List Item) → (waiting ++ (n, item) ∷ []) ++ enumerate_from (n + 1) items ≡ waiting ++ enumerate_from n (item ∷ items)
one_and_more waiting n item items = append_assoc waiting ((n, item) ∷ []) (enumerate_from (n + 1) items)
