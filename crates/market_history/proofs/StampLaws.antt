-- One more entry of a journal, and the clocks.
use Rattle.std.proofs.Common.{◌≡◌, List, [], ◌∷◌, ◌++◌, Option, Some, None, refl, ap, subst, sym, append_assoc}
use Rattle.std.specs.List.{last_or}
use Rattle.std.proofs.lemmas.List.{append-nil}
use Rattle.market_events.specs.declared.events.Entry.{Entry}
use Rattle.market_history.specs.Stamps.{EachAfter, clock_in, clock_before}

-- one element more, after all those before it
pub EachAfter-push : {A : Type 0} (P : List A → A → Type 0) (before xs : List A) (x : A) → EachAfter P before xs → P (before ++ xs) x → EachAfter P before (xs ++ x ∷ [])
EachAfter-push P before [] x each last = (subst (λ l. P l x) (append-nil before) last, tt)
EachAfter-push P before (y ∷ ys) x each last =
    (each.0, EachAfter-push P (before ++ y ∷ []) ys x each.1 (subst (λ l. P l x) (sym (append_assoc before (y ∷ []) ys)) last))

-- what held of each holds of the first of them
pub EachAfter-front : {A : Type 0} (P : List A → A → Type 0) (before xs ys : List A) → EachAfter P before (xs ++ ys) → EachAfter P before xs
EachAfter-front P before [] ys each = tt
EachAfter-front P before (x ∷ xs) ys each = (each.0, EachAfter-front P (before ++ x ∷ []) xs ys each.1)

-- the element at the end of the first of them
pub EachAfter-at : {A : Type 0} (P : List A → A → Type 0) (before xs : List A) (x : A) (ys : List A) → EachAfter P before (xs ++ x ∷ ys) → P (before ++ xs) x
EachAfter-at P before [] x ys each = subst (λ l. P l x) (sym (append-nil before)) each.0
EachAfter-at P before (y ∷ xs) x ys each =
    subst (λ l. P l x) (append_assoc before (y ∷ []) xs) (EachAfter-at P (before ++ y ∷ []) xs x ys each.1)

last_or-push : {A : Type 0} (o : Option A) (xs : List A) (x : A) → last_or o (xs ++ x ∷ []) ≡ Some x
last_or-push o [] x = refl
last_or-push o (y ∷ ys) x = last_or-push (Some y) ys x

-- the clock after one entry more is its own
pub clock_before-push : (xs : List Entry) (x : Entry) → clock_before (xs ++ x ∷ []) ≡ x.clock
clock_before-push xs x = ap clock_in (last_or-push None xs x)
