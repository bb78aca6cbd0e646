-- What holds of each entry after those before it.
use Rattle.std.proofs.Common.{List, [], ◌∷◌, ◌++◌, subst, sym, append-nil, append_assoc}
use Rattle.market_history.specs.Stamps.{EachAfter}

-- what follows from it
pub EachAfter-weaker : {A : Type 0} (P Q : List A → A → Type 0) → ((before : List A) (x : A) → P before x → Q before x) → (before xs : List A) → EachAfter P before xs → EachAfter Q before xs
EachAfter-weaker P Q weaker before [] each = tt
EachAfter-weaker P Q weaker before (x ∷ xs) each = (weaker before x each.0, EachAfter-weaker P Q weaker (before ++ x ∷ []) xs each.1)

-- the elements after the first of them
pub EachAfter-back : {A : Type 0} (P : List A → A → Type 0) (before xs ys : List A) → EachAfter P before (xs ++ ys) → EachAfter P (before ++ xs) ys
EachAfter-back P before [] ys each = subst (λ l. EachAfter P l ys) (sym (append-nil before)) each
EachAfter-back P before (x ∷ xs) ys each =
    subst (λ l. EachAfter P l ys) (append_assoc before (x ∷ []) xs) (EachAfter-back P (before ++ x ∷ []) xs ys each.1)
