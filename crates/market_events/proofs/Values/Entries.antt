-- Where entries have something at a number, the number is one of their keys.
use Rattle.std.proofs.Common.{◌≡◌, ℕ, Bool, true, false, cond, ◌==◌, ◌||◌, List, [], ◌∷◌, Some, refl, sym, ◌∙◌, arith}
use Rattle.std.specs.BTreeMap.{is_at}
use Rattle.std.specs.List.{list_any}
use Rattle.std.specs.Map.{keys_of}
use Rattle.std.specs.Ordering.{nat_cmp}
use Rattle.std.proofs.lemmas.Bool.Decides.{nat_tests}
use Rattle.market_events.specs.Entries.{entry_at}
use Rattle.market_events.proofs.Values.Lists.{or_right}

pub entry-among : {X : Type 0} (es : List (ℕ × X)) (n : ℕ) (v : X) → entry_at es n ≡ Some v → list_any (λ m. n == m) (keys_of es) ≡ true
entry-among [] n v found = cc
entry-among (e ∷ es) n v found = either (is_at (nat_cmp n) e.0) refl (λ rest. entry-among es n v rest) found
  where
    test : (a b : ℕ) → is_at (nat_cmp a) b ≡ (a == b)
    test a b = grind (arith, nat_tests)

    either : (b : Bool) → is_at (nat_cmp n) e.0 ≡ b → (entry_at es n ≡ Some v → list_any (λ m. n == m) (keys_of es) ≡ true)
        → cond b (Some e.1) (entry_at es n) ≡ Some v → ((n == e.0) || list_any (λ m. n == m) (keys_of es)) ≡ true
    either true at rest found = rw (sym (test n e.0) ∙ at) refl
    either false at rest found = or_right (n == e.0) (rest found)
