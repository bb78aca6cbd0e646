-- Packages of one checkout stand together: those in front of a queue that are of its first checkout are all of it.
use Rattle.std.proofs.Common.{◌≡◌, ℕ, ◌+◌, ◌<◌, Bool, true, false, cond, not, List, [], ◌∷◌, length, take, drop, filter, get_or, suc, refl, ap, sym, ◌∙◌, arith}
use Rattle.std.specs.List.{list_any, prefix_len}
use Rattle.market_events.specs.declared.bodies.Item.{Item}
use Rattle.market_events.proofs.Values.Lists.{or_parts, any_filter-none}
use Rattle.market_events.proofs.Values.Same.{same_id-self}
use Rattle.shipment_service.specs.Deliveries.{past, IsGrouped}
use Rattle.shipment_service.specs.Tables.{is_with, group_len, group_of, behind_of}

-- those in front that pass, and those behind them
pub prefix-past : {A : Type 0} (test : A → Bool) (xs : List A) → drop (prefix_len test xs) xs ≡ past test xs
prefix-past test [] = refl
prefix-past test (x ∷ xs) = by (test x) (prefix-past test xs)
  where
    next : {A : Type 0} (n : ℕ) (x : A) (xs : List A) → drop (1 + n) (x ∷ xs) ≡ drop n xs
    next n x xs = let e : 1 + n ≡ suc n = omega arith in ap (λ k. drop k (x ∷ xs)) e

    by : (b : Bool) → drop (prefix_len test xs) xs ≡ past test xs → drop (cond b (1 + prefix_len test xs) 0) (x ∷ xs) ≡ cond b (past test xs) (x ∷ xs)
    by true rest = next (prefix_len test xs) x xs ∙ rest
    by false rest = refl

-- where none passes behind those in front, those in front are all that pass
none_pass : {A : Type 0} (test : A → Bool) (xs : List A) → list_any test xs ≡ false → (filter test xs ≡ []) × (filter (λ x. not (test x)) xs ≡ xs)
none_pass test [] none = (refl, refl)
none_pass test (x ∷ xs) none =
    let parts = or_parts (test x) (list_any test xs) none in
    let rest = none_pass test xs parts.1 in
    (rw parts.0 rest.0, rw parts.0 (ap (λ ys. x ∷ ys) rest.1))

pub front-filter : {A : Type 0} (test : A → Bool) (xs : List A) → list_any test (past test xs) ≡ false → take (prefix_len test xs) xs ≡ filter test xs
front-filter test [] none = refl
front-filter test (x ∷ xs) none = by (test x) refl none (front-filter test xs)
  where
    next : {A : Type 0} (n : ℕ) (x : A) (xs : List A) → take (1 + n) (x ∷ xs) ≡ x ∷ take n xs
    next n x xs = let e : 1 + n ≡ suc n = omega arith in ap (λ k. take k (x ∷ xs)) e

    by : (b : Bool) → test x ≡ b → list_any test (cond b (past test xs) (x ∷ xs)) ≡ false → (list_any test (past test xs) ≡ false → take (prefix_len test xs) xs ≡ filter test xs)
        → take (cond b (1 + prefix_len test xs) 0) (x ∷ xs) ≡ cond b (x ∷ filter test xs) (filter test xs)
    by true is none rest = next (prefix_len test xs) x xs ∙ ap (λ ys. x ∷ ys) (rest none)
    by false is none rest = sym (none_pass test xs (or_parts (test x) (list_any test xs) none).1).0

pub past-filter : {A : Type 0} (test : A → Bool) (xs : List A) → list_any test (past test xs) ≡ false → past test xs ≡ filter (λ x. not (test x)) xs
past-filter test [] none = refl
past-filter test (x ∷ xs) none = by (test x) refl none (past-filter test xs)
  where
    by : (b : Bool) → test x ≡ b → list_any test (cond b (past test xs) (x ∷ xs)) ≡ false → (list_any test (past test xs) ≡ false → past test xs ≡ filter (λ x. not (test x)) xs)
        → cond b (past test xs) (x ∷ xs) ≡ cond (not b) (x ∷ filter (λ x. not (test x)) xs) (filter (λ x. not (test x)) xs)
    by true is none rest = rest none
    by false is none rest = sym (ap (λ ys. x ∷ ys) (none_pass test xs (or_parts (test x) (list_any test xs) none).1).1)

-- a filter leaves them together
past-any : {A : Type 0} (test : A → Bool) (xs : List A) → list_any test xs ≡ false → list_any test (past test xs) ≡ false
past-any test [] none = refl
past-any test (x ∷ xs) none =
    let parts = or_parts (test x) (list_any test xs) none in
    rw parts.0 (rw parts.0 parts.1)

past-kept : {A : Type 0} (test keep : A → Bool) (xs : List A) → list_any test (past test xs) ≡ false → list_any test (past test (filter keep xs)) ≡ false
past-kept test keep [] none = refl
past-kept test keep (x ∷ xs) none = by (test x) refl (keep x) none (past-kept test keep xs)
  where
    by : (b : Bool) → test x ≡ b → (k : Bool) → list_any test (cond b (past test xs) (x ∷ xs)) ≡ false → (list_any test (past test xs) ≡ false → list_any test (past test (filter keep xs)) ≡ false)
        → list_any test (past test (cond k (x ∷ filter keep xs) (filter keep xs))) ≡ false
    by true is true none rest = rw is (rest none)
    by true is false none rest = rest none
    by false is true none rest =
        let parts = or_parts (test x) (list_any test xs) none in
        rw is (rw is (any_filter-none test keep xs parts.1))
    by false is false none rest =
        past-any test (filter keep xs) (any_filter-none test keep xs (or_parts (test x) (list_any test xs) none).1)

pub grouped-filter : (keep : ℕ × Item → Bool) (ps : List (ℕ × Item)) → IsGrouped ps → IsGrouped (filter keep ps)
grouped-filter keep [] grouped = tt
grouped-filter keep (p ∷ ps) grouped = by (keep p) (grouped-filter keep ps grouped.1)
  where
    by : (k : Bool) → IsGrouped (filter keep ps) → IsGrouped (cond k (p ∷ filter keep ps) (filter keep ps))
    by true rest = (past-kept (is_with p) keep ps grouped.0, rest)
    by false rest = rest

-- a package is of its own checkout
with_itself : (p : ℕ × Item) → is_with p p ≡ true
with_itself p = same_id-self p.1.checkout

-- what stands behind the first group, and the group, by tests
pub behind_of-past : (p : ℕ × Item) (ps : List (ℕ × Item)) → behind_of (p ∷ ps) ≡ past (is_with p) ps
behind_of-past p ps = prefix-past (is_with p) (p ∷ ps) ∙ ap (λ b. cond b (past (is_with p) ps) (p ∷ ps)) (with_itself p)

pub behind_of-filter : (p : ℕ × Item) (ps : List (ℕ × Item)) → IsGrouped (p ∷ ps) → behind_of (p ∷ ps) ≡ filter (λ q. not (is_with p q)) (p ∷ ps)
behind_of-filter p ps grouped =
    behind_of-past p ps ∙ past-filter (is_with p) ps grouped.0
    ∙ sym (ap (λ b. cond (not b) (p ∷ filter (λ q. not (is_with p q)) ps) (filter (λ q. not (is_with p q)) ps)) (with_itself p))

pub group_of-filter : (p : ℕ × Item) (ps : List (ℕ × Item)) → IsGrouped (p ∷ ps) → group_of (p ∷ ps) ≡ filter (is_with p) (p ∷ ps)
group_of-filter p ps grouped =
    front-filter (is_with p) (p ∷ ps) (ap (λ b. list_any (is_with p) (cond b (past (is_with p) ps) (p ∷ ps))) (with_itself p) ∙ grouped.0)

-- how many packages the first group has, by the first package
pub group_len-first : (q : List (ℕ × Item)) (p : ℕ × Item) → 0 < length q → p ≡ get_or q 0 p → prefix_len (is_with p) q ≡ group_len q
group_len-first [] p some is = absurd (omega arith)
group_len-first (x ∷ xs) p some is = ap (λ y. prefix_len (is_with y) (x ∷ xs)) is
