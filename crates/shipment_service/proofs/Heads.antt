-- The first package of each seller, by the packages that wait.
use Rattle.std.proofs.Common.{◌≡◌, ℕ, ◌<◌, Bool, true, false, cond, ◌==◌, ◌||◌, List, [], ◌∷◌, ◌++◌, ◌⊎◌, inl, inr, ⊎_elim, map, take, filter, Option, Some, None, zero, suc, refl, ap, sym, ◌∙◌, subst, arith}
use Rattle.std.specs.List.{list_any}
use Rattle.std.specs.List.Sorted.{IsStrictlySortedBy}
use Rattle.std.specs.Map.{keys_of}
use Rattle.std.specs.Ordering.{nat_cmp}
use Rattle.std.specs.declared.cmp.Ordering.TheVariants.{Less}
use Rattle.std.proofs.lemmas.Bool.{eqb-true, eq-eqb, both_ways}
use Rattle.std.proofs.lemmas.Bool.Decides.{nat_tests}
use Rattle.std.proofs.lemmas.List.Folds.{list_any-append}
use Rattle.market_events.specs.declared.bodies.Item.{Item}
use Rattle.market_events.proofs.Values.Lists.{or_parts, or_false}
use Rattle.shipment_service.specs.Deliveries.{heads_after}
use Rattle.market_events.specs.Entries.{entry_at}
use Rattle.shipment_service.specs.Tables.{of_seller, queue_of, first_number, Waits, IsRising}
use Rattle.shipment_service.proofs.Lining.{same_some}
use Rattle.shipment_service.proofs.Numbers.{Above, entry_at-cons, first_at, rising_head, rising_tail, rising_cons, same_entries}

-- the element is one of these
abbrev pub Among : {A : Type 0} → A → List A → Type 0
Among x [] = ⊥
Among x (y ∷ ys) = (x ≡ y) ⊎ Among x ys

pub among-take : {A : Type 0} (x : A) (n : ℕ) (xs : List A) → Among x (take n xs) → Among x xs
among-take x zero xs among = absurd among
among-take x (suc n) [] among = among
among-take x (suc n) (y ∷ ys) among = ⊎_elim (λ is. inl is) (λ rest. inr (among-take x n ys rest)) among

pub among-filter : {A : Type 0} (test : A → Bool) (x : A) (xs : List A) → Among x (filter test xs) → Among x xs × (test x ≡ true)
among-filter test x [] among = absurd among
among-filter {A = A} test x (y ∷ ys) among = by (λ a. among-filter test x ys a) (test y) refl among
  where
    by : (Among x (filter test ys) → Among x ys × (test x ≡ true)) → (b : Bool) → test y ≡ b → Among x (cond b (y ∷ filter test ys) (filter test ys)) → Among x (y ∷ ys) × (test x ≡ true)
    by rest true is among = ⊎_elim (λ here. (inl here, ap test here ∙ is)) (λ later. let r = rest later in (inr r.0, r.1)) among
    by rest false is among = let r = rest among in (inr r.0, r.1)

pub among-any : {A : Type 0} (test : A → Bool) (x : A) (xs : List A) → Among x xs → test x ≡ true → list_any test xs ≡ true
among-any test x [] among passes = absurd among
among-any test x (y ∷ ys) among passes = ⊎_elim (λ here. ap (λ b. b || list_any test ys) (sym (ap test here) ∙ passes)) (λ later. or_later (test y) (among-any test x ys later passes)) among
  where
    or_later : (a : Bool) {b : Bool} → b ≡ true → (a || b) ≡ true
    or_later true h = refl
    or_later false h = h

pub any-among : {A : Type 0} (test : A → Bool) (xs : List A) → list_any test xs ≡ true → (x : A) × Among x xs × (test x ≡ true)
any-among test [] any = cc
any-among {A = A} test (y ∷ ys) any = by (λ any. any-among test ys any) (test y) refl any
  where
    by : (list_any test ys ≡ true → (x : A) × Among x ys × (test x ≡ true)) → (b : Bool) → test y ≡ b → (b || list_any test ys) ≡ true → (x : A) × Among x (y ∷ ys) × (test x ≡ true)
    by rest true is any = (y, inl refl, is)
    by rest false is any = let r = rest any in (r.0, inr r.1, r.2)

-- a number that is above is above each
pub among-above : {X : Type 0} (n : ℕ) (p : ℕ × X) (ps : List (ℕ × X)) → Above n ps → Among p ps → n < p.0
among-above n p [] above among = absurd among
among-above n p (q ∷ ps) above among = ⊎_elim (λ here. low (ap (λ r. r.0) here) above.0) (λ later. among-above n p ps above.1 later) among
  where
    low : p.0 ≡ q.0 → nat_cmp n q.0 ≡ Less → n < p.0
    low e h = grind (arith, nat_tests)

-- what stands at the number of one of the pairs
pub entry-among : {X : Type 0} (p : ℕ × X) (ps : List (ℕ × X)) → IsStrictlySortedBy nat_cmp (keys_of ps) → Among p ps → entry_at ps p.0 ≡ Some p.1
entry-among p [] rise among = absurd among
entry-among {X = X} p (q ∷ ps) rise among = ⊎_elim here (λ later. next later (entry-among p ps (rising_tail q ps rise) later)) among
  where
    here : p ≡ q → entry_at (q ∷ ps) p.0 ≡ Some p.1
    here is = subst (λ (r : ℕ × X). entry_at (r ∷ ps) p.0 ≡ Some p.1) is (first_at p ps)

    next : Among p ps → entry_at ps p.0 ≡ Some p.1 → entry_at (q ∷ ps) p.0 ≡ Some p.1
    next later rest =
        let low = among-above q.0 p ps (rising_head q ps rise) later in
        let differ : (q.0 == p.0) ≡ false = grind (arith, nat_tests) in
        entry_at-cons q ps p.0 ∙ ap (λ b. cond b (Some q.1) (entry_at ps p.0)) differ ∙ rest

pub among-entry : {X : Type 0} (n : ℕ) (x : X) (ps : List (ℕ × X)) → entry_at ps n ≡ Some x → (p : ℕ × X) × Among p ps × (p.0 ≡ n) × (p.1 ≡ x)
among-entry n x [] e = cc
among-entry {X = X} n x (q ∷ ps) e = by (λ e. among-entry n x ps e) (q.0 == n) refl (sym (entry_at-cons q ps n) ∙ e)
  where
    some_is : (a b : X) → Some a ≡ Some b → a ≡ b
    some_is a b e = cc

    by : (entry_at ps n ≡ Some x → (p : ℕ × X) × Among p ps × (p.0 ≡ n) × (p.1 ≡ x)) → (b : Bool) → (q.0 == n) ≡ b → cond b (Some q.1) (entry_at ps n) ≡ Some x
        → (p : ℕ × X) × Among p (q ∷ ps) × (p.0 ≡ n) × (p.1 ≡ x)
    by rest true is e = (q, inl refl, eqb-true q.0 n is, some_is q.1 x e)
    by rest false is e = let r = rest e in (r.0, inr r.1, r.2, r.3)

-- the seller of a package
abbrev pub seller_of : ℕ × Item → ℕ
seller_of p = p.1.key.seller

-- a package stands first in the queue of its seller
abbrev pub IsFirst : List (ℕ × Item) → ℕ × Item → Type 0
IsFirst waiting h = (tail : List (ℕ × Item)) × (queue_of waiting (seller_of h) ≡ h ∷ tail)

own : (p : ℕ × Item) → of_seller (seller_of p) p ≡ true
own p = eq-eqb (seller_of p) (seller_of p) refl

-- the queue of a seller who is not that of the first package
skip : (p : ℕ × Item) (ps : List (ℕ × Item)) (s : ℕ) → of_seller s p ≡ false → queue_of (p ∷ ps) s ≡ queue_of ps s
skip p ps s other = ap (λ b. cond b (p ∷ queue_of ps s) (queue_of ps s)) other

-- none in front, and not the next one
front_next : (s : ℕ) (front : List (ℕ × Item)) (p : ℕ × Item) → list_any (of_seller s) (front ++ p ∷ []) ≡ false → (list_any (of_seller s) front ≡ false) × (of_seller s p ≡ false)
front_next s front p none =
    or_parts (list_any (of_seller s) front) (of_seller s p)
    (ap (λ b. list_any (of_seller s) front || b) (sym (or_false (of_seller s p))) ∙ sym (list_any-append (of_seller s) front (p ∷ [])) ∙ none)

pub heads-first : (front waiting : List (ℕ × Item)) (h : ℕ × Item) → Among h (heads_after front waiting) → IsFirst waiting h × (list_any (of_seller (seller_of h)) front ≡ false)
heads-first front [] h among = absurd among
heads-first front (p ∷ ps) h among = by (λ among. heads-first (front ++ p ∷ []) ps h among) (list_any (of_seller (seller_of p)) front) refl among
  where
    later : IsFirst ps h × (list_any (of_seller (seller_of h)) (front ++ p ∷ []) ≡ false) → IsFirst (p ∷ ps) h × (list_any (of_seller (seller_of h)) front ≡ false)
    later r =
        let parts = front_next (seller_of h) front p r.1 in
        ((r.0.0, skip p ps (seller_of h) parts.1 ∙ r.0.1), parts.0)

    here : h ≡ p → list_any (of_seller (seller_of p)) front ≡ false → IsFirst (p ∷ ps) h × (list_any (of_seller (seller_of h)) front ≡ false)
    here is none =
        let at : IsFirst (p ∷ ps) p = (queue_of ps (seller_of p), ap (λ b. cond b (p ∷ queue_of ps (seller_of p)) (queue_of ps (seller_of p))) (own p)) in
        (subst (IsFirst (p ∷ ps)) (sym is) at, ap (λ (q : ℕ × Item). list_any (of_seller (seller_of q)) front) is ∙ none)

    by : (Among h (heads_after (front ++ p ∷ []) ps) → IsFirst ps h × (list_any (of_seller (seller_of h)) (front ++ p ∷ []) ≡ false)) → (b : Bool) → list_any (of_seller (seller_of p)) front ≡ b
        → Among h (cond b (heads_after (front ++ p ∷ []) ps) (p ∷ heads_after (front ++ p ∷ []) ps)) → IsFirst (p ∷ ps) h × (list_any (of_seller (seller_of h)) front ≡ false)
    by rest true any among = later (rest among)
    by rest false none among = ⊎_elim (λ is. here is none) (λ more. later (rest more)) among

pub first-heads : (front waiting : List (ℕ × Item)) (s : ℕ) (p : ℕ × Item) (tail : List (ℕ × Item)) → queue_of waiting s ≡ p ∷ tail → list_any (of_seller s) front ≡ false → Among p (heads_after front waiting)
first-heads front [] s p tail is none = cc
first-heads front (x ∷ xs) s p tail is none = by (λ is none. first-heads (front ++ x ∷ []) xs s p tail is none) (of_seller s x) refl is
  where
    more : (b : Bool) → Among p (heads_after (front ++ x ∷ []) xs) → Among p (cond b (heads_after (front ++ x ∷ []) xs) (x ∷ heads_after (front ++ x ∷ []) xs))
    more true among = among
    more false among = inr among

    same_head : (q : ℕ × Item) (qs : List (ℕ × Item)) → (q ∷ qs) ≡ p ∷ tail → p ≡ q
    same_head q qs e = cc

    by : (queue_of xs s ≡ p ∷ tail → list_any (of_seller s) (front ++ x ∷ []) ≡ false → Among p (heads_after (front ++ x ∷ []) xs)) → (b : Bool) → of_seller s x ≡ b → cond b (x ∷ queue_of xs s) (queue_of xs s) ≡ p ∷ tail
        → Among p (heads_after front (x ∷ xs))
    by rest true mine e =
        let new : list_any (of_seller (seller_of x)) front ≡ false = ap (λ s. list_any (of_seller s) front) (eqb-true (seller_of x) s mine) ∙ none in
        subst (λ b. Among p (cond b (heads_after (front ++ x ∷ []) xs) (x ∷ heads_after (front ++ x ∷ []) xs))) (sym new) (inl (same_head x (queue_of xs s) e))
    by rest false other e =
        more (list_any (of_seller (seller_of x)) front)
        (rest e (list_any-append (of_seller s) front (x ∷ []) ∙ ap (λ b. list_any (of_seller s) front || b) (or_false (of_seller s x) ∙ other) ∙ or_false (list_any (of_seller s) front) ∙ none))

-- no two of them are of one seller
abbrev pub Apart : List (ℕ × Item) → Type 0
Apart [] = Unit {0}
Apart (h ∷ hs) = (list_any (of_seller (seller_of h)) hs ≡ false) × Apart hs

pub apart-take : (n : ℕ) (hs : List (ℕ × Item)) → Apart hs → Apart (take n hs)
apart-take zero hs apart = tt
apart-take (suc n) [] apart = tt
apart-take (suc n) (h ∷ hs) apart = (by (list_any (of_seller (seller_of h)) (take n hs)) refl, apart-take n hs apart.1)
  where
    by : (b : Bool) → list_any (of_seller (seller_of h)) (take n hs) ≡ b → list_any (of_seller (seller_of h)) (take n hs) ≡ false
    by false e = e
    by true e = let r = any-among (of_seller (seller_of h)) (take n hs) e in absurd (both_ways _ apart.0 (among-any (of_seller (seller_of h)) r.0 hs (among-take r.0 n hs r.1) r.2))

pub heads-apart : (front waiting : List (ℕ × Item)) → Apart (heads_after front waiting)
heads-apart front [] = tt
heads-apart front (p ∷ ps) = by (list_any (of_seller (seller_of p)) front) (heads-apart (front ++ p ∷ []) ps)
  where
    new : (b : Bool) → list_any (of_seller (seller_of p)) (heads_after (front ++ p ∷ []) ps) ≡ b → list_any (of_seller (seller_of p)) (heads_after (front ++ p ∷ []) ps) ≡ false
    new false e = e
    new true e =
        let r = any-among (of_seller (seller_of p)) (heads_after (front ++ p ∷ []) ps) e in
        let none = front_next (seller_of r.0) front p (heads-first (front ++ p ∷ []) ps r.0 r.1).1 in
        let same : of_seller (seller_of r.0) p ≡ true = eq-eqb (seller_of p) (seller_of r.0) (sym (eqb-true (seller_of r.0) (seller_of p) r.2)) in
        absurd (both_ways _ none.1 same)

    by : (b : Bool) → Apart (heads_after (front ++ p ∷ []) ps) → Apart (cond b (heads_after (front ++ p ∷ []) ps) (p ∷ heads_after (front ++ p ∷ []) ps))
    by true rest = rest
    by false rest = (new (list_any (of_seller (seller_of p)) (heads_after (front ++ p ∷ []) ps)) refl, rest)

-- they stand by rising number
heads-above : (n : ℕ) (front waiting : List (ℕ × Item)) → Above n waiting → Above n (heads_after front waiting)
heads-above n front [] above = tt
heads-above n front (p ∷ ps) above = by (list_any (of_seller (seller_of p)) front) (heads-above n (front ++ p ∷ []) ps above.1)
  where
    by : (b : Bool) → Above n (heads_after (front ++ p ∷ []) ps) → Above n (cond b (heads_after (front ++ p ∷ []) ps) (p ∷ heads_after (front ++ p ∷ []) ps))
    by true rest = rest
    by false rest = (above.0, rest)

pub heads-rise : (front waiting : List (ℕ × Item)) → IsRising waiting → IsRising (heads_after front waiting)
heads-rise front [] rise = rise
heads-rise front (p ∷ ps) rise = by (list_any (of_seller (seller_of p)) front) (heads-rise (front ++ p ∷ []) ps (rising_tail p ps rise))
  where
    by : (b : Bool) → IsRising (heads_after (front ++ p ∷ []) ps) → IsRising (cond b (heads_after (front ++ p ∷ []) ps) (p ∷ heads_after (front ++ p ∷ []) ps))
    by true rest = rest
    by false rest = rising_cons p (heads_after (front ++ p ∷ []) ps) (heads-above p.0 (front ++ p ∷ []) ps (rising_head p ps rise)) rest

-- the number of a package, with its seller
abbrev pub turn_of : ℕ × Item → ℕ × ℕ
turn_of p = (p.0, seller_of p)

pub keys-turns : (hs : List (ℕ × Item)) → keys_of (map turn_of hs) ≡ keys_of hs
keys-turns [] = refl
keys-turns (h ∷ hs) = ap (λ ks. h.0 ∷ ks) (keys-turns hs)

pub among-turns : (h : ℕ × Item) (hs : List (ℕ × Item)) → Among h hs → Among (turn_of h) (map turn_of hs)
among-turns h [] among = absurd among
among-turns h (x ∷ hs) among = ⊎_elim (λ is. inl (ap turn_of is)) (λ later. inr (among-turns h hs later)) among

pub turns-among : (t : ℕ × ℕ) (hs : List (ℕ × Item)) → Among t (map turn_of hs) → (h : ℕ × Item) × Among h hs × (t ≡ turn_of h)
turns-among t [] among = absurd among
turns-among t (x ∷ hs) among = ⊎_elim (λ is. (x, inl refl, is)) (λ later. let r = turns-among t hs later in (r.0, inr r.1, r.2)) among

pub take-turns : (n : ℕ) (hs : List (ℕ × Item)) → take n (map turn_of hs) ≡ map turn_of (take n hs)
take-turns zero hs = refl
take-turns (suc n) [] = refl
take-turns (suc n) (h ∷ hs) = ap (λ ts. turn_of h ∷ ts) (take-turns n hs)

-- two options that are the same wherever one is something
same_option : {X : Type 0} (a b : Option X) → ((x : X) → a ≡ Some x → b ≡ Some x) → ((x : X) → b ≡ Some x → a ≡ Some x) → a ≡ b
same_option None None to back = refl
same_option None (Some y) to back = back y refl
same_option (Some x) b to back = sym (to x refl)

-- the first of a queue
pub first_of : (q : List (ℕ × Item)) (n : ℕ) → first_number q ≡ Some n → (p : ℕ × Item) × (tail : List (ℕ × Item)) × (q ≡ p ∷ tail) × (p.0 ≡ n)
first_of [] n e = cc
first_of (p ∷ ps) n e = (p, ps, refl, same_some p.0 n e)

-- the first packages, as the table has them
pub oldest-heads : (queues : List (ℕ × List (ℕ × Item))) (oldest : List (ℕ × ℕ)) (waiting : List (ℕ × Item)) → Waits queues oldest waiting → IsRising waiting
    → IsStrictlySortedBy nat_cmp (keys_of oldest) → oldest ≡ map turn_of (heads_after [] waiting)
oldest-heads queues oldest waiting waits rise ordered =
    same_entries oldest (map turn_of (heads_after [] waiting)) ordered (subst (IsStrictlySortedBy nat_cmp) (sym (keys-turns (heads_after [] waiting))) (heads-rise [] waiting rise))
    (λ n. same_option (entry_at oldest n) (entry_at (map turn_of (heads_after [] waiting)) n) (to n) (back n))
  where
    turns_rise : IsStrictlySortedBy nat_cmp (keys_of (map turn_of (heads_after [] waiting)))
    turns_rise = subst (IsStrictlySortedBy nat_cmp) (sym (keys-turns (heads_after [] waiting))) (heads-rise [] waiting rise)

    to : (n s : ℕ) → entry_at oldest n ≡ Some s → entry_at (map turn_of (heads_after [] waiting)) n ≡ Some s
    to n s e =
        let f = first_of (queue_of waiting s) n ((waits.first n s).0 e) in
        let among = first-heads [] waiting s f.0 f.1 f.2 refl in
        let mine : seller_of f.0 ≡ s = eqb-true (seller_of f.0) s (among-filter (of_seller s) f.0 waiting (subst (Among f.0) (sym f.2) (inl refl))).1 in
        ap (entry_at (map turn_of (heads_after [] waiting))) (sym f.3)
        ∙ entry-among (turn_of f.0) (map turn_of (heads_after [] waiting)) turns_rise (among-turns f.0 (heads_after [] waiting) among) ∙ ap Some mine

    back : (n s : ℕ) → entry_at (map turn_of (heads_after [] waiting)) n ≡ Some s → entry_at oldest n ≡ Some s
    back n s e =
        let t = among-entry n s (map turn_of (heads_after [] waiting)) e in
        let h = turns-among t.0 (heads_after [] waiting) t.1 in
        let first = (heads-first [] waiting h.0 h.1).0 in
        let number : h.0.0 ≡ n = sym (ap (λ (t : ℕ × ℕ). t.0) h.2) ∙ t.2 in
        let seller : seller_of h.0 ≡ s = sym (ap (λ (t : ℕ × ℕ). t.1) h.2) ∙ t.3 in
        (waits.first n s).1 (ap (λ s. first_number (queue_of waiting s)) (sym seller) ∙ ap first_number first.1 ∙ ap Some number)
