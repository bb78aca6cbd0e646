-- What a delivery takes, and what stands first after it.
use Rattle.std.proofs.Common.{◌≡◌, ℕ, Bool, true, false, cond, ◌==◌, ◌||◌, ◌&&◌, not, List, [], ◌∷◌, ◌⊎◌, inl, inr, ⊎_elim, map, filter, filter_map, Option, Some, None, option_map, if◌then◌else◌, refl, ap, ap₂, sym, ◌∙◌, subst, arith}
use Rattle.std.specs.List.{list_any, cons_option}
use Rattle.std.specs.List.Sorted.{IsStrictlySortedBy}
use Rattle.std.specs.Map.{keys_of}
use Rattle.std.specs.Ordering.{nat_cmp}
use Rattle.std.proofs.lemmas.Bool.{eqb-true, eq-eqb, both_ways}
use Rattle.std.proofs.lemmas.Bool.Decides.{nat_tests}
use Rattle.market_events.specs.declared.bodies.Item.{Item}
use Rattle.market_events.specs.Shipments.{most_sellers}
use Rattle.market_events.proofs.Values.Lists.{or_parts, or_false}
use Rattle.shipment_service.specs.Deliveries.{heads_after, served_of, goes, taken_of, left_of, past, IsGrouped}
use Rattle.market_events.specs.Entries.{entry_at}
use Rattle.shipment_service.specs.Tables.{put_at, has_number, of_seller, queue_of, queue_at, is_with, group_of, behind_of, groups_of, follower_of, served_queue, first_number, Waits, IsRising}
use Rattle.shipment_service.proofs.Grouping.{grouped-filter, behind_of-past, behind_of-filter, group_of-filter}
use Rattle.shipment_service.proofs.Heads.{Among, among-take, among-filter, among-any, any-among, among-above, entry-among, seller_of, IsFirst, heads-first, Apart, heads-apart, apart-take, turn_of, among-turns, turns-among, first_of}
use Rattle.market_events.proofs.NamedCells.Keyed.{none_some}
use Rattle.shipment_service.proofs.Lining.{same_some}
use Rattle.shipment_service.proofs.Numbers.{or_else, kept_if, entry_at-filter, put_at-append, put_at-rising, rising-filter, rising_head, same_entries}

-- filters one after the other
filter-agree : {A : Type 0} (f g h : A → Bool) (xs : List A) → ((x : A) → f x ≡ true → g x ≡ h x) → filter f (filter g xs) ≡ filter h (filter f xs)
filter-agree f g h [] agree = refl
filter-agree {A = A} f g h (x ∷ xs) agree = by (f x) refl (g x) refl (filter-agree f g h xs agree)
  where
    by : (a : Bool) → f x ≡ a → (b : Bool) → g x ≡ b → filter f (filter g xs) ≡ filter h (filter f xs)
        → filter f (cond b (x ∷ filter g xs) (filter g xs)) ≡ filter h (cond a (x ∷ filter f xs) (filter f xs))
    by true is true also rest = let third : h x ≡ true = sym (agree x is) ∙ also in rw (is, third) (ap (λ ys. x ∷ ys) rest)
    by true is false also rest = let third : h x ≡ false = sym (agree x is) ∙ also in rw third rest
    by false is true also rest = rw is rest
    by false is false also rest = rest

filter-all : {A : Type 0} (xs : List A) → filter (λ x. true) xs ≡ xs
filter-all [] = refl
filter-all (x ∷ xs) = ap (λ ys. x ∷ ys) (filter-all xs)

-- a package goes with none of these where none is of its seller, and else with the one that is
goes-none : (hs : List (ℕ × Item)) (p : ℕ × Item) → list_any (of_seller (seller_of p)) hs ≡ false → goes hs p ≡ false
goes-none [] p none = refl
goes-none (h ∷ hs) p none =
    let parts = or_parts (of_seller (seller_of p) h) (list_any (of_seller (seller_of p)) hs) none in
    rw parts.0 (goes-none hs p parts.1)

goes-one : (hs : List (ℕ × Item)) → Apart hs → (h p : ℕ × Item) → Among h hs → of_seller (seller_of h) p ≡ true → goes hs p ≡ is_with h p
goes-one [] apart h p among mine = absurd among
goes-one (x ∷ xs) apart h p among mine = ⊎_elim here (λ later. next later (goes-one xs apart.1 h p later mine)) among
  where
    seller : seller_of p ≡ seller_of h
    seller = eqb-true (seller_of p) (seller_of h) mine

    here : h ≡ x → goes (x ∷ xs) p ≡ is_with h p
    here is =
        let own : of_seller (seller_of p) x ≡ true = eq-eqb (seller_of x) (seller_of p) (sym (ap seller_of is) ∙ sym seller) in
        let none : list_any (of_seller (seller_of p)) xs ≡ false = ap (λ s. list_any (of_seller s) xs) (seller ∙ ap seller_of is) ∙ apart.0 in
        ap₂ (λ a b. (a && is_with x p) || b) own (goes-none xs p none) ∙ or_false (is_with x p) ∙ ap (λ y. is_with y p) (sym is)

    next : Among h xs → goes xs p ≡ is_with h p → goes (x ∷ xs) p ≡ is_with h p
    next later rest = ap (λ a. (a && is_with x p) || goes xs p) (other (of_seller (seller_of p) x) refl) ∙ rest
      where
        other : (b : Bool) → of_seller (seller_of p) x ≡ b → of_seller (seller_of p) x ≡ false
        other false e = e
        other true e =
            let same : seller_of h ≡ seller_of x = sym seller ∙ sym (eqb-true (seller_of x) (seller_of p) e) in
            absurd (both_ways _ apart.0 (among-any (of_seller (seller_of x)) h xs later (eq-eqb (seller_of h) (seller_of x) same)))

-- a queue that its seller's turn served, if it has one
served-queue : (s : ℕ) (hs : List (ℕ × Item)) → Apart hs → (q : List (ℕ × Item)) → served_queue s q (map turn_of hs) ≡ (if list_any (of_seller s) hs then behind_of q else q)
served-queue s [] apart q = refl
served-queue s (h ∷ hs) apart q = by (seller_of h == s) refl (λ q. served-queue s hs apart.1 q)
  where
    by : (b : Bool) → (seller_of h == s) ≡ b → ((q : List (ℕ × Item)) → served_queue s q (map turn_of hs) ≡ (if list_any (of_seller s) hs then behind_of q else q))
        → served_queue s (if seller_of h == s then behind_of q else q) (map turn_of hs) ≡ (if (seller_of h == s) || list_any (of_seller s) hs then behind_of q else q)
    by true is rest =
        let none : list_any (of_seller s) hs ≡ false = ap (λ s. list_any (of_seller s) hs) (sym (eqb-true (seller_of h) s is)) ∙ apart.0 in
        ap (λ b. served_queue s (cond b (behind_of q) q) (map turn_of hs)) is ∙ rest (behind_of q) ∙ ap (λ b. cond b (behind_of (behind_of q)) (behind_of q)) none
        ∙ sym (ap (λ b. cond (b || list_any (of_seller s) hs) (behind_of q) q) is)
    by false is rest =
        ap (λ b. served_queue s (cond b (behind_of q) q) (map turn_of hs)) is ∙ rest q ∙ sym (ap (λ b. cond (b || list_any (of_seller s) hs) (behind_of q) q) is)

-- what is put for some turns
put-cases : (n : ℕ) (o : Option ℕ) (ts : List (ℕ × ℕ)) (s : ℕ) → put_at n o ts ≡ Some s → ((t : ℕ × ℕ) × Among t ts × (t.0 ≡ n) × (t.1 ≡ s)) ⊎ (o ≡ Some s)
put-cases n o [] s e = inr e
put-cases n o (t ∷ ts) s e = ⊎_elim (λ r. inl (r.0, inr r.1, r.2, r.3)) (λ now. by (t.0 == n) refl now) (put-cases n (if t.0 == n then Some t.1 else o) ts s e)
  where
    by : (b : Bool) → (t.0 == n) ≡ b → cond b (Some t.1) o ≡ Some s → ((u : ℕ × ℕ) × Among u (t ∷ ts) × (u.0 ≡ n) × (u.1 ≡ s)) ⊎ (o ≡ Some s)
    by true is e = inl (t, inl refl, eqb-true t.0 n is, same_some t.1 s e)
    by false is e = inr e

put-same : (n s : ℕ) (ts : List (ℕ × ℕ)) → ((t : ℕ × ℕ) → Among t ts → t.0 ≡ n → t.1 ≡ s) → put_at n (Some s) ts ≡ Some s
put-same n s [] all = refl
put-same n s (t ∷ ts) all = ap (λ o. put_at n o ts) (by (t.0 == n) refl) ∙ put-same n s ts (λ u among is. all u (inr among) is)
  where
    by : (b : Bool) → (t.0 == n) ≡ b → cond b (Some t.1) (Some s) ≡ Some s
    by true is = ap Some (all t (inl refl) (eqb-true t.0 n is))
    by false is = refl

put-there : (n s : ℕ) (o : Option ℕ) (ts : List (ℕ × ℕ)) → ((t : ℕ × ℕ) → Among t ts → t.0 ≡ n → t.1 ≡ s) → Among (n, s) ts → put_at n o ts ≡ Some s
put-there n s o [] all among = absurd among
put-there n s o (t ∷ ts) all among = ⊎_elim here (λ later. put-there n s (if t.0 == n then Some t.1 else o) ts (λ u a is. all u (inr a) is) later) among
  where
    here : (n, s) ≡ t → put_at n (if t.0 == n then Some t.1 else o) ts ≡ Some s
    here is =
        let at : (t.0 == n) ≡ true = eq-eqb t.0 n (sym (ap (λ (u : ℕ × ℕ). u.0) is)) in
        ap (λ b. put_at n (cond b (Some t.1) o) ts) at ∙ ap (λ k. put_at n (Some k) ts) (sym (ap (λ (u : ℕ × ℕ). u.1) is)) ∙ put-same n s ts (λ u a e. all u (inr a) e)

-- who follows in the queues of some turns
follower-among : (queues : List (ℕ × List (ℕ × Item))) (ts : List (ℕ × ℕ)) (u : ℕ × ℕ) → Among u (filter_map (follower_of queues) ts)
    → (t : ℕ × ℕ) × Among t ts × (first_number (behind_of (queue_at queues t.1)) ≡ Some u.0) × (t.1 ≡ u.1)
follower-among queues [] u among = absurd among
follower-among queues (t ∷ ts) u among = by (first_number (behind_of (queue_at queues t.1))) refl (λ a. follower-among queues ts u a) among
  where
    by : (o : Option ℕ) → first_number (behind_of (queue_at queues t.1)) ≡ o
        → (Among u (filter_map (follower_of queues) ts) → (t : ℕ × ℕ) × Among t ts × (first_number (behind_of (queue_at queues t.1)) ≡ Some u.0) × (t.1 ≡ u.1))
        → Among u (cons_option (option_map (λ (n : ℕ). (n, t.1)) o) (filter_map (follower_of queues) ts))
        → (v : ℕ × ℕ) × Among v (t ∷ ts) × (first_number (behind_of (queue_at queues v.1)) ≡ Some u.0) × (v.1 ≡ u.1)
    by None is rest among = let r = rest among in (r.0, inr r.1, r.2, r.3)
    by (Some n) is rest among =
        ⊎_elim (λ here. (t, inl refl, is ∙ ap Some (sym (ap (λ (w : ℕ × ℕ). w.0) here)), sym (ap (λ (w : ℕ × ℕ). w.1) here))) (λ later. let r = rest later in (r.0, inr r.1, r.2, r.3)) among

among-follower : (queues : List (ℕ × List (ℕ × Item))) (ts : List (ℕ × ℕ)) (t : ℕ × ℕ) (n : ℕ) → Among t ts → first_number (behind_of (queue_at queues t.1)) ≡ Some n → Among (n, t.1) (filter_map (follower_of queues) ts)
among-follower queues [] t n among e = absurd among
among-follower queues (x ∷ ts) t n among e = ⊎_elim here (λ later. more (follower_of queues x) (among-follower queues ts t n later e)) among
  where
    more : (o : Option (ℕ × ℕ)) → Among (n, t.1) (filter_map (follower_of queues) ts) → Among (n, t.1) (cons_option o (filter_map (follower_of queues) ts))
    more None a = a
    more (Some y) a = inr a

    here : t ≡ x → Among (n, t.1) (cons_option (follower_of queues x) (filter_map (follower_of queues) ts))
    here is =
        let at : follower_of queues x ≡ Some (n, t.1) = ap (follower_of queues) (sym is) ∙ ap (option_map (λ (k : ℕ). (k, t.1))) e in
        subst (λ (o : Option (ℕ × ℕ)). Among (n, t.1) (cons_option o (filter_map (follower_of queues) ts))) (sym at) (inl refl)

-- elements behind those in front are elements
among-past : {A : Type 0} (test : A → Bool) (x : A) (xs : List A) → Among x (past test xs) → Among x xs
among-past test x [] among = absurd among
among-past test x (y ∷ ys) among = by (test y) (λ a. among-past test x ys a) among
  where
    by : (b : Bool) → (Among x (past test ys) → Among x ys) → Among x (cond b (past test ys) (y ∷ ys)) → Among x (y ∷ ys)
    by true rest among = inr (rest among)
    by false rest among = among

-- packages by rising number in the queues of their sellers
module _ (waiting : List (ℕ × Item)) (rise : IsRising waiting) where
  -- the seller at a number
  abbrev seller_at : ℕ → Option ℕ
  seller_at n = option_map (λ (i : Item). i.key.seller) (entry_at waiting n)

  queue-seller : (s : ℕ) (p : ℕ × Item) → Among p (queue_of waiting s) → seller_at p.0 ≡ Some s
  queue-seller s p among =
      let r = among-filter (of_seller s) p waiting among in
      ap (option_map (λ (i : Item). i.key.seller)) (entry-among p waiting rise r.0) ∙ ap Some (eqb-true (seller_of p) s r.1)

  first-seller : (s n : ℕ) → first_number (queue_of waiting s) ≡ Some n → seller_at n ≡ Some s
  first-seller s n e =
      let f = first_of (queue_of waiting s) n e in
      ap seller_at (sym f.3) ∙ queue-seller s f.0 (subst (Among f.0) (sym f.2) (inl refl))

  behind-among : (q : List (ℕ × Item)) (p : ℕ × Item) → Among p (behind_of q) → Among p q
  behind-among [] p among = absurd among
  behind-among (x ∷ xs) p among = inr (among-past (is_with x) p xs (subst (Among p) (behind_of-past x xs) among))

  behind-seller : (s n : ℕ) → first_number (behind_of (queue_of waiting s)) ≡ Some n → seller_at n ≡ Some s
  behind-seller s n e =
      let f = first_of (behind_of (queue_of waiting s)) n e in
      ap seller_at (sym f.3) ∙ queue-seller s f.0 (behind-among (queue_of waiting s) f.0 (subst (Among f.0) (sym f.2) (inl refl)))

  one-seller : (n s t : ℕ) → seller_at n ≡ Some s → seller_at n ≡ Some t → s ≡ t
  one-seller n s t is also = same_some s t (sym is ∙ also)

  -- the first number is not one behind
  never-both : (s n : ℕ) → first_number (queue_of waiting s) ≡ Some n → first_number (behind_of (queue_of waiting s)) ≡ Some n → ⊥
  never-both s n first behind = by (queue_of waiting s) (rising-filter (of_seller s) waiting rise) first behind
    where
      by : (q : List (ℕ × Item)) → IsRising q → first_number q ≡ Some n → first_number (behind_of q) ≡ Some n → ⊥
      by [] rising first behind = none_some n first
      by (x ∷ xs) rising first behind =
          let f = first_of (behind_of (x ∷ xs)) n behind in
          let later = among-past (is_with x) f.0 xs (subst (Among f.0) (behind_of-past x xs) (subst (Among f.0) (sym f.2) (inl refl))) in
          let low = among-above x.0 f.0 xs (rising_head x xs rising) later in
          absurd (omega (arith, low, same_some x.0 n first, f.3))

  module _ (queues : List (ℕ × List (ℕ × Item))) (oldest : List (ℕ × ℕ)) (waits : Waits queues oldest waiting) where
    -- who comes next stands first nowhere
    pub next-apart : (ts : List (ℕ × ℕ)) (n : ℕ) → has_number (filter_map (follower_of queues) ts) n ≡ true → entry_at oldest n ≡ None
    next-apart ts n has = by (entry_at oldest n) refl
      where
        by : (o : Option ℕ) → entry_at oldest n ≡ o → entry_at oldest n ≡ None
        by None e = e
        by (Some s) e =
            let first = (waits.first n s).0 e in
            let a = any-among (λ (p : ℕ × ℕ). p.0 == n) (filter_map (follower_of queues) ts) has in
            let f = follower-among queues ts a.0 a.1 in
            let behind : first_number (behind_of (queue_of waiting f.0.1)) ≡ Some n = ap (λ q. first_number (behind_of q)) (sym (waits.queue f.0.1)) ∙ f.2 ∙ ap Some (eqb-true a.0.0 n a.2) in
            let same = one-seller n s f.0.1 (first-seller s n first) (behind-seller f.0.1 n behind) in
            absurd (never-both s n first (ap (λ s. first_number (behind_of (queue_of waiting s))) same ∙ behind))

    module _ (grouped : IsGrouped waiting) (turns : List (ℕ × ℕ)) (are : turns ≡ map turn_of (served_of waiting)) where
      apart_hs : Apart (served_of waiting)
      apart_hs = apart-take most_sellers (heads_after [] waiting) (heads-apart [] waiting)

      is_first : (h : ℕ × Item) → Among h (served_of waiting) → IsFirst waiting h
      is_first h among = (heads-first [] waiting h (among-take h most_sellers (heads_after [] waiting) among)).0

      queue-grouped : (h : ℕ × Item) (first : IsFirst waiting h) → IsGrouped (h ∷ first.0)
      queue-grouped h first = subst IsGrouped first.1 (grouped-filter (of_seller (seller_of h)) waiting grouped)

      -- the queues of what is left
      left-other : (s : ℕ) → list_any (of_seller s) (served_of waiting) ≡ false → queue_of (left_of waiting) s ≡ queue_of waiting s
      left-other s none =
          filter-agree (of_seller s) (λ p. not (goes (served_of waiting) p)) (λ p. true) waiting
          (λ p mine. ap not (goes-none (served_of waiting) p (ap (λ s. list_any (of_seller s) (served_of waiting)) (eqb-true (seller_of p) s mine) ∙ none)))
          ∙ filter-all (queue_of waiting s)

      left-served : (h : ℕ × Item) → Among h (served_of waiting) → queue_of (left_of waiting) (seller_of h) ≡ behind_of (queue_of waiting (seller_of h))
      left-served h among =
          let first = is_first h among in
          filter-agree (of_seller (seller_of h)) (λ p. not (goes (served_of waiting) p)) (λ p. not (is_with h p)) waiting (λ p mine. ap not (goes-one (served_of waiting) apart_hs h p among mine))
          ∙ ap (filter (λ p. not (is_with h p))) first.1
          ∙ sym (behind_of-filter h first.0 (queue-grouped h first))
          ∙ ap behind_of (sym first.1)

      queue-left : (s : ℕ) → queue_of (left_of waiting) s ≡ (if list_any (of_seller s) (served_of waiting) then behind_of (queue_of waiting s) else queue_of waiting s)
      queue-left s = by (list_any (of_seller s) (served_of waiting)) refl
        where
          by : (b : Bool) → list_any (of_seller s) (served_of waiting) ≡ b → queue_of (left_of waiting) s ≡ cond b (behind_of (queue_of waiting s)) (queue_of waiting s)
          by true any =
              let r = any-among (of_seller s) (served_of waiting) any in
              subst (λ s. queue_of (left_of waiting) s ≡ behind_of (queue_of waiting s)) (eqb-true (seller_of r.0) s r.2) (left-served r.0 r.1)
          by false none = left-other s none

      queues-after : (queues' : List (ℕ × List (ℕ × Item))) → ((s : ℕ) → queue_at queues' s ≡ served_queue s (queue_at queues s) turns) → (s : ℕ) → queue_at queues' s ≡ queue_of (left_of waiting) s
      queues-after queues' lines s =
          lines s ∙ ap (served_queue s (queue_at queues s)) are ∙ served-queue s (served_of waiting) apart_hs (queue_at queues s)
          ∙ ap (λ q. if list_any (of_seller s) (served_of waiting) then behind_of q else q) (waits.queue s) ∙ sym (queue-left s)

      -- the numbers of the turns, and who comes next
      has-turn : (n : ℕ) → has_number turns n ≡ true → (h : ℕ × Item) × Among h (served_of waiting) × (first_number (queue_of waiting (seller_of h)) ≡ Some n)
      has-turn n has =
          let a = any-among (λ (p : ℕ × ℕ). p.0 == n) turns has in
          let r = turns-among a.0 (served_of waiting) (subst (Among a.0) are a.1) in
          let number : r.0.0 ≡ n = sym (ap (λ (t : ℕ × ℕ). t.0) r.2) ∙ eqb-true a.0.0 n a.2 in
          (r.0, r.1, ap first_number (is_first r.0 r.1).1 ∙ ap Some number)

      turn-has : (h : ℕ × Item) → Among h (served_of waiting) → (n : ℕ) → first_number (queue_of waiting (seller_of h)) ≡ Some n → has_number turns n ≡ true
      turn-has h among n e =
          let number : h.0 ≡ n = same_some h.0 n (sym (ap first_number (is_first h among).1) ∙ e) in
          among-any (λ (p : ℕ × ℕ). p.0 == n) (turn_of h) turns (subst (Among (turn_of h)) (sym are) (among-turns h (served_of waiting) among)) (eq-eqb h.0 n number)

      next-is : (t : ℕ × ℕ) → Among t (filter_map (follower_of queues) turns)
          → (h : ℕ × Item) × Among h (served_of waiting) × (first_number (behind_of (queue_of waiting (seller_of h))) ≡ Some t.0) × (seller_of h ≡ t.1)
      next-is t among =
          let f = follower-among queues turns t among in
          let r = turns-among f.0 (served_of waiting) (subst (Among f.0) are f.1) in
          let seller : f.0.1 ≡ seller_of r.0 = ap (λ (t : ℕ × ℕ). t.1) r.2 in (
            r.0,
            r.1,
            ap (λ q. first_number (behind_of q)) (sym (waits.queue (seller_of r.0))) ∙ ap (λ s. first_number (behind_of (queue_at queues s))) (sym seller) ∙ f.2,
            sym seller ∙ f.3,
          )

      next-has : (h : ℕ × Item) → Among h (served_of waiting) → (n : ℕ) → first_number (behind_of (queue_of waiting (seller_of h))) ≡ Some n → Among (n, seller_of h) (filter_map (follower_of queues) turns)
      next-has h among n e =
          among-follower queues turns (turn_of h) n (subst (Among (turn_of h)) (sym are) (among-turns h (served_of waiting) among))
          (ap (λ q. first_number (behind_of q)) (waits.queue (seller_of h)) ∙ e)

      uniform : (n s : ℕ) → seller_at n ≡ Some s → (t : ℕ × ℕ) → Among t (filter_map (follower_of queues) turns) → t.0 ≡ n → t.1 ≡ s
      uniform n s mine t among is =
          let r = next-is t among in
          sym r.3 ∙ one-seller n (seller_of r.0) s (ap seller_at (sym is) ∙ behind-seller (seller_of r.0) t.0 r.2) mine

      module _ (oldest' : List (ℕ × ℕ)) (ones : (n : ℕ) → entry_at oldest' n ≡ (if has_number turns n then None else put_at n (entry_at oldest n) (filter_map (follower_of queues) turns))) where
        there : (n s : ℕ) → entry_at oldest' n ≡ Some s → first_number (queue_of (left_of waiting) s) ≡ Some n
        there n s e = by (has_number turns n) refl (sym (ones n) ∙ e)
          where
            followed : (t : ℕ × ℕ) × Among t (filter_map (follower_of queues) turns) × (t.0 ≡ n) × (t.1 ≡ s) → first_number (queue_of (left_of waiting) s) ≡ Some n
            followed r =
                let h = next-is r.0 r.1 in
                ap (λ s. first_number (queue_of (left_of waiting) s)) (sym r.3 ∙ sym h.3) ∙ ap first_number (left-served h.0 h.1) ∙ h.2 ∙ ap Some r.2

            stayed : has_number turns n ≡ false → entry_at oldest n ≡ Some s → first_number (queue_of (left_of waiting) s) ≡ Some n
            stayed unserved e = other (list_any (of_seller s) (served_of waiting)) refl
              where
                other : (b : Bool) → list_any (of_seller s) (served_of waiting) ≡ b → first_number (queue_of (left_of waiting) s) ≡ Some n
                other true any =
                    let r = any-among (of_seller s) (served_of waiting) any in
                    let first = ap (λ s. first_number (queue_of waiting s)) (eqb-true (seller_of r.0) s r.2) ∙ (waits.first n s).0 e in
                    absurd (both_ways _ unserved (turn-has r.0 r.1 n first))
                other false none = ap first_number (left-other s none) ∙ (waits.first n s).0 e

            by : (b : Bool) → has_number turns n ≡ b → cond b None (put_at n (entry_at oldest n) (filter_map (follower_of queues) turns)) ≡ Some s → first_number (queue_of (left_of waiting) s) ≡ Some n
            by true is e = absurd (none_some s e)
            by false is e = ⊎_elim followed (stayed is) (put-cases n (entry_at oldest n) (filter_map (follower_of queues) turns) s e)

        back : (n s : ℕ) → first_number (queue_of (left_of waiting) s) ≡ Some n → entry_at oldest' n ≡ Some s
        back n s e = ones n ∙ by (list_any (of_seller s) (served_of waiting)) refl
          where
            unserved : ((h : ℕ × Item) → Among h (served_of waiting) → first_number (queue_of waiting (seller_of h)) ≡ Some n → ⊥) → has_number turns n ≡ false
            unserved never = each (has_number turns n) refl
              where
                each : (b : Bool) → has_number turns n ≡ b → has_number turns n ≡ false
                each false is = is
                each true is = let r = has-turn n is in absurd (never r.0 r.1 r.2)

            by : (b : Bool) → list_any (of_seller s) (served_of waiting) ≡ b → cond (has_number turns n) None (put_at n (entry_at oldest n) (filter_map (follower_of queues) turns)) ≡ Some s
            by true any =
                let r = any-among (of_seller s) (served_of waiting) any in
                let seller = eqb-true (seller_of r.0) s r.2 in
                let behind = ap first_number (sym (left-served r.0 r.1)) ∙ ap (λ s. first_number (queue_of (left_of waiting) s)) seller ∙ e in
                let mine = behind-seller (seller_of r.0) n behind in
                let no_turn = unserved (λ h among first.
                never-both (seller_of r.0) n (ap (λ s. first_number (queue_of waiting s)) (sym (one-seller n (seller_of h) (seller_of r.0) (first-seller (seller_of h) n first) mine)) ∙ first) behind) in
                ap (λ b. cond b None (put_at n (entry_at oldest n) (filter_map (follower_of queues) turns))) no_turn
                ∙ put-there n s (entry_at oldest n) (filter_map (follower_of queues) turns) (uniform n s (mine ∙ ap Some seller))
                (subst (λ s. Among (n, s) (filter_map (follower_of queues) turns)) seller (next-has r.0 r.1 n behind))
            by false none =
                let first = ap first_number (sym (left-other s none)) ∙ e in
                let mine = first-seller s n first in
                let no_turn = unserved (λ h among also.
                both_ways _ none (among-any (of_seller s) h (served_of waiting) among (eq-eqb (seller_of h) s (one-seller n (seller_of h) s (first-seller (seller_of h) n also) mine)))) in
                ap (λ b. cond b None (put_at n (entry_at oldest n) (filter_map (follower_of queues) turns))) no_turn
                ∙ ap (λ o. put_at n o (filter_map (follower_of queues) turns)) ((waits.first n s).1 first)
                ∙ put-same n s (filter_map (follower_of queues) turns) (uniform n s mine)

        -- the tables have what is left
        pub waits-left : (queues' : List (ℕ × List (ℕ × Item))) → ((s : ℕ) → queue_at queues' s ≡ served_queue s (queue_at queues s) turns) → Waits queues' oldest' (left_of waiting)
        waits-left queues' lines = record { queue = queues-after queues' lines; first = λ n s. (there n s, back n s) }

      -- what the groups have at a number
      group-at : (h : ℕ × Item) → IsFirst waiting h → (n : ℕ) (o : Option Item)
          → put_at n o (group_of (queue_at queues (seller_of h))) ≡ or_else (kept_if (λ i. is_with h (n, i)) (kept_if (λ i. of_seller (seller_of h) (n, i)) (entry_at waiting n))) o
      group-at h first n o =
          ap (λ q. put_at n o (group_of q)) (waits.queue (seller_of h))
          ∙ ap (put_at n o) (ap group_of first.1 ∙ group_of-filter h first.0 (queue-grouped h first) ∙ ap (filter (is_with h)) (sym first.1))
          ∙ put_at-rising n o (filter (is_with h) (queue_of waiting (seller_of h))) (rising-filter (is_with h) (queue_of waiting (seller_of h)) (rising-filter (of_seller (seller_of h)) waiting rise))
          ∙ ap (λ e. or_else e o)
          (entry_at-filter (is_with h) (queue_of waiting (seller_of h)) (rising-filter (of_seller (seller_of h)) waiting rise) n
          ∙ ap (kept_if (λ i. is_with h (n, i))) (entry_at-filter (of_seller (seller_of h)) waiting rise n))

      groups-at : (os : List (ℕ × Item)) → ((h : ℕ × Item) → Among h os → IsFirst waiting h) → (n : ℕ) (o : Option Item)
          → put_at n o (groups_of queues (map turn_of os)) ≡ or_else (kept_if (λ i. goes os (n, i)) (entry_at waiting n)) o
      groups-at [] firsts n o = none (entry_at waiting n)
        where
          none : (e : Option Item) → o ≡ or_else (kept_if (λ i. false) e) o
          none None = refl
          none (Some i) = refl
      groups-at (h ∷ os) firsts n o =
          put_at-append n o (group_of (queue_at queues (seller_of h))) (groups_of queues (map turn_of os))
          ∙ ap (λ p. put_at n p (groups_of queues (map turn_of os))) (group-at h (firsts h (inl refl)) n o)
          ∙ groups-at os (λ g among. firsts g (inr among)) n (or_else (kept_if (λ i. is_with h (n, i)) (kept_if (λ i. of_seller (seller_of h) (n, i)) (entry_at waiting n))) o)
          ∙ join (entry_at waiting n)
        where
          tests : (i : Item) (m w r : Bool) → is_with h (n, i) ≡ w
              → or_else (cond r (Some i) None) (or_else (kept_if (λ i. is_with h (n, i)) (cond m (Some i) None)) o) ≡ or_else (cond ((m && w) || r) (Some i) None) o
          tests i true true true is = refl
          tests i true true false is = ap (λ b. or_else (cond b (Some i) None) o) is
          tests i true false true is = refl
          tests i true false false is = ap (λ b. or_else (cond b (Some i) None) o) is
          tests i false w r is = refl

          turned : (a b : ℕ) → (a == b) ≡ (b == a)
          turned a b = grind (arith, nat_tests)

          join : (e : Option Item) → or_else (kept_if (λ i. goes os (n, i)) e) (or_else (kept_if (λ i. is_with h (n, i)) (kept_if (λ i. of_seller (seller_of h) (n, i)) e)) o) ≡ or_else (kept_if (λ i. goes (h ∷ os) (n, i)) e) o
          join None = refl
          join (Some i) =
              tests i (of_seller (seller_of h) (n, i)) (is_with h (n, i)) (goes os (n, i)) refl
              ∙ ap (λ b. or_else (cond ((b && is_with h (n, i)) || goes os (n, i)) (Some i) None) o) (turned i.key.seller (seller_of h))

      -- the packages that were picked are those that a delivery takes
      pub picked-taken : (picked : List (ℕ × Item)) → IsStrictlySortedBy nat_cmp (keys_of picked) → ((n : ℕ) → entry_at picked n ≡ put_at n None (groups_of queues turns)) → picked ≡ taken_of waiting
      picked-taken picked ordered each =
          same_entries picked (taken_of waiting) ordered (rising-filter (goes (served_of waiting)) waiting rise)
          (λ n. each n ∙ ap (λ ts. put_at n None (groups_of queues ts)) are ∙ groups-at (served_of waiting) is_first n None ∙ or_none (kept_if (λ i. goes (served_of waiting) (n, i)) (entry_at waiting n))
          ∙ sym (entry_at-filter (goes (served_of waiting)) waiting rise n))
        where
          or_none : (e : Option Item) → or_else e None ≡ e
          or_none None = refl
          or_none (Some i) = refl
