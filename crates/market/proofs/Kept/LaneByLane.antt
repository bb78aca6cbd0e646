-- What the lanes keep of the requests that were given: one request more, and one lane alone.
use Rattle.std.proofs.Common.{◌≡◌, ℕ, ◌≤◌, min, Bool, true, false, not, cond, ◌||◌, ◌⊎◌, inl, inr, ⊎_elim, List, [], ◌∷◌, ◌++◌, length, take, if◌then◌else◌, nat_lt, ◌==◌, count_by, filter, refl, sym, ap, ◌∙◌, subst, append-nil, append_assoc, length-take, arith}
use Rattle.std.specs.List.{list_any}
use Rattle.std.proofs.lemmas.Bool.{false≢true, or_cases, cond_both}
use Rattle.std.proofs.lemmas.Bool.Decides.{nat_tests}
use Rattle.std.proofs.lemmas.List.{take_all, take-append-le, length_push}
use Rattle.std.proofs.lemmas.List.Sums.{length-filter, sum_by_push}
use Rattle.std.proofs.lemmas.List.Elements.{filter-append}
use Rattle.std.proofs.lemmas.List.Folds.{list_any-append}
use Rattle.market_events.specs.declared.requests.Request.{Request}
use Rattle.market_events.specs.Requests.{lane_of, same_id}
use Rattle.market_events.proofs.Values.Same.{same_id-true}
use Rattle.market.specs.Once.{kept_after, kept_where, has_id_of, count_in_lane_of, of_lane, without_repeats, in_room, kept_of, kept_in_lane}

-- an induction over lists that grow at their end

from_pushes_after : {A : Type 0} (P : List A → Type 0) → ((xs : List A) (x : A) → P xs → P (xs ++ x ∷ [])) → (front xs : List A) → P front → P (front ++ xs)
from_pushes_after P push front [] h = subst P (sym (append-nil front)) h
from_pushes_after P push front (x ∷ xs) h = subst P (append_assoc front (x ∷ []) xs) (from_pushes_after P push (front ++ x ∷ []) xs (push front x h))

-- what holds of the empty list, and still with one element more at the end, holds of each list
pub from_pushes : {A : Type 0} (P : List A → Type 0) → P [] → ((xs : List A) (x : A) → P xs → P (xs ++ x ∷ [])) → (xs : List A) → P xs
from_pushes P none push xs = from_pushes_after P push [] xs none

-- one element more at the end

choose_twice : {A : Type 0} (b c : Bool) (y x : A) (xs : List A) → (if b then y ∷ (if c then xs ++ x ∷ [] else xs) else (if c then xs ++ x ∷ [] else xs)) ≡ (if c then (if b then y ∷ xs else xs) ++ x ∷ [] else (if b then y ∷ xs else xs))
choose_twice true true y x xs = refl
choose_twice true false y x xs = refl
choose_twice false true y x xs = refl
choose_twice false false y x xs = refl

-- of `kept_after`: the element is tested with all that stands before it
pub kept_after-push : {A : Type 0} (p : List A → A → Bool) (front xs : List A) (x : A) → kept_after p front (xs ++ x ∷ []) ≡ (if p (front ++ xs) x then kept_after p front xs ++ x ∷ [] else kept_after p front xs)
kept_after-push p front [] x = rw append-nil
kept_after-push p front (y ∷ ys) x =
    rw (kept_after-push p (front ++ y ∷ []) ys x, append_assoc front (y ∷ []) ys)
    (choose_twice (p front y) (p (front ++ y ∷ ys) x) y x (kept_after p (front ++ y ∷ []) ys))

-- of `kept_where`: the element is tested with the whole list before it
pub kept_where-push : {A : Type 0} (p : List A → A → Bool) (xs : List A) (x : A) → kept_where p (xs ++ x ∷ []) ≡ (if p xs x then kept_where p xs ++ x ∷ [] else kept_where p xs)
kept_where-push p xs x = kept_after-push p [] xs x

-- of a filter
pub filter-push : {A : Type 0} (p : A → Bool) (xs : List A) (x : A) → filter p (xs ++ x ∷ []) ≡ (if p x then filter p xs ++ x ∷ [] else filter p xs)
filter-push p xs x = grind (arith, filter-append p xs (x ∷ []), append-nil (filter p xs))

-- of the first n elements
pub take-push : {A : Type 0} (n : ℕ) (xs : List A) (x : A) → take n (xs ++ x ∷ []) ≡ (if nat_lt (length xs) n then take n xs ++ x ∷ [] else take n xs)
take-push n xs x =
    grind (arith, nat_tests, take-append-le n xs (x ∷ []), take_all n xs, take_all n (xs ++ x ∷ []), length_push xs x)

-- of the requests with other ids
pub without_repeats-push : (given : List Request) (r : Request) → without_repeats (given ++ r ∷ []) ≡ (if not (has_id_of given r) then without_repeats given ++ r ∷ [] else without_repeats given)
without_repeats-push given r = kept_where-push (λ before x. not (has_id_of before x)) given r

-- of the requests that their lanes have room for
pub in_room-push : (most : ℕ) (given : List Request) (r : Request) → in_room most (given ++ r ∷ []) ≡ (if nat_lt (count_in_lane_of given r) most then in_room most given ++ r ∷ [] else in_room most given)
in_room-push most given r = kept_where-push (λ before x. nat_lt (count_in_lane_of before x) most) given r

-- of the requests of one lane
pub of_lane-push : (lane : ℕ) (xs : List Request) (r : Request) → of_lane lane (xs ++ r ∷ []) ≡ (if lane_of r.id == lane then of_lane lane xs ++ r ∷ [] else of_lane lane xs)
of_lane-push lane xs r = filter-push (λ (q : Request). lane_of q.id == lane) xs r

-- of the test for an id
pub has_id_of-push : (xs : List Request) (q r : Request) → has_id_of (xs ++ q ∷ []) r ≡ (has_id_of xs r || same_id q.id r.id)
has_id_of-push xs q r = grind (arith, list_any-append (λ (x : Request). same_id x.id r.id) xs (q ∷ []))

-- requests with one id

lane_of-same : (q r : Request) → same_id q.id r.id ≡ true → lane_of q.id ≡ lane_of r.id
lane_of-same q r same = ap lane_of (same_id-true q.id r.id same)

has_id_of-same : (xs : List Request) (q r : Request) → same_id q.id r.id ≡ true → has_id_of xs q ≡ has_id_of xs r
has_id_of-same xs q r same = ap (λ id. list_any (λ (x : Request). same_id x.id id) xs) (same_id-true q.id r.id same)

pub count_in_lane_of-same : (xs : List Request) (q r : Request) → same_id q.id r.id ≡ true → count_in_lane_of xs q ≡ count_in_lane_of xs r
count_in_lane_of-same xs q r same = ap (λ id. count_by (λ (x : Request). lane_of x.id == lane_of id) xs) (same_id-true q.id r.id same)

-- leaving repeats out loses no id
pub has_id_of-without_repeats : (given : List Request) (r : Request) → has_id_of (without_repeats given) r ≡ has_id_of given r
has_id_of-without_repeats given r =
    from_pushes (λ xs. has_id_of (without_repeats xs) r ≡ has_id_of xs r) refl
    (λ xs q ih. grind (arith, without_repeats-push xs q, has_id_of-push xs q r, has_id_of-push (without_repeats xs) q r, has_id_of-same xs q r)) given

-- what was not given is not kept
pub has_id_of-in_room : (most : ℕ) (given : List Request) (r : Request) → has_id_of given r ≡ false → has_id_of (in_room most given) r ≡ false
has_id_of-in_room most given r =
    from_pushes (λ xs. has_id_of xs r ≡ false → has_id_of (in_room most xs) r ≡ false) (λ _. refl)
    (λ xs q ih absent. grind (arith, in_room-push most xs q, has_id_of-push xs q r, has_id_of-push (in_room most xs) q r)) given

-- one lane alone

has_id_of-of_lane : (lane : ℕ) (given : List Request) (r : Request) → lane_of r.id ≡ lane → has_id_of (of_lane lane given) r ≡ has_id_of given r
has_id_of-of_lane lane given r there =
    from_pushes (λ xs. has_id_of (of_lane lane xs) r ≡ has_id_of xs r) refl
    (λ xs q ih. grind (arith, nat_tests, of_lane-push lane xs q, has_id_of-push xs q r, has_id_of-push (of_lane lane xs) q r, lane_of-same q r)) given

count_in_lane_of-length : (lane : ℕ) (xs : List Request) (r : Request) → lane_of r.id ≡ lane → count_in_lane_of xs r ≡ length (of_lane lane xs)
count_in_lane_of-length lane xs r there =
    ap (λ l. count_by (λ (q : Request). lane_of q.id == l) xs) there ∙ sym (length-filter (λ (q : Request). lane_of q.id == lane) xs)

-- leaving repeats out of one lane is the same before and after the others are left out
pub of_lane-without_repeats : (lane : ℕ) (given : List Request) → of_lane lane (without_repeats given) ≡ without_repeats (of_lane lane given)
of_lane-without_repeats lane given =
    from_pushes (λ xs. of_lane lane (without_repeats xs) ≡ without_repeats (of_lane lane xs)) refl
    (λ xs q ih. grind (arith, nat_tests, of_lane-push lane xs q, of_lane-push lane (without_repeats xs) q, without_repeats-push xs q, without_repeats-push (of_lane lane xs) q, has_id_of-of_lane lane xs q)) given

-- there is room for the first requests of each lane
pub of_lane-in_room : (most lane : ℕ) (given : List Request) → of_lane lane (in_room most given) ≡ take most (of_lane lane given)
of_lane-in_room most lane given =
    from_pushes (λ xs. of_lane lane (in_room most xs) ≡ take most (of_lane lane xs)) (sym (take_all most [] (omega arith)))
    (λ xs q ih. grind (arith, nat_tests, of_lane-push lane xs q, of_lane-push lane (in_room most xs) q, in_room-push most xs q, take-push most (of_lane lane xs) q, count_in_lane_of-length lane xs q)) given

-- of what all lanes keep, the requests of one lane are what that lane keeps of its own
pub of_lane-kept_of : (most lane : ℕ) (given : List Request) → of_lane lane (kept_of most given) ≡ kept_in_lane most lane given
of_lane-kept_of most lane given = of_lane-in_room most lane (without_repeats given) ∙ ap (take most) (of_lane-without_repeats lane given)

-- a lane keeps all its requests, or as many as it can
pub count_by-in_room : (most lane : ℕ) (given : List Request) → count_by (λ (q : Request). lane_of q.id == lane) (in_room most given) ≡ min most (count_by (λ (q : Request). lane_of q.id == lane) given)
count_by-in_room most lane given =
    let in_lane = λ (q : Request). lane_of q.id == lane in
    sym (length-filter in_lane (in_room most given)) ∙ ap length (of_lane-in_room most lane given) ∙ length-take most (of_lane lane given) ∙ ap (min most) (length-filter in_lane given)

-- no lane keeps more than it can
pub kept_count : (most : ℕ) (given : List Request) (lane : ℕ) → count_by (λ (q : Request). lane_of q.id == lane) (kept_of most given) ≤ most
kept_count most given lane = omega (arith, count_by-in_room most lane (without_repeats given))

-- a request whose id was given is kept, or its lane is full

abbrev IsDecided : ℕ → List Request → Request → Type 0
IsDecided most kept r = (has_id_of kept r ≡ true) ⊎ (nat_lt (count_in_lane_of kept r) most ≡ false)

is_decided-push : (most : ℕ) (kept : List Request) (q r : Request) → IsDecided most kept r ⊎ (same_id q.id r.id ≡ true) → IsDecided most (kept ++ q ∷ []) r
is_decided-push most kept q r h =
    grind (arith, nat_tests, has_id_of-push kept q r, sum_by_push (λ (x : Request). cond (lane_of x.id == lane_of r.id) 1 0) kept q)

-- the request that has the id was left out
is_decided-full : (most : ℕ) (given : List Request) (q r : Request) → nat_lt (count_in_lane_of given q) most ≡ false → same_id q.id r.id ≡ true → IsDecided most (in_room most given) r
is_decided-full most given q r full same =
    grind (arith, nat_tests, count_in_lane_of-same given q r same, count_by-in_room most (lane_of r.id) given)

is_decided-more : (most : ℕ) (given : List Request) (q r : Request) → IsDecided most (in_room most given) r ⊎ (same_id q.id r.id ≡ true) → IsDecided most (in_room most (given ++ q ∷ [])) r
is_decided-more most given q r h =
    rw (in_room-push most given q)
    (cond_both (nat_lt (count_in_lane_of given q) most) (in_room most given ++ q ∷ []) (in_room most given) (λ kept. IsDecided most kept r)
    (λ _. is_decided-push most (in_room most given) q r h)
    (λ full. ⊎_elim (λ before. before) (is_decided-full most given q r full) h))

is_decided-in_room : (most : ℕ) (given : List Request) (r : Request) → has_id_of given r ≡ true → IsDecided most (in_room most given) r
is_decided-in_room most given r =
    from_pushes (λ xs. has_id_of xs r ≡ true → IsDecided most (in_room most xs) r) (λ h. absurd (false≢true h))
    (λ xs q ih found. is_decided-more most xs q r
    (⊎_elim (λ earlier. inl (ih earlier)) (λ same. inr same) (or_cases (has_id_of xs r) (same_id q.id r.id) (sym (has_id_of-push xs q r) ∙ found)))) given

-- a request whose id was given is kept, or its lane is full
pub decided : (most : ℕ) (given : List Request) (r : Request) → has_id_of given r ≡ true → (has_id_of (kept_of most given) r ≡ true) ⊎ (nat_lt (count_in_lane_of (kept_of most given) r) most ≡ false)
decided most given r found = is_decided-in_room most (without_repeats given) r (has_id_of-without_repeats given r ∙ found)

-- whether the next request is kept shows in what is kept
pub kept_of-push : (most : ℕ) (given : List Request) (r : Request) → kept_of most (given ++ r ∷ []) ≡ (if has_id_of (kept_of most given) r || not (nat_lt (count_in_lane_of (kept_of most given) r) most) then kept_of most given else kept_of most given ++ r ∷ [])
kept_of-push most given r =
    grind (
      arith,
      nat_tests,
      without_repeats-push given r,
      in_room-push most (without_repeats given) r,
      decided most given r,
      has_id_of-in_room most (without_repeats given) r,
      has_id_of-without_repeats given r,
      count_by-in_room most (lane_of r.id) (without_repeats given),
    )

-- no two requests that are kept have one id
pub kept_ids_differ : (most : ℕ) (given : List Request) → without_repeats (kept_of most given) ≡ kept_of most given
kept_ids_differ most given =
    from_pushes (λ xs. without_repeats (kept_of most xs) ≡ kept_of most xs) refl
    (λ xs q ih. grind (arith, kept_of-push most xs q, without_repeats-push (kept_of most xs) q)) given
