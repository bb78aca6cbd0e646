-- How the lanes find what they keep: what a place gives, and one request more.
use Rattle.std.proofs.Common.{◌≡◌, ℕ, ◌+◌, ◌<◌, ◌≤◌, Bool, true, false, cond, List, [], ◌∷◌, ◌++◌, Option, None, Some, length, get_or, ◌==◌, nat_lt, ◌&&◌, find, IfSome, refl, sym, ap, ◌∙◌, arith}
use Rattle.std.proofs.Math.ListN.{set}
use Rattle.std.specs.Ordering.{is_eq, nat_cmp, ordering_then}
use Rattle.std.specs.BTreeMap.{is_at}
use Rattle.std.specs.List.{position, position_or_len, slice_get, AllByRecursion}
use Rattle.std.specs.Option.{option_copied, option_or}
use denote.Bor.{Bor}
use Rattle.std.specs.Slice.{IsItemAt}
use Rattle.std.proofs.lemmas.Bool.Decides.{nat_tests}
use Rattle.std.proofs.lemmas.Grind.{common_steps}
use Rattle.std.proofs.lemmas.List.{length_push}
use Rattle.std.proofs.lemmas.List.Sums.{prefix_len-le-length, sum_by_push}
use Rattle.std.proofs.lemmas.List.Folds.{find_at, position_or_len_push}
use Rattle.std.proofs.lemmas.Option.{slice_get_past, slice_get_read, gets}
use Rattle.market_amounts.specs.Keys.{id_cmp}
use Rattle.market_amounts.specs.declared.keys.RequestId.{RequestId}
use Rattle.market_events.specs.Requests.{lane_of, same_id}
use Rattle.market_events.proofs.Values.Same.{same_id-true, same_id-swap}
use Rattle.market.specs.declared.lanes.Kept.{Kept}
use Rattle.market.specs.Lanes.{kept_at, place_of, count_of_lane, place_at, AreLanesOf, IsFormed}
use Rattle.market_events.specs.declared.lanes.TheConstants.{LANES}

-- ids that compare alike are the same

is_eq-pair : (a b x y : ℕ) → is_eq (ordering_then (nat_cmp a x) (nat_cmp b y)) ≡ ((x == a) && (y == b))
is_eq-pair a b x y = grind (arith, nat_tests)

is_at-id_cmp : (id other : RequestId) → is_at (id_cmp id) other ≡ same_id other id
is_at-id_cmp id other = is_eq-pair id.caller id.number other.caller other.number

-- the first place

place_within : (i n j : ℕ) → cond (nat_lt i n) (Some i) None ≡ Some j → i ≡ j
place_within i n j h = grind (arith, nat_tests)

no_place_within : (i n : ℕ) → cond (nat_lt i n) (Some i) None ≡ None → n ≤ i
no_place_within i n h = grind (arith, nat_tests)

past_from_none : {X : Type 0} (xs : List X) (i : ℕ) → slice_get xs i ≡ None → length xs ≤ i
past_from_none xs i h = grind (arith, common_steps, gets)

no_place_past : (i n : ℕ) → n ≤ i → cond (nat_lt i n) (Some i) None ≡ None
no_place_past i n h = grind (arith, nat_tests)

-- what stands at the first place is what a search finds
pub find_at_place : {X : Type 0} (p : X → Bool) (xs : List X) (i : ℕ) → position p xs ≡ Some i → find p xs ≡ slice_get xs i
find_at_place p xs i h = find_at p xs ∙ ap (λ k. slice_get xs k) (place_within (position_or_len p xs) (length xs) i h)

pub find_nowhere : {X : Type 0} (p : X → Bool) (xs : List X) → position p xs ≡ None → find p xs ≡ None
find_nowhere p xs h = find_at p xs ∙ slice_get_past xs (position_or_len p xs) (no_place_within (position_or_len p xs) (length xs) h)

no_place : {X : Type 0} (p : X → Bool) (xs : List X) → find p xs ≡ None → position p xs ≡ None
no_place p xs h = no_place_past (position_or_len p xs) (length xs) (past_from_none xs (position_or_len p xs) (sym (find_at p xs) ∙ h))

place_push : (i n : ℕ) (b : Bool) → i ≤ n
    → cond (nat_lt (cond (i == n) (n + cond b 0 1) i) (n + 1)) (Some (cond (i == n) (n + cond b 0 1) i)) None ≡ option_or (cond (nat_lt i n) (Some i) None) (cond b (Some n) None)
place_push i n true h = grind (arith, nat_tests)
place_push i n false h = grind (arith, nat_tests)

position-push : {X : Type 0} (p : X → Bool) (xs : List X) (y : X) → position p (xs ++ y ∷ []) ≡ option_or (position p xs) (cond (p y) (Some (length xs)) None)
position-push p xs y =
    rw (position_or_len_push p xs y, length_push xs y) (place_push (position_or_len p xs) (length xs) (p y) (prefix_len-le-length _ xs))

-- what is lent at a place is what stands there
pub copied_at : {X : Type 0} (xs : List X) (i : ℕ) (r : Option (Bor X)) → IsItemAt xs i r → option_copied r ≡ slice_get xs i
copied_at xs i None item = sym (slice_get_past xs i item.3)
copied_at xs i (Some x) item = sym (slice_get_read xs (length xs) i x.now refl item.3.0 item.1)

-- one request more

number_or_place : (b : Bool) (n : ℕ) (place : Option ℕ) → (b ≡ true → place ≡ None) → cond b (Some n) place ≡ option_or place (cond b (Some n) None)
number_or_place true n place none = rw (none refl) refl
number_or_place false n None none = refl
number_or_place false n (Some i) none = refl

-- its id stands after those that are kept, and the others where they stood
found-push : (kept : List Kept) (places after : List (RequestId × ℕ)) (k : Kept) → kept_at kept k.request.id ≡ None
    → ((id : RequestId) → place_at after id ≡ cond (is_at (id_cmp k.request.id) id) (Some (length kept)) (place_at places id))
    → ((id : RequestId) → place_at places id ≡ place_of kept id)
    → (id : RequestId) → place_at after id ≡ place_of (kept ++ k ∷ []) id
found-push kept places after k fresh set found id =
    set id
    ∙ ap (λ b. cond b (Some (length kept)) (place_at places id)) (is_at-id_cmp k.request.id id)
    ∙ ap (λ place. cond (same_id id k.request.id) (Some (length kept)) place) (found id)
    ∙ number_or_place (same_id id k.request.id) (length kept) (place_of kept id) (λ same.
    no_place (λ (e : Kept). same_id e.request.id id) kept (ap (λ i. kept_at kept i) (same_id-true id k.request.id same) ∙ fresh))
    ∙ ap (λ b. option_or (place_of kept id) (cond b (Some (length kept)) None)) (same_id-swap id k.request.id)
    ∙ sym (position-push (λ (e : Kept). same_id e.request.id id) kept k)

count_one : (counts : List ℕ) (lane other : ℕ) → lane < length counts → get_or (set counts lane (get_or counts lane 0 + 1)) other 0 ≡ get_or counts other 0 + cond (lane == other) 1 0
count_one counts lane other within = grind (arith, common_steps, nat_tests)

-- its lane has one more, and each other lane as many as before
counted-push : (kept : List Kept) (counts : List ℕ) (k : Kept) (lane : ℕ) → lane ≡ lane_of k.request.id → lane < length counts
    → ((other : ℕ) → other < LANES → get_or counts other 0 ≡ count_of_lane kept other)
    → (other : ℕ) → other < LANES → get_or (set counts lane (get_or counts lane 0 + 1)) other 0 ≡ count_of_lane (kept ++ k ∷ []) other
counted-push kept counts k lane is within counted other h =
    rw (sum_by_push, ← counted other h, ← is) (count_one counts lane other within)

-- well-formed replies stay so, and one that is found is well formed

formed-push : (kept : List Kept) (k : Kept) → AllByRecursion IsFormed kept → IsFormed k → AllByRecursion IsFormed (kept ++ k ∷ [])
formed-push [] k all formed = (formed, tt)
formed-push (x ∷ xs) k all formed = (all.0, formed-push xs k all.1 formed)

pub formed_at : (kept : List Kept) (id : RequestId) → AllByRecursion IsFormed kept → IfSome (kept_at kept id) IsFormed
formed_at [] id all = tt
formed_at (x ∷ xs) id all = by_test (same_id x.request.id id) (formed_at xs id all.1)
  where
    by_test : (b : Bool) → IfSome (kept_at xs id) IsFormed → IfSome (cond b (Some x) (kept_at xs id)) IsFormed
    by_test true rest = all.0
    by_test false rest = rest

pub if_copied : (P : Kept → Type 0) (r : Option (Bor Kept)) → IfSome (option_copied r) P → IfSome r (λ k. P k.now)
if_copied P None h = tt
if_copied P (Some k) h = h

-- with a new id at the end, and one more in its lane, the places and counts are those of the longer list
pub one_kept : (kept new : List Kept) (places after : List (RequestId × ℕ)) (counts : List ℕ) (k : Kept) (lane : ℕ)
    → kept_at kept k.request.id ≡ None → new ≡ kept ++ k ∷ []
    → ((id : RequestId) → place_at after id ≡ cond (is_at (id_cmp k.request.id) id) (Some (length kept)) (place_at places id))
    → lane ≡ lane_of k.request.id → lane < length counts → IsFormed k
    → AreLanesOf kept places counts → AreLanesOf new after (set counts lane (get_or counts lane 0 + 1))
one_kept kept new places after counts k lane fresh pushed set is within formed before = record {
  found = λ id. rw pushed (found-push kept places after k fresh set before.found id);
  formed = rw pushed (formed-push kept k before.formed formed);
  counted = λ other h. rw pushed (counted-push kept counts k lane is within before.counted other h);
}
