-- Requests answered one after the other: one more at the end, and what is found of them.
use Rattle.std.proofs.Common.{◌≡◌, ℕ, ◌+◌, ◌*◌, ◌%◌, ◌<◌, ◌≤◌, Bool, true, false, cond, ◌||◌, nat_lt, zero, List, [], ◌∷◌, ◌++◌, length, Option, Some, is_some, fold, ◌==◌, suc, refl, ap, ◌∙◌, sym, arith, zero-mul, suc-mul}
use Rattle.std.specs.List.{count_by}
use Rattle.std.proofs.lemmas.Bool.Decides.{nat_tests}
use Rattle.std.proofs.lemmas.List.Sums.{sum_by-cons}
use Rattle.market_events.specs.declared.lanes.TheConstants.{LANES}
use Rattle.market_events.specs.declared.requests.Request.{Request}
use Rattle.market_events.specs.Requests.{lane_of, same_id}
use Rattle.market.specs.declared.lanes.Kept.{Kept}
use Rattle.market.specs.Lanes.{kept_at, count_in_lane}
use Rattle.market.specs.Once.{has_id_of, count_in_lane_of, kept_of}
use Rattle.market_history.specs.Acts.{Acts}
use Rattle.market_history.specs.Once.{most_kept}
use Rattle.market_history.specs.Sequential.{sequential_reply, sequential_step, acts_after}
use Rattle.market.specs.Replies.{replies_after}
use Rattle.market.proofs.Kept.LaneByLane.{kept_count}

-- the replies and the acts with one request more
pub replies_after-push : (acts : Acts) (requests : List Request) (r : Request) → replies_after acts (requests ++ r ∷ [])
    ≡ replies_after acts requests ++ record { request = r; reply = sequential_reply (acts_after acts requests) r } ∷ []
replies_after-push acts [] r = refl
replies_after-push acts (q ∷ qs) r = ap (λ rest. record { request = q; reply = sequential_reply acts q } ∷ rest) (replies_after-push (sequential_step acts q) qs r)

pub acts_after-push : (acts : Acts) (requests : List Request) (r : Request) → acts_after acts (requests ++ r ∷ []) ≡ sequential_step (acts_after acts requests) r
acts_after-push acts [] r = refl
acts_after-push acts (q ∷ qs) r = acts_after-push (sequential_step acts q) qs r

-- what is kept with an id, and in a lane

some_first : {A : Type 0} (b : Bool) (x : A) (o : Option A) → is_some (cond b (Some x) o) ≡ (b || is_some o)
some_first true x o = refl
some_first false x o = refl

pub is_some-kept_at : (acts : Acts) (requests : List Request) (r : Request) → is_some (kept_at (replies_after acts requests) r.id) ≡ has_id_of requests r
is_some-kept_at acts [] r = refl
is_some-kept_at acts (q ∷ qs) r =
    some_first (same_id q.id r.id) (record { request = q; reply = sequential_reply acts q }) (kept_at (replies_after (sequential_step acts q) qs) r.id)
    ∙ ap (λ rest. same_id q.id r.id || rest) (is_some-kept_at (sequential_step acts q) qs r)

count_from : (n lane : ℕ) (acts : Acts) (requests : List Request)
    → fold (λ (a : ℕ) (k : Kept). a + cond (lane_of k.request.id == lane) 1 0) n (replies_after acts requests)
    ≡ fold (λ (a : ℕ) (q : Request). a + cond (lane_of q.id == lane) 1 0) n requests
count_from n lane acts [] = refl
count_from n lane acts (q ∷ qs) = count_from (n + cond (lane_of q.id == lane) 1 0) lane (sequential_step acts q) qs

pub count_in_lane-replies : (acts : Acts) (requests : List Request) (r : Request) → count_in_lane (replies_after acts requests) r.id ≡ count_in_lane_of requests r
count_in_lane-replies acts requests r = count_from 0 (lane_of r.id) acts requests

-- the lanes together keep no more than each of them keeps at most

-- the requests of the first lanes
abbrev below : ℕ → List Request → ℕ
below n requests = count_by (λ (q : Request). nat_lt (lane_of q.id) n) requests

-- those of one lane
abbrev in_lane : ℕ → List Request → ℕ
in_lane lane requests = count_by (λ (q : Request). lane_of q.id == lane) requests

one_lane_more : (lane n a b c : ℕ) → a ≡ b + c → cond (nat_lt lane (suc n)) 1 0 + a ≡ (cond (nat_lt lane n) 1 0 + b) + (cond (lane == n) 1 0 + c)
one_lane_more lane n a b c e = grind (arith, nat_tests)

below-next : (n : ℕ) (requests : List Request) → below (suc n) requests ≡ below n requests + in_lane n requests
below-next n [] = refl
below-next n (q ∷ qs) =
    sum_by-cons (λ (q : Request). cond (nat_lt (lane_of q.id) (suc n)) 1 0) q qs
    ∙ one_lane_more (lane_of q.id) n (below (suc n) qs) (below n qs) (in_lane n qs) (below-next n qs)
    ∙ sym (ap (λ k. k + in_lane n (q ∷ qs)) (sum_by-cons (λ (q : Request). cond (nat_lt (lane_of q.id) n) 1 0) q qs)
    ∙ ap (λ k. (cond (nat_lt (lane_of q.id) n) 1 0 + below n qs) + k) (sum_by-cons (λ (q : Request). cond (lane_of q.id == n) 1 0) q qs))

below-none : (requests : List Request) → below 0 requests ≤ 0
below-none [] = omega arith
below-none (q ∷ qs) = grind (arith, nat_tests, sum_by-cons (λ (q : Request). cond (nat_lt (lane_of q.id) 0) 1 0) q qs, below-none qs)

below-le : (most n : ℕ) (requests : List Request) → ((lane : ℕ) → in_lane lane requests ≤ most) → below n requests ≤ n * most
below-le most zero requests each = omega (arith, below-none requests, zero-mul most)
below-le most (suc n) requests each = omega (arith, suc-mul n most, below-next n requests, below-le most n requests each, each n)

below-all : (requests : List Request) → below LANES requests ≡ length requests
below-all [] = refl
below-all (q ∷ qs) = all (lane_of q.id) (sum_by-cons (λ (q : Request). cond (nat_lt (lane_of q.id) LANES) 1 0) q qs) (below-all qs) (lane_within q.id.caller)
  where
    lane_within : (n : ℕ) → n % LANES < LANES
    lane_within n = omega arith

    all : (lane : ℕ) → below LANES (q ∷ qs) ≡ cond (nat_lt lane LANES) 1 0 + below LANES qs → below LANES qs ≡ length qs → lane < LANES → below LANES (q ∷ qs) ≡ suc (length qs)
    all lane e rest within = grind (arith, nat_tests)

pub kept_few : (given : List Request) → length (kept_of most_kept given) ≤ 262_144
kept_few given =
    omega (arith, below-all (kept_of most_kept given), below-le most_kept LANES (kept_of most_kept given) (kept_count most_kept given))
