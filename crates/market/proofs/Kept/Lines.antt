-- The answer to a request stays what it was when it was given.
use Rattle.std.proofs.Common.{◌≡◌, ℕ, ◌+◌, ◌<◌, ◌≤◌, Bool, true, false, not, cond, ◌||◌, nat_lt, ◌⊎◌, inl, inr, ⊎_elim, List, [], ◌∷◌, ◌++◌, Option, Some, None, is_some, find, length, take, get_or, refl, ap, ap₂, ◌∙◌, sym, subst}
use Rattle.std.specs.List.{flat_map}
use Rattle.std.specs.Option.{option_or}
use Rattle.std.proofs.lemmas.Bool.{false≢true}
use Rattle.std.proofs.lemmas.List.Concat.{flat_map-append}
use Rattle.std.proofs.lemmas.List.{append-nil, take_more, take_all}
use Rattle.market_events.specs.declared.requests.Request.{Request}
use Rattle.market_events.specs.Requests.{same_id}
use Rattle.market_events.specs.Texts.{text_of_reply}
use Rattle.market_events.specs.declared.replies.Reply.{Reply}
use Rattle.market_events.proofs.Values.Same.{same_id-self}
use Rattle.market.specs.declared.hand.Hand.{Hand}
use Rattle.market.specs.declared.lanes.Kept.{Kept}
use Rattle.market.specs.Hand.{kept_replies, HandStands}
use Rattle.market.specs.Lanes.{kept_at}
use Rattle.market.specs.Once.{has_id_of, count_in_lane_of, kept_of, answer_of, answer_kept}
use Rattle.market.specs.Output.{answer_line, count_lines, sequential_output, undone_kept, whole_kept}
use Rattle.market_history.specs.Acts.{no_acts}
use Rattle.market_history.specs.Once.{most_kept}
use Rattle.market_history.specs.Output.{id_and_space}
use Rattle.market_history.specs.Sequential.{acts_after, sequential_reply}
use Rattle.market.specs.Replies.{sequential_replies}
use Rattle.market.proofs.Kept.LaneByLane.{kept_of-push, decided, count_in_lane_of-same}
use Rattle.market.proofs.Kept.Answers.{replies_after-push, is_some-kept_at}

-- what is found with one element more at the end
find-push : {A : Type 0} (p : A → Bool) (xs : List A) (y : A) → find p (xs ++ y ∷ []) ≡ option_or (find p xs) (cond (p y) (Some y) None)
find-push {A = A} p [] y = refl
find-push {A = A} p (x ∷ xs) y = ap (λ o. cond (p x) (Some x) o) (find-push p xs y) ∙ either (p x) (find p xs) (cond (p y) (Some y) None)
  where
    either : (b : Bool) (o last : Option A) → cond b (Some x) (option_or o last) ≡ option_or (cond b (Some x) o) last
    either true o last = refl
    either false o last = refl

-- an element that is not sought alters nothing
found_before : {A : Type 0} (o : Option A) (b : Bool) (y : A) → (is_some o ≡ true) ⊎ (b ≡ false) → option_or o (cond b (Some y) None) ≡ o
found_before (Some x) b y h = refl
found_before None b y h = ⊎_elim (λ found. cc) (λ other. ap (λ c. cond c (Some y) None) other) h

module _ (given : List Request) (r q : Request) (was_given : has_id_of given q ≡ true) where
  -- the request with the id of one that was given is kept, or its lane is full
  apart : has_id_of (kept_of most_kept given) r || not (nat_lt (count_in_lane_of (kept_of most_kept given) r) most_kept) ≡ false
      → (has_id_of (kept_of most_kept given) q ≡ true) ⊎ (same_id r.id q.id ≡ false)
  apart kept = ⊎_elim (λ found. inl found) (λ full. inr (other full (same_id r.id q.id) refl)) (decided most_kept given q was_given)
    where
      other : nat_lt (count_in_lane_of (kept_of most_kept given) q) most_kept ≡ false → (b : Bool) → same_id r.id q.id ≡ b → b ≡ false
      other full false same = refl
      other full true same = absurd (false≢true (no_room (has_id_of (kept_of most_kept given) r) (nat_lt (count_in_lane_of (kept_of most_kept given) r) most_kept)
          (ap (λ n. nat_lt n most_kept) (count_in_lane_of-same (kept_of most_kept given) r q same) ∙ full) kept))
        where
          no_room : (found room : Bool) → room ≡ false → (found || not room) ≡ false → false ≡ true
          no_room true room e k = cc
          no_room false true e k = cc
          no_room false false e k = cc

  -- what is kept with its id stays
  pub stays : kept_at (kept_replies (given ++ r ∷ [])) q.id ≡ kept_at (kept_replies given) q.id
  stays = by (has_id_of (kept_of most_kept given) r || not (nat_lt (count_in_lane_of (kept_of most_kept given) r) most_kept)) refl
    where
      kept : List Request
      kept = kept_of most_kept given

      last : Kept
      last = record { request = r; reply = sequential_reply (acts_after no_acts kept) r }

      by : (b : Bool) → (has_id_of (kept_of most_kept given) r || not (nat_lt (count_in_lane_of (kept_of most_kept given) r) most_kept)) ≡ b
          → kept_at (kept_replies (given ++ r ∷ [])) q.id ≡ kept_at (kept_replies given) q.id
      by true e = ap (λ requests. kept_at (sequential_replies requests) q.id) (kept_of-push most_kept given r ∙ ap (λ b. cond b kept (kept ++ r ∷ [])) e)
      by false e =
          ap (λ requests. kept_at (sequential_replies requests) q.id) (kept_of-push most_kept given r ∙ ap (λ b. cond b kept (kept ++ r ∷ [])) e)
          ∙ ap (λ all. kept_at all q.id) (replies_after-push no_acts kept r)
          ∙ find-push (λ (k : Kept). same_id k.request.id q.id) (sequential_replies kept) last
          ∙ found_before (kept_at (sequential_replies kept) q.id) (same_id r.id q.id) last
          (⊎_elim (λ found. inl (is_some-kept_at no_acts kept q ∙ found)) (λ other. inr other) (apart e))

  pub line_stays : answer_line (kept_replies (given ++ r ∷ [])) q ≡ answer_line (kept_replies given) q
  line_stays = ap (λ o. answer_with o) stays
    where
      answer_with : Option Kept → List ℕ
      answer_with o = id_and_space q.id ++ (text_of_reply (answer_of o q) ++ 10 ∷ [])

-- the lines of all that was given stay
lines_of : (given : List Request) (r : Request) (qs : List Request) → ((q : Request) → has_id_of qs q ≡ true → has_id_of given q ≡ true)
    → flat_map (answer_line (kept_replies (given ++ r ∷ []))) qs ≡ flat_map (answer_line (kept_replies given)) qs
lines_of given r [] all = refl
lines_of given r (q ∷ qs) all =
    ap₂ (λ line lines. line ++ lines) (line_stays given r q (all q (ap (λ b. b || has_id_of qs q) (same_id-self q.id))))
    (lines_of given r qs (λ p h. all p (ap (λ b. same_id q.id p.id || b) h ∙ or_true (same_id q.id p.id))))
  where
    or_true : (b : Bool) → (b || true) ≡ true
    or_true true = refl
    or_true false = refl

-- with one request more there is its line behind them
pub lines-push : (given : List Request) (r : Request) → flat_map (answer_line (kept_replies (given ++ r ∷ []))) (given ++ r ∷ [])
    ≡ flat_map (answer_line (kept_replies given)) given ++ answer_line (kept_replies (given ++ r ∷ [])) r
lines-push given r =
    flat_map-append (answer_line (kept_replies (given ++ r ∷ []))) given (r ∷ [])
    ∙ ap₂ (λ front line. front ++ line) (lines_of given r given (λ q h. h)) (append-nil (answer_line (kept_replies (given ++ r ∷ [])) r))

-- what a hand stands for and the lines of it, with the next of these requests
pub next_line : (after : Hand) (requests : List Request) (i : ℕ) (r : Request) (text written : List ℕ) (reply : Reply) → i < length requests → r ≡ get_or requests i r
    → text ≡ flat_map (answer_line (kept_replies (take i requests))) (take i requests)
    → reply ≡ answer_kept (kept_replies (take i requests ++ r ∷ [])) r → HandStands after (take i requests ++ r ∷ [])
    → written ≡ text ++ (id_and_space r.id ++ (text_of_reply reply ++ 10 ∷ []))
    → HandStands after (take (i + 1) requests) × (written ≡ flat_map (answer_line (kept_replies (take (i + 1) requests))) (take (i + 1) requests))
next_line after requests i r text written reply within here so_far answered stands wrote =
    let front = take i requests in
    let more : take (i + 1) requests ≡ front ++ r ∷ [] = take_more requests i r within ∙ ap (λ last. front ++ last ∷ []) (sym here) in (
      subst (λ given. HandStands after given) (sym more) stands,
      wrote ∙ ap₂ (λ before (last : Reply). before ++ (id_and_space r.id ++ (text_of_reply last ++ 10 ∷ []))) so_far answered ∙ sym (lines-push front r)
          ∙ ap (λ given. flat_map (answer_line (kept_replies given)) given) (sym more),
    )

-- all lines, and those that count
pub all_lines : (hand : Hand) (requests : List Request) (i : ℕ) (text written : List ℕ) (kept whole undone : ℕ) → length requests ≤ i
    → HandStands hand (take i requests) → text ≡ flat_map (answer_line (kept_replies (take i requests))) (take i requests)
    → ((given : List Request) → HandStands hand given → kept ≡ length (kept_replies given)) → ((given : List Request) → HandStands hand given → whole ≡ whole_kept (kept_replies given))
    → ((given : List Request) → HandStands hand given → undone ≡ undone_kept (kept_replies given)) → written ≡ text ++ count_lines kept whole undone → written ≡ sequential_output requests
all_lines hand requests i text written kept whole undone past stands so_far counted whole_counted undone_counted wrote =
    let all : take i requests ≡ requests = take_all i requests past in
    wrote ∙ (λ j. so_far j ++ count_lines (counted (take i requests) stands j) (whole_counted (take i requests) stands j) (undone_counted (take i requests) stands j))
    ∙ ap (λ given. flat_map (answer_line (kept_replies given)) given ++ count_lines (length (kept_replies given)) (whole_kept (kept_replies given)) (undone_kept (kept_replies given))) all
