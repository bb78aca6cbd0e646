-- Each request acts once: which of the given requests the lanes keep.
use Rattle.std.specs.Prelude.{ℕ, Option, Some, None, Bool, not, List, [], ◌∷◌, ◌++◌, if◌then◌else◌, nat_lt}
use Rattle.std.specs.Prelude.{◌==◌, count_by, filter, take}
use Rattle.std.specs.List.{list_any}
use Rattle.market_events.specs.declared.requests.Request.{Request}
use Rattle.market_events.specs.Requests.{lane_of, same_id, same_ask}
use Rattle.market_events.specs.declared.replies.Reply.{Reply}
use Rattle.market_events.specs.declared.replies.Reply.TheVariants.{Refused}
use Rattle.market_events.specs.declared.replies.Rule.TheVariants.{LaneFull, RequestDiffers}
use Rattle.market.specs.declared.lanes.Kept.{Kept}
use Rattle.market.specs.Lanes.{kept_at}

-- the elements of xs that pass p with what stands before them, where front stands before xs
abbrev pub kept_after : {A : Type 0} → (List A → A → Bool) → List A → List A → List A
kept_after p front [] = []
kept_after p front (x ∷ xs) =
    if p front x then x ∷ kept_after p (front ++ x ∷ []) xs else kept_after p (front ++ x ∷ []) xs

-- the elements of a list that pass a test on the elements before them and themselves
abbrev pub kept_where : {A : Type 0} → (List A → A → Bool) → List A → List A
kept_where p xs = kept_after p [] xs

-- some request of the list has this request's id
abbrev pub has_id_of : List Request → Request → Bool
has_id_of requests r = list_any (λ (q : Request). same_id q.id r.id) requests

-- how many requests of the list are of this request's lane
abbrev pub count_in_lane_of : List Request → Request → ℕ
count_in_lane_of requests r = count_by (λ (q : Request). lane_of q.id == lane_of r.id) requests

-- the requests of one lane
abbrev pub of_lane : ℕ → List Request → List Request
of_lane lane requests = filter (λ (q : Request). lane_of q.id == lane) requests

-- each request whose id does not occur earlier
abbrev pub without_repeats : List Request → List Request
without_repeats given = kept_where (λ before r. not (has_id_of before r)) given

-- of each lane's requests the first ones, as many as a lane can keep
abbrev pub in_room : ℕ → List Request → List Request
in_room most requests = kept_where (λ before r. nat_lt (count_in_lane_of before r) most) requests

-- what the lanes keep of the requests that were given
abbrev pub kept_of : ℕ → List Request → List Request
kept_of most given = in_room most (without_repeats given)

-- what one lane keeps: its requests, each whose id does not occur earlier, and of these only the first
abbrev pub kept_in_lane : ℕ → ℕ → List Request → List Request
kept_in_lane most lane given = take most (without_repeats (of_lane lane given))

-- the answer to a request, by what is kept with its id
abbrev pub answer_of : Option Kept → Request → Reply
answer_of None r = Refused LaneFull
answer_of (Some kept) r = if same_ask kept.request.ask r.ask then kept.reply else Refused RequestDiffers

-- the answer to a request that was given: the kept reply where its id is kept with its content,
-- `request_differs` where it is kept with other content, and `lane_full` where it is not kept
abbrev pub answer_kept : List Kept → Request → Reply
answer_kept kept r = answer_of (kept_at kept r.id) r
