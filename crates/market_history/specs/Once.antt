-- Each request acts once: what a lane keeps, what it does with a request that it is given, and the answer to
-- a request.
use Rattle.std.specs.Prelude.{ℕ, Bool, false, not, ◌&&◌, is_some, is_none, nat_lt, Option, Some, None, List}
use Rattle.std.specs.Prelude.{[], ◌∷◌, ◌++◌, length, find, take, filter, ◌==◌, if◌then◌else◌}
use Rattle.std.specs.List.{filter_map, list_any}
use Rattle.market_amounts.specs.declared.keys.RequestId.{RequestId}
use Rattle.market_events.specs.declared.events.Entry.{Entry}
use Rattle.market_events.specs.declared.events.What.{What}
use Rattle.market_events.specs.declared.events.What.TheVariants.{Given, Taken, Made, Answered}
use Rattle.market_events.specs.declared.replies.Reply.{Reply}
use Rattle.market_events.specs.declared.replies.Reply.TheVariants.{Refused}
use Rattle.market_events.specs.declared.replies.Rule.TheVariants.{LaneFull, RequestDiffers}
use Rattle.market_events.specs.declared.requests.Request.{Request}
use Rattle.market_events.specs.Links.{lane_node}
use Rattle.market_events.specs.Requests.{lane_of, same_id, same_ask}
use Rattle.market_events.specs.Stocks.{first_some}
use Rattle.market_history.specs.declared.schedule.Give.{Give}
use Rattle.market_history.specs.declared.schedule.Give.TheVariants as give
use Rattle.market_history.specs.Histories.{Histories, journal_at}

-- how many requests a lane keeps at most
abbrev pub most_kept : ℕ
most_kept = 16_384

-- the request that was given, where one was
abbrev pub request_in : What → Option Request
request_in (Given request) = Some request
request_in (Taken event) = None
request_in (Made event) = None
request_in (Answered id reply) = None

-- the requests that were given to the node, in order
abbrev pub requests_given : List Entry → List Request
requests_given entries = filter_map (λ (x : Entry). request_in x.what) entries

-- the request with this id
abbrev pub with_id : RequestId → List Request → Option Request
with_id id requests = find (λ (r : Request). same_id r.id id) requests

abbrev pub has_id : List Request → RequestId → Bool
has_id requests id = list_any (λ (r : Request). same_id r.id id) requests

-- the reply with which an entry answers this id
abbrev pub reply_in : RequestId → What → Option Reply
reply_in id (Given request) = None
reply_in id (Taken event) = None
reply_in id (Made event) = None
reply_in id (Answered i reply) = if same_id i id then Some reply else None

-- the reply to this id, where the node answered it
abbrev pub reply_of : List Entry → RequestId → Option Reply
reply_of entries id = first_some (λ (x : Entry). reply_in id x.what) entries

-- a request of the lane has no reply yet
abbrev pub is_waiting : List Entry → Bool
is_waiting entries = list_any (λ (r : Request). is_none (reply_of entries r.id)) (requests_given entries)

-- the request differs from the one that is kept with its id
abbrev pub differs : Option Request → Request → Bool
differs None r = false
differs (Some kept) r = not (same_ask kept.ask r.ask)

-- what is done with a request, by what is kept with its id, whether that is answered, whether the lane waits,
-- and whether it has room
abbrev pub give_by : Option Request → Bool → Bool → Bool → Request → Give
give_by kept answered waiting room r =
    if differs kept r then give.Differs
    else if is_some kept && answered then give.Kept
    else if waiting then give.Waiting
    else if room then give.Asked
    else give.Full

-- at a lane with this journal that keeps so many requests at most
abbrev pub give_with : ℕ → List Entry → Request → Give
give_with most entries r =
    give_by (with_id r.id (requests_given entries)) (is_some (reply_of entries r.id)) (is_waiting entries)
    (nat_lt (length (requests_given entries)) most) r

abbrev pub give_of : List Entry → Request → Give
give_of entries r = give_with most_kept entries r

-- the requests that a lane keeps, in order
abbrev pub kept_by : Histories → ℕ → List Request
kept_by h lane = requests_given (journal_at h (lane_node lane))

-- each request whose id does not occur earlier
abbrev pub once_after : List Request → List Request → List Request
once_after front [] = []
once_after front (r ∷ rs) =
    if has_id front r.id then once_after (front ++ r ∷ []) rs else r ∷ once_after (front ++ r ∷ []) rs

-- the requests that a lane keeps once it was given these too: its own, each whose id does not occur earlier,
-- and of all the first, as many as it can keep
abbrev pub kept_with : Histories → ℕ → List Request → List Request
kept_with h lane given =
    take most_kept (once_after [] (kept_by h lane ++ filter (λ (r : Request). lane_of r.id == lane) given))

-- the reply to a request, by the lane's journal
abbrev pub reply_at : Histories → RequestId → Option Reply
reply_at h id = reply_of (journal_at h (lane_node (lane_of id))) id

abbrev pub answer_by : Option Request → Option Reply → Request → Option Reply
answer_by None reply r = Some (Refused LaneFull)
answer_by (Some kept) reply r = if same_ask kept.ask r.ask then reply else Some (Refused RequestDiffers)

-- the answer to a request: the kept reply where its id is kept with its content, `request_differs` where it
-- is kept with other content, and `lane_full` where it is not kept
abbrev pub answer_for : Histories → Request → Option Reply
answer_for h r = answer_by (with_id r.id (kept_by h (lane_of r.id))) (reply_at h r.id) r
