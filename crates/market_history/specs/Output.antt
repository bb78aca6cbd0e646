-- What histories come to, and what a run writes of them.
use Rattle.std.specs.Prelude.{ℕ, Bool, true, false, Option, Some, None, List, [], ◌∷◌, ◌++◌, length}
use Rattle.std.specs.Prelude.{codes}
use Rattle.std.specs.Fmt.{decimal}
use Rattle.std.specs.List.{count_by, filter_map, flat_map, range_with_len, sum_by}
use Rattle.market_amounts.specs.declared.keys.RequestId.{RequestId}
use Rattle.market_events.specs.declared.bodies.Body.{Body}
use Rattle.market_events.specs.declared.bodies.Body.TheVariants as body
use Rattle.market_events.specs.declared.events.Entry.{Entry}
use Rattle.market_events.specs.declared.events.What.{What}
use Rattle.market_events.specs.declared.events.What.TheVariants.{Given, Taken, Made, Answered}
use Rattle.market_events.specs.declared.lanes.TheConstants.{LANES}
use Rattle.market_events.specs.declared.links.TheConstants.{PAYMENT_TO_STOCK, PAYMENT_TO_SHIPMENT}
use Rattle.market_events.specs.declared.links.TheConstants.{SHIPMENT_TO_CUSTOMER}
use Rattle.market_events.specs.declared.replies.Reply.{Reply}
use Rattle.market_events.specs.declared.replies.Reply.TheVariants as reply
use Rattle.market_events.specs.declared.requests.Request.{Request}
use Rattle.market_events.specs.Links.{lane_node, payment_node, shipment_node}
use Rattle.market_events.specs.Orders.{items_in}
use Rattle.market_events.specs.Shipments.{packages_in}
use Rattle.market_events.specs.Texts.{text_of_reply}
use Rattle.market_history.specs.declared.schedule.Summary.{Summary}
use Rattle.market_history.specs.Checkouts.{bodies_of}
use Rattle.market_history.specs.Histories.{Histories, journal_at}
use Rattle.market_history.specs.Once.{kept_by, answer_for}
use Rattle.market_history.specs.Outstanding.{outstanding, all_links}
use Rattle.market_history.specs.Sent.{sent, got}

-- a reply that says that a checkout is whole, and one that says that it is undone
abbrev pub says_whole : Reply → Bool
says_whole (reply.Whole total) = true
says_whole other = false

abbrev pub says_undone : Reply → Bool
says_undone (reply.Undone rule) = true
says_undone other = false

-- the reply that was answered, where one was
abbrev pub answered_in : What → Option Reply
answered_in (Given request) = None
answered_in (Taken event) = None
answered_in (Made event) = None
answered_in (Answered id r) = Some r

-- the replies of a lane
abbrev pub replies_of : Histories → ℕ → List Reply
replies_of h lane = filter_map (λ (x : Entry). answered_in x.what) (journal_at h (lane_node lane))

-- over all lanes
abbrev pub over_lanes : (ℕ → ℕ) → ℕ
over_lanes count = sum_by count (range_with_len 0 LANES)

abbrev pub total_confirmed : Body → ℕ
total_confirmed (body.Confirmed checkout customer lines total) = total
total_confirmed other = 0

-- the requests that are kept, the checkouts answered `whole` and `undone`, the events outstanding, the totals
-- paid, and the packages, and those of them that were delivered
abbrev pub summary_of : Histories → Summary
summary_of h = record {
  requests = over_lanes (λ lane. length (kept_by h lane));
  whole = over_lanes (λ lane. count_by says_whole (replies_of h lane));
  undone = over_lanes (λ lane. count_by says_undone (replies_of h lane));
  outstanding = sum_by (λ link. length (outstanding h link)) all_links;
  confirmed = sum_by total_confirmed (bodies_of (sent PAYMENT_TO_STOCK (journal_at h payment_node)));
  packages = length (flat_map packages_in (bodies_of (got PAYMENT_TO_SHIPMENT (journal_at h shipment_node))));
  delivered = length (flat_map items_in (bodies_of (sent SHIPMENT_TO_CUSTOMER (journal_at h shipment_node))));
}

-- the text of an id and the space behind it
abbrev pub id_and_space : RequestId → List ℕ
id_and_space id = decimal id.caller ++ 46 ∷ (decimal id.number ++ 32 ∷ [])

-- the line of an answer
abbrev pub line_of_answer : RequestId → Reply → List ℕ
line_of_answer id r = id_and_space id ++ (text_of_reply r ++ 10 ∷ [])

abbrev pub line_if : RequestId → Option Reply → List ℕ
line_if id None = []
line_if id (Some r) = line_of_answer id r

-- the lines that count: four after a run, and three more after a drive
abbrev pub count_line : List ℕ → ℕ → List ℕ
count_line word n = word ++ (decimal n ++ 10 ∷ [])

abbrev pub run_lines : Summary → List ℕ
run_lines s =
    count_line (codes "requests ") s.requests ++ (count_line (codes "whole ") s.whole
    ++ (count_line (codes "undone ") s.undone ++ count_line (codes "outstanding ") s.outstanding))

abbrev pub drive_lines : Summary → List ℕ
drive_lines s =
    run_lines s ++ (count_line (codes "confirmed ") s.confirmed ++ (count_line (codes "packages ") s.packages
    ++ count_line (codes "delivered ") s.delivered))

-- the output of a run: the answer to each given request, and the lines that count
abbrev pub run_output : Histories → List Request → List ℕ
run_output h given =
    flat_map (λ (r : Request). line_if r.id (answer_for h r)) given ++ run_lines (summary_of h)

-- the output of a drive
abbrev pub drive_output : Histories → List ℕ
drive_output h = drive_lines (summary_of h)
