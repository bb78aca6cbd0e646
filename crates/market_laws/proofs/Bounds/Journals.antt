-- A journal's entries and what it made weigh no more than what it took, and forty for each request.
use Rattle.std.proofs.Common.{◌≡◌, ℕ, ◌+◌, ◌*◌, ◌<◌, ◌≤◌, ◌&&◌, Bool, true, false, nat_lt, List, [], ◌∷◌, ◌++◌, None, length, length-append, append-nil, is_some, ltb-true, if◌then◌else◌, refl, ap, sym, ◌∙◌, subst, arith}
use Rattle.std.specs.Prelude.{fold, map}
use Rattle.std.specs.List.{AllByRecursion}
use Rattle.std.specs.Option.{option_to_list}
use Rattle.std.proofs.lemmas.List.Sums.{sum_by-append, sum_by-cons}
use Rattle.market_events.specs.declared.bodies.Body.{Body}
use Rattle.market_events.specs.declared.bodies.Body.TheVariants as body
use Rattle.market_events.specs.declared.events.Entry.{Entry}
use Rattle.market_events.specs.declared.events.Event.{Event}
use Rattle.market_events.specs.declared.events.What.{What}
use Rattle.market_events.specs.declared.events.What.TheVariants.{Made, Answered}
use Rattle.market_events.specs.declared.links.Link.{Link}
use Rattle.market_events.specs.declared.requests.Request.{Request}
use Rattle.market_events.specs.Carried.{carries}
use Rattle.market_events.specs.Links.{IsLink, receiver_of}
use Rattle.market_events.specs.Services.{answers, fits, reactions}
use Rattle.market_events.specs.Steps.{Sending}
use Rattle.market_history.specs.declared.schedule.Give.TheVariants as give
use Rattle.market_history.specs.Blocks.{Input, Out, role_at, steps_of, made_out, service_outs, told_outs, lane_outs, services, node_outs, Arrival, what_of, input_of, inputs_of, with_what, next_event, with_out, grow}
use Rattle.market_history.specs.Causality.{events_taken, event_taken}
use Rattle.market_history.specs.Lawful.{IsReadyAfter}
use Rattle.market_history.specs.Once.{most_kept, request_in, requests_given, with_id, reply_of, is_waiting, differs, give_of}
use Rattle.market_history.proofs.GrowLaws.{entry_of, outs_after, grow-is, events_taken-grow, requests_given-grow}
use Rattle.market_history.proofs.SentLaws.{filter_map-push}
use Rattle.market_laws.specs.Grown.{Grown, nothing, more, event_made, events_made}
use Rattle.market_laws.proofs.Growth.Members.{all-append}
use Rattle.market_laws.proofs.Bounds.Costs.{answers-covered}
use Rattle.market_laws.proofs.Bounds.Events.{weights}
use Rattle.market_laws.proofs.Growth.Outs.{node_of-role_at}
use Rattle.market_laws.proofs.Bounds.Weights.{weight, costs, weight-low}

-- what a part costs: its entry, and the weight of the link that it is made on
abbrev pub cost : Out → ℕ
cost (Out.Makes link b) = 1 + weight link
cost (Out.Answers id reply) = 1

abbrev pub costs_of : List Out → ℕ
costs_of [] = 0
costs_of (out ∷ outs) = cost out + costs_of outs

-- the entries, and what was made
abbrev pub measure : List Entry → ℕ
measure entries = length entries + weights (events_made entries)

measure-push : (entries : List Entry) (what : What) → measure (with_what entries what) ≡ measure entries + 1 + weights (option_to_list (event_made what))
measure-push entries what =
    let more = filter_map-push (λ (x : Entry). event_made x.what) entries (entry_of entries what) in
    let weighs : weights (events_made (with_what entries what)) ≡ weights (events_made entries) + weights (option_to_list (event_made what)) =
    ap weights more ∙ sum_by-append (λ (e : Event). weight e.link) (events_made entries) (option_to_list (event_made what)) in
    omega (arith, weighs, length-append entries (entry_of entries what ∷ []))

measure-out : (entries : List Entry) (out : Out) → measure (with_out entries out) ≡ measure entries + cost out
measure-out entries (Out.Makes link b) =
    omega (arith, measure-push entries (Made (next_event entries link b)), sum_by-cons (λ (e : Event). weight e.link) (next_event entries link b) [])
measure-out entries (Out.Answers id reply) = omega (arith, measure-push entries (Answered id reply))

measure-outs : (entries : List Entry) (outs : List Out) → measure (fold with_out entries outs) ≡ measure entries + costs_of outs
measure-outs entries [] = omega arith
measure-outs entries (out ∷ outs) = omega (arith, measure-outs (with_out entries out) outs, measure-out entries out)

made_arrival : (arrival : Arrival) → event_made (what_of arrival) ≡ None
made_arrival (Arrival.Gives request) = refl
made_arrival (Arrival.Takes event) = refl

measure-grow : (n : ℕ) (entries : List Entry) (arrival : Arrival) → measure (grow n entries arrival) ≡ measure entries + 1 + costs_of (outs_after n entries arrival)
measure-grow n entries arrival =
    let grown : measure (grow n entries arrival) ≡ measure (with_what entries (what_of arrival)) + costs_of (outs_after n entries arrival) =
    ap measure (grow-is n entries arrival) ∙ measure-outs (with_what entries (what_of arrival)) (outs_after n entries arrival) in
    let none : weights (option_to_list (event_made (what_of arrival))) ≡ 0 = ap (λ o. weights (option_to_list o)) (made_arrival arrival) in
    omega (arith, grown, measure-push entries (what_of arrival), none)

-- what an arrival pays for
abbrev pub paid_by : Arrival → ℕ
paid_by (Arrival.Gives request) = 40
paid_by (Arrival.Takes event) = weight event.link

costs-made : (made : List Sending) → costs_of (map made_out made) ≡ costs made
costs-made [] = refl
costs-made (s ∷ ss) = ap (λ k. 1 + weight s.0 + k) (costs-made ss)

service_pays : (n : ℕ) → n < services → (before : List Input) (from : Link) (b : Body) → carries from b ≡ true → receiver_of from ≡ n → 1 + costs_of (map made_out (reactions (role_at n) (steps_of (role_at n) before) from b)) ≤ weight from
unfolding reactions
service_pays n lt before from b carried into = by (fits (role_at n) (steps_of (role_at n) before) from b)
  where
    by : (test : Bool) → 1 + costs_of (map made_out (if test then answers (role_at n) (steps_of (role_at n) before) from b else [])) ≤ weight from
    by true =
        let covered = answers-covered (role_at n) (steps_of (role_at n) before) from b carried (into ∙ sym (node_of-role_at n lt)) in
        omega (arith, covered, costs-made (answers (role_at n) (steps_of (role_at n) before) from b))
    by false = omega (arith, weight-low from)

told_pays : (b : Body) → costs_of (told_outs b) ≤ 1
told_pays (body.Told id reply) = omega arith
told_pays other = omega arith

-- the outs of a block cost less than what arrived pays for
pub block-pays : (n : ℕ) (before : List Entry) (arrival : Arrival) → IsReadyAfter n before (what_of arrival) → 1 + costs_of (node_outs n (inputs_of before) (input_of arrival)) ≤ paid_by arrival
unfolding node_outs
block-pays n before arrival ready = by (nat_lt n services) refl arrival ready
  where
    by : (test : Bool) → nat_lt n services ≡ test → (a : Arrival) → IsReadyAfter n before (what_of a)
        → 1 + costs_of (if test then service_outs (role_at n) (steps_of (role_at n) (inputs_of before)) (input_of a) else lane_outs (input_of a)) ≤ paid_by a
    by true is (Arrival.Gives request) ok = omega arith
    by true is (Arrival.Takes event) ok = service_pays n (ltb-true n services is) (inputs_of before) event.link event.body ok.2 ok.1
    by false is (Arrival.Gives request) ok = omega arith
    by false is (Arrival.Takes event) ok = omega (arith, weight-low event.link, told_pays event.body)

-- what a journal was paid
abbrev pub paid : List Entry → ℕ
paid entries = weights (events_taken entries) + 40 * length (requests_given entries)

paid-grow : (n : ℕ) (entries : List Entry) (arrival : Arrival) → paid (grow n entries arrival) ≡ paid entries + paid_by arrival
paid-grow n entries arrival = by arrival (events_taken-grow n entries arrival) (requests_given-grow n entries arrival)
  where
    by : (a : Arrival) → events_taken (grow n entries arrival) ≡ events_taken entries ++ option_to_list (event_taken (what_of a)) → requests_given (grow n entries arrival) ≡ requests_given entries ++ option_to_list (request_in (what_of a))
        → paid (grow n entries arrival) ≡ paid entries + paid_by a
    by (Arrival.Gives request) taken given =
        let w : weights (events_taken (grow n entries arrival)) ≡ weights (events_taken entries) = ap weights (taken ∙ append-nil (events_taken entries)) in
        let k : length (requests_given (grow n entries arrival)) ≡ length (requests_given entries) + 1 = ap length given ∙ length-append (requests_given entries) (request ∷ []) in
        omega (arith, w, k)
    by (Arrival.Takes event) taken given =
        let w : weights (events_taken (grow n entries arrival)) ≡ weights (events_taken entries) + weights (event ∷ []) =
        ap weights taken ∙ sum_by-append (λ (e : Event). weight e.link) (events_taken entries) (event ∷ []) in
        let k : length (requests_given (grow n entries arrival)) ≡ length (requests_given entries) = ap length (given ∙ append-nil (requests_given entries)) in
        omega (arith, w, k, sum_by-cons (λ (e : Event). weight e.link) event [])

-- of one grown journal
pub grown-pays : (n : ℕ) {j : List Entry} → Grown n j → measure j ≤ paid j
grown-pays n nothing = omega arith
grown-pays n (more j a grown ready) =
    omega (arith, measure-grow n j a, paid-grow n j a, block-pays n j a ready, grown-pays n grown)

-- a lane that asks a request has room for it
room_of : (kept answered waiting room : Bool) → (if kept then give.Differs else if answered then give.Kept else if waiting then give.Waiting else if room then give.Asked else give.Full) ≡ give.Asked → room ≡ true
room_of true answered waiting room e = let no : ⊥ = cc in absurd no
room_of false true waiting room e = let no : ⊥ = cc in absurd no
room_of false false true room e = let no : ⊥ = cc in absurd no
room_of false false false true e = refl
room_of false false false false e = let no : ⊥ = cc in absurd no

pub asked-room : (entries : List Entry) (r : Request) → give_of entries r ≡ give.Asked → length (requests_given entries) < most_kept
asked-room entries r asked =
    ltb-true (length (requests_given entries)) most_kept
    (room_of (differs (with_id r.id (requests_given entries)) r) (is_some (with_id r.id (requests_given entries)) && is_some (reply_of entries r.id)) (is_waiting entries)
    (nat_lt (length (requests_given entries)) most_kept) asked)

-- a node is given as many requests as a lane keeps at most
pub grown-few : (n : ℕ) {j : List Entry} → Grown n j → length (requests_given j) ≤ most_kept
grown-few n nothing = omega arith
grown-few n (more j a grown ready) = by a ready (requests_given-grow n j a) (grown-few n grown)
  where
    by : (b : Arrival) → IsReadyAfter n j (what_of b) → requests_given (grow n j a) ≡ requests_given j ++ option_to_list (request_in (what_of b)) → length (requests_given j) ≤ most_kept → length (requests_given (grow n j a)) ≤ most_kept
    by (Arrival.Gives request) ok given few =
        let k : length (requests_given (grow n j a)) ≡ length (requests_given j) + 1 = ap length given ∙ length-append (requests_given j) (request ∷ []) in
        omega (arith, k, asked-room j request ok.2)
    by (Arrival.Takes event) ok given few =
        let k : length (requests_given (grow n j a)) ≡ length (requests_given j) = ap length (given ∙ append-nil (requests_given j)) in
        omega (arith, k, few)

-- each event that was taken came on a link that leads here
pub record IsTakenAt (n : ℕ) (event : Event) : Type 0 where
  pub on : IsLink event.link
  pub into : receiver_of event.link ≡ n
  pub carried : carries event.link event.body ≡ true

pub grown-taken : (n : ℕ) {j : List Entry} → Grown n j → AllByRecursion (IsTakenAt n) (events_taken j)
grown-taken n nothing = tt
grown-taken n (more j a grown ready) =
    subst (AllByRecursion (IsTakenAt n)) (sym (events_taken-grow n j a)) (all-append (IsTakenAt n) (events_taken j) (option_to_list (event_taken (what_of a))) (grown-taken n grown) (by a ready))
  where
    by : (b : Arrival) → IsReadyAfter n j (what_of b) → AllByRecursion (IsTakenAt n) (option_to_list (event_taken (what_of b)))
    by (Arrival.Gives request) ok = tt
    by (Arrival.Takes event) ok = (record { on = ok.0; into = ok.1; carried = ok.2 }, tt)
