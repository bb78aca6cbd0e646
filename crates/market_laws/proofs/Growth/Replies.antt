-- What a lane answers is well formed and can be kept, where what it took is well formed and its link can carry it.
use Rattle.std.proofs.Common.{◌≡◌, ℕ, Bool, true, false, nat_lt, List, [], ◌∷◌, if◌then◌else◌, sym, subst}
use Rattle.std.specs.Prelude.{fold, map}
use Rattle.std.specs.List.{AllByRecursion}
use Rattle.std.specs.Option.{option_to_list}
use Rattle.market_events.specs.declared.bodies.Body.{Body}
use Rattle.market_events.specs.declared.bodies.Body.TheVariants as body
use Rattle.market_events.specs.declared.events.Entry.{Entry}
use Rattle.market_events.specs.declared.events.Event.{Event}
use Rattle.market_events.specs.declared.events.What.{What}
use Rattle.market_events.specs.declared.events.What.TheVariants.{Given, Taken, Made, Answered}
use Rattle.market_events.specs.declared.links.Link.{Link}
use Rattle.market_events.specs.Carried.{carries}
use Rattle.market_events.specs.declared.roles.Role.{Role}
use Rattle.market_events.specs.Services.{reactions}
use Rattle.market_events.specs.Steps.{Step, Sending}
use Rattle.market_events.specs.WellFormed.{IsRequestId, IsReply, IsBody}
use Rattle.market_history.specs.Blocks.{Input, Out, role_at, steps_of, made_out, service_outs, told_outs, lane_outs, services, node_outs, Arrival, what_of, input_of, inputs_of, with_what, with_out}
use Rattle.market_history.specs.Causality.{event_taken, events_taken}
use Rattle.market_history.specs.Journals.{CanBeKept}
use Rattle.market_history.proofs.GrowLaws.{entry_of, what_left, with_out-is, outs_after, grow-is, events_taken-grow}
use Rattle.market_history.proofs.ReplyLaws.{told-kept}
use Rattle.market_laws.specs.Grown.{Grown, nothing, more}
use Rattle.market_laws.proofs.Growth.Members.{all-append, all-front, all-back}

-- an answer is well formed, and can be kept
abbrev pub IsAnswered : What → Type 0
IsAnswered (Given request) = Unit {0}
IsAnswered (Taken event) = Unit {0}
IsAnswered (Made event) = Unit {0}
IsAnswered (Answered id reply) = IsRequestId id × IsReply reply × CanBeKept reply

abbrev IsAnswer : Out → Type 0
IsAnswer (Out.Makes link b) = Unit {0}
IsAnswer (Out.Answers id reply) = IsRequestId id × IsReply reply × CanBeKept reply

-- the body is well formed, and the link can carry it
abbrev pub IsCarried : Link → Body → Type 0
IsCarried from b = IsBody b × (carries from b ≡ true)

abbrev IsFormedInput : Input → Type 0
IsFormedInput (Input.Gives request) = Unit {0}
IsFormedInput (Input.Takes from b) = IsCarried from b

made_answers : (made : List Sending) → AllByRecursion IsAnswer (map made_out made)
made_answers [] = tt
made_answers (s ∷ ss) = (tt, made_answers ss)

service_answers : (role : Role) (steps : List Step) (input : Input) → AllByRecursion IsAnswer (service_outs role steps input)
service_answers role steps (Input.Gives request) = tt
service_answers role steps (Input.Takes from b) = made_answers (reactions role steps from b)

told_answers : (from : Link) (b : Body) → IsCarried from b → AllByRecursion IsAnswer (told_outs b)
told_answers from (body.Told id reply) ok = ((ok.0.0, ok.0.1, told-kept from id reply ok.1), tt)
told_answers from other ok = tt

lane_answers : (input : Input) → IsFormedInput input → AllByRecursion IsAnswer (lane_outs input)
lane_answers (Input.Gives request) ok = (tt, tt)
lane_answers (Input.Takes from b) ok = told_answers from b ok

node_answers : (n : ℕ) (before : List Input) (input : Input) → IsFormedInput input → AllByRecursion IsAnswer (node_outs n before input)
unfolding node_outs
node_answers n before input ok = by (nat_lt n services)
  where
    by : (test : Bool) → AllByRecursion IsAnswer (if test then service_outs (role_at n) (steps_of (role_at n) before) input else lane_outs input)
    by true = service_answers (role_at n) (steps_of (role_at n) before) input
    by false = lane_answers input ok

left_answered : (before : List Entry) (out : Out) → IsAnswer out → IsAnswered (what_left before out)
left_answered before (Out.Makes link b) ok = tt
left_answered before (Out.Answers id reply) ok = ok

outs_answered : (j : List Entry) (outs : List Out) → AllByRecursion (λ (x : Entry). IsAnswered x.what) j → AllByRecursion IsAnswer outs → AllByRecursion (λ (x : Entry). IsAnswered x.what) (fold with_out j outs)
outs_answered j [] each ok = each
outs_answered j (out ∷ outs) each ok =
    outs_answered (with_out j out) outs
    (subst (AllByRecursion (λ (x : Entry). IsAnswered x.what)) (sym (with_out-is j out))
    (all-append (λ (x : Entry). IsAnswered x.what) j (entry_of j (what_left j out) ∷ []) each (left_answered j out ok.0, tt))) ok.1

arrival_answered : (a : Arrival) → IsAnswered (what_of a)
arrival_answered (Arrival.Gives request) = tt
arrival_answered (Arrival.Takes event) = tt

arrival_formed : (a : Arrival) → AllByRecursion (λ (e : Event). IsCarried e.link e.body) (option_to_list (event_taken (what_of a))) → IsFormedInput (input_of a)
arrival_formed (Arrival.Gives request) ok = tt
arrival_formed (Arrival.Takes event) ok = ok.0

-- in a grown journal whose taken events are well formed and carried, each answer is well formed and can be kept
pub grown-answered : (n : ℕ) {j : List Entry} → Grown n j → AllByRecursion (λ (e : Event). IsCarried e.link e.body) (events_taken j) → AllByRecursion (λ (x : Entry). IsAnswered x.what) j
grown-answered n nothing formed = tt
grown-answered n (more j a grown ready) formed =
    let split = subst (AllByRecursion (λ (e : Event). IsCarried e.link e.body)) (events_taken-grow n j a) formed in
    let front = all-front (λ (e : Event). IsCarried e.link e.body) (events_taken j) (option_to_list (event_taken (what_of a))) split in
    let back = all-back (λ (e : Event). IsCarried e.link e.body) (events_taken j) (option_to_list (event_taken (what_of a))) split in
    subst (AllByRecursion (λ (x : Entry). IsAnswered x.what)) (sym (grow-is n j a))
    (outs_answered (with_what j (what_of a)) (outs_after n j a)
    (all-append (λ (x : Entry). IsAnswered x.what) j (entry_of j (what_of a) ∷ []) (grown-answered n grown front) (arrival_answered a, tt))
    (node_answers n (inputs_of j) (input_of a) (arrival_formed a back)))
