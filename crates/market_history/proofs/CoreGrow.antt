-- How a journal grows by one block at a service and at a lane, and the steps that came to a service.
use Rattle.std.proofs.Common.{◌≡◌, ℕ, ◌+◌, ◌≤◌, true, false, nat_lt, if◌then◌else◌, List, [], ◌∷◌, ◌++◌, length, length-append, refl, ap, ◌∙◌, arith}
use Rattle.std.specs.Prelude.{map, fold}
use Rattle.std.proofs.lemmas.Bool.Decides.{nat_tests}
use Rattle.market_amounts.specs.declared.keys.RequestId.{RequestId}
use Rattle.market_events.specs.declared.bodies.Body.{Body}
use Rattle.market_events.specs.declared.bodies.Body.TheVariants as body
use Rattle.market_events.specs.declared.events.Entry.{Entry}
use Rattle.market_events.specs.declared.events.Event.{Event}
use Rattle.market_events.specs.declared.events.What.{What}
use Rattle.market_events.specs.declared.events.What.TheVariants.{Given, Taken}
use Rattle.market_events.specs.declared.links.Link.{Link}
use Rattle.market_events.specs.declared.links.Link.TheVariants.{Asked}
use Rattle.market_events.specs.declared.replies.Reply.{Reply}
use Rattle.market_events.specs.declared.requests.Request.{Request}
use Rattle.market_events.specs.Links.{service_by_ask}
use Rattle.market_events.specs.Requests.{lane_of}
use Rattle.market_events.specs.declared.roles.Role.{Role}
use Rattle.market_events.specs.Services.{node_of, fits, reactions}
use Rattle.market_events.specs.Standing.{with_step}
use Rattle.market_history.specs.Blocks.{Input, Out, Arrival, inputs_of, services, role_at, with_input, steps_of, made_out, service_outs, told_outs, lane_outs, node_outs, with_what, with_out, grow}
use Rattle.market_history.specs.Stamps.{clock_before, stamp_of}
use Rattle.market_history.proofs.CoreEntries.{inputs_of-push-came, inputs_of-push-left}
use Rattle.market_history.proofs.StampLaws.{clock_before-push}

-- what a service's node makes of a body
node_outs-service : (role : Role) (before : List Input) (from : Link) (b : Body) → node_outs (node_of role) before (Input.Takes from b) ≡ map made_out (reactions role (steps_of role before) from b)
unfolding node_outs
node_outs-service Role.Cart before from b = refl
node_outs-service Role.Product before from b = refl
node_outs-service Role.Stock before from b = refl
node_outs-service Role.Order before from b = refl
node_outs-service Role.Payment before from b = refl
node_outs-service Role.Shipment before from b = refl
node_outs-service Role.Customer before from b = refl
node_outs-service Role.Seller before from b = refl

pub grow-service : (role : Role) (entries : List Entry) (event : Event)
    → grow (node_of role) entries (Arrival.Takes event) ≡ fold with_out (with_what entries (Taken event)) (map made_out (reactions role (steps_of role (inputs_of entries)) event.link event.body))
unfolding grow
grow-service role entries event =
    ap (λ outs. fold with_out (with_what entries (Taken event)) outs) (node_outs-service role (inputs_of entries) event.link event.body)

is_no_service : (n : ℕ) → services ≤ n → nat_lt n services ≡ false
is_no_service n lane = grind (arith, nat_tests)

node_outs-lane : (n : ℕ) (before : List Input) (input : Input) → services ≤ n → node_outs n before input ≡ lane_outs input
unfolding node_outs
node_outs-lane n before input lane =
    ap (λ b. if b then service_outs (role_at n) (steps_of (role_at n) before) input else lane_outs input) (is_no_service n lane)

-- a lane that is given a request asks its service
pub grow-given : (n : ℕ) (entries : List Entry) (r : Request) → services ≤ n
    → grow n entries (Arrival.Gives r) ≡ with_out (with_what entries (Given r)) (Out.Makes (Asked (lane_of r.id) (service_by_ask r.ask)) (body.Asked r))
unfolding grow
grow-given n entries r lane =
    ap (λ outs. fold with_out (with_what entries (Given r)) outs) (node_outs-lane n (inputs_of entries) (Input.Gives r) lane)

-- a lane that is told a reply answers it
pub grow-told : (n : ℕ) (entries : List Entry) (event : Event) (id : RequestId) (reply : Reply) → services ≤ n → event.body ≡ body.Told id reply
    → grow n entries (Arrival.Takes event) ≡ with_out (with_what entries (Taken event)) (Out.Answers id reply)
unfolding grow
grow-told n entries event id reply lane told =
    ap (λ outs. fold with_out (with_what entries (Taken event)) outs)
    (node_outs-lane n (inputs_of entries) (Input.Takes event.link event.body) lane ∙ ap (λ b. told_outs b) told)

-- the length and the clock with one entry more
pub length-with_what : (entries : List Entry) (what : What) → length (with_what entries what) ≡ length entries + 1
length-with_what entries what = length-append entries (record { clock = stamp_of (clock_before entries) what; what = what } ∷ [])

pub clock-with_what : (entries : List Entry) (what : What) → clock_before (with_what entries what) ≡ stamp_of (clock_before entries) what
clock-with_what entries what = clock_before-push entries (record { clock = stamp_of (clock_before entries) what; what = what })

-- what a node makes is nothing that came to it
inputs_of-with_out : (entries : List Entry) (out : Out) → inputs_of (with_out entries out) ≡ inputs_of entries
inputs_of-with_out entries (Out.Makes link b) = inputs_of-push-left entries _ refl
inputs_of-with_out entries (Out.Answers id reply) = inputs_of-push-left entries _ refl

inputs_of-outs : (outs : List Out) (entries : List Entry) → inputs_of (fold with_out entries outs) ≡ inputs_of entries
inputs_of-outs [] entries = refl
inputs_of-outs (out ∷ more) entries = inputs_of-outs more (with_out entries out) ∙ inputs_of-with_out entries out

-- the event that a block begins with is the last that came
pub inputs_of-taken : (n : ℕ) (entries : List Entry) (event : Event) → inputs_of (grow n entries (Arrival.Takes event)) ≡ inputs_of entries ++ Input.Takes event.link event.body ∷ []
unfolding grow
inputs_of-taken n entries event =
    inputs_of-outs (node_outs n (inputs_of entries) (Input.Takes event.link event.body)) (with_what entries (Taken event))
    ∙ inputs_of-push-came entries (record { clock = stamp_of (clock_before entries) (Taken event); what = Taken event }) (Input.Takes event.link event.body) refl

fold_push : {A B : Type 0} (f : B → A → B) (z : B) (xs : List A) (x : A) → fold f z (xs ++ x ∷ []) ≡ f (fold f z xs) x
fold_push f z [] x = refl
fold_push f z (y ∷ ys) x = fold_push f (f z y) ys x

-- an input that fits is one step more
pub steps_of-push : (role : Role) (inputs : List Input) (from : Link) (b : Body) → fits role (steps_of role inputs) from b ≡ true → steps_of role (inputs ++ Input.Takes from b ∷ []) ≡ with_step role (steps_of role inputs) from b
steps_of-push role inputs from b fit =
    fold_push (with_input role) [] inputs (Input.Takes from b)
    ∙ ap (λ test. if test then with_step role (steps_of role inputs) from b else steps_of role inputs) fit

-- the steps after a block that begins with an event that fits
pub steps_of-taken : (n : ℕ) (role : Role) (entries : List Entry) (event : Event) → fits role (steps_of role (inputs_of entries)) event.link event.body ≡ true
    → steps_of role (inputs_of (grow n entries (Arrival.Takes event))) ≡ with_step role (steps_of role (inputs_of entries)) event.link event.body
steps_of-taken n role entries event fit =
    ap (λ inputs. steps_of role inputs) (inputs_of-taken n entries event)
    ∙ steps_of-push role (inputs_of entries) event.link event.body fit
