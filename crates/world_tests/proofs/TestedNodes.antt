-- What the tests know of a lane's core after each call.
use Rattle.std.proofs.Common.{◌≡◌, ◌≢◌, ℕ, ◌+◌, ◌≤◌, Result, Ok, Err, IfOk, OnErr, subst, Bool, true, false, not, max, cond, is_some, is_none, ◌&&◌, Option, List, [], Some, None, length, refl, ap, sym, ◌∙◌, arith}
use denote.Bor.{Bor}
use Rattle.std.specs.Option.{option_copied, option_or}
use Rattle.market_amounts.specs.declared.keys.RequestId.{RequestId}
use Rattle.market_events.specs.declared.bodies.Body.TheVariants as body
use Rattle.market_events.specs.declared.events.Entry.{Entry}
use Rattle.market_events.specs.declared.events.Event.{Event}
use Rattle.market_events.specs.declared.events.What.{What}
use Rattle.market_events.specs.declared.events.What.TheVariants.{Given, Taken, Made, Answered}
use Rattle.market_events.specs.declared.links.Link.TheVariants.{Asked}
use Rattle.market_events.specs.declared.replies.Reply.{Reply}
use Rattle.market_events.specs.declared.requests.Request.{Request}
use Rattle.market_events.specs.Links.{service_by_ask}
use Rattle.market_events.specs.Requests.{lane_of}
use Rattle.market_events.proofs.Values.Same.{same_id-self}
use Rattle.market_history.specs.Blocks.{Arrival, services, with_what, next_event, grow}
use Rattle.market_history.specs.Once.{requests_given, with_id, reply_of}
use Rattle.market_history.specs.Stamps.{clock_before, stamp_of}
use Rattle.market_history.proofs.CoreRequests.{requests_given-push-given, requests_given-push-none, with_id-push}
use Rattle.market_history.proofs.CoreGrow.{grow-given, grow-told, length-with_what, clock-with_what}
use Rattle.market_history.specs.declared.schedule.Give.{Give}
use Rattle.market_history.specs.declared.schedule.Give.TheVariants as give
use Rattle.market_events.specs.declared.events.Offer.{Offer}
use Rattle.market_events.specs.declared.events.Offer.TheVariants as offer
use Rattle.std.specs.declared.alloc.AllocError.{AllocError}
use Rattle.market_node.specs.Cores.{CoreState, with_entries}
use Rattle.market_node.specs.Keeping.{is_awaited}
use Rattle.world_tests.specs.TestedNodes.{tested_node, GrewLittle}

-- a request that is asked first awaits its reply
pub first_awaited : (n : ℕ) (r : Request) → services ≤ n → is_awaited (grow n [] (Arrival.Gives r)) r.id ≡ true
first_awaited n r lane =
    ap (λ es. is_awaited es r.id) (grow-given n [] r lane)
    ∙ ap (λ b. is_some (cond b (Some r) None) && true) (same_id-self r.id)

or_some : {A : Type 0} (o : Option A) (x : A) → is_some (option_or o (Some x)) ≡ true
or_some None x = refl
or_some (Some y) x = refl

-- a request that was given is found
given_found : (n : ℕ) (entries : List Entry) (r : Request) → services ≤ n → is_some (with_id r.id (requests_given (grow n entries (Arrival.Gives r)))) ≡ true
given_found n entries r lane =
    let asked : What = Made (next_event (with_what entries (Given r)) (Asked (lane_of r.id) (service_by_ask r.ask)) (body.Asked r)) in
    ap (λ (es : List Entry). is_some (with_id r.id (requests_given es))) (grow-given n entries r lane)
    ∙ ap (λ (rs : List Request). is_some (with_id r.id rs))
    (requests_given-push-none (with_what entries (Given r)) (record { clock = stamp_of (clock_before (with_what entries (Given r))) asked; what = asked }) refl
    ∙ requests_given-push-given entries (record { clock = stamp_of (clock_before entries) (Given r); what = Given r }) r refl)
    ∙ ap (λ (o : Option Request). is_some o) (with_id-push r.id (requests_given entries) r)
    ∙ ap (λ b. is_some (option_or (with_id r.id (requests_given entries)) (cond b (Some r) None))) (same_id-self r.id)
    ∙ or_some (with_id r.id (requests_given entries)) r

-- where nothing is lent, nothing is there
pub none_copied : {A : Type 0} (lent : Option (Bor A)) (b : Bool) (there : Option A) → option_copied lent ≡ there → is_some lent ≡ not b → b ≡ true → is_none there ≡ true
none_copied {A = A} lent b there copied tested none = ap (λ o. is_none o) (sym copied) ∙ by_lent lent (tested ∙ ap (λ t. not t) none)
  where
    by_lent : (o : Option (Bor A)) → is_some o ≡ false → is_none (option_copied o) ≡ true
    by_lent None empty = refl
    by_lent (Some x) empty = let no : ⊥ = cc in absurd no

-- a request that is asked and has no reply awaits it
pub asked_awaited : (old new : CoreState) (r : Request) → old.node ≡ tested_node → new ≡ with_entries old (grow old.node old.entries (Arrival.Gives r)) → is_none (reply_of new.entries r.id) ≡ true → is_awaited new.entries r.id ≡ true
asked_awaited old new r node asked open_one =
    let lane : services ≤ old.node = omega arith in
    let found : is_some (with_id r.id (requests_given new.entries)) ≡ true =
    ap (λ (core : CoreState). is_some (with_id r.id (requests_given core.entries))) asked ∙ given_found old.node old.entries r lane in
    ap (λ b. b && is_none (reply_of new.entries r.id)) found ∙ open_one

-- two entries more
pub length-given : (n : ℕ) (entries : List Entry) (r : Request) → services ≤ n → length (grow n entries (Arrival.Gives r)) ≡ length entries + 2
length-given n entries r lane =
    ap (λ (es : List Entry). length es) (grow-given n entries r lane)
    ∙ (let first = length-with_what entries (Given r) in
    let second = length-with_what (with_what entries (Given r)) (Made (next_event (with_what entries (Given r)) (Asked (lane_of r.id) (service_by_ask r.ask)) (body.Asked r))) in omega arith)

pub clock-given : (n : ℕ) (entries : List Entry) (r : Request) → services ≤ n → clock_before (grow n entries (Arrival.Gives r)) ≡ clock_before entries + 2
clock-given n entries r lane =
    ap (λ (es : List Entry). clock_before es) (grow-given n entries r lane)
    ∙ (let first = clock-with_what entries (Given r) in
    let second = clock-with_what (with_what entries (Given r)) (Made (next_event (with_what entries (Given r)) (Asked (lane_of r.id) (service_by_ask r.ask)) (body.Asked r))) in omega arith)

pub length-told : (n : ℕ) (entries : List Entry) (event : Event) (id : RequestId) (reply : Reply) → services ≤ n → event.body ≡ body.Told id reply → length (grow n entries (Arrival.Takes event)) ≡ length entries + 2
length-told n entries event id reply lane told =
    ap (λ (es : List Entry). length es) (grow-told n entries event id reply lane told)
    ∙ (let first = length-with_what entries (Taken event) in
    let second = length-with_what (with_what entries (Taken event)) (Answered id reply) in omega arith)

pub clock-told : (n : ℕ) (entries : List Entry) (event : Event) (id : RequestId) (reply : Reply) → services ≤ n → event.body ≡ body.Told id reply → clock_before (grow n entries (Arrival.Takes event)) ≡ max (clock_before entries) event.clock + 2
clock-told n entries event id reply lane told =
    ap (λ (es : List Entry). clock_before es) (grow-told n entries event id reply lane told)
    ∙ (let first = clock-with_what entries (Taken event) in
    let second = clock-with_what (with_what entries (Taken event)) (Answered id reply) in omega arith)

grew_as : (old new : CoreState) (entries : List Entry) → new ≡ with_entries old entries → length entries ≤ length old.entries + 2 → clock_before entries ≤ clock_before old.entries + 10 → GrewLittle old new
grew_as old new entries is few clock =
    subst (λ core. GrewLittle old core) (sym is) (record { node = refl; few = few; clock = clock })

stayed : (old new : CoreState) → new ≡ old → GrewLittle old new
stayed old new is = subst (λ core. GrewLittle old core) (sym is) (record { node = refl; few = omega arith; clock = omega arith })

-- whatever comes of a request
pub grew_given : (r : Result Give AllocError) (old new : CoreState) (request : Request) → old.node ≡ tested_node
    → IfOk r (λ g. g ≡ give.Asked → new ≡ with_entries old (grow old.node old.entries (Arrival.Gives request))) → IfOk r (λ g. g ≢ give.Asked → new ≡ old) → OnErr r (new ≡ old)
    → GrewLittle old new
grew_given (Err e) old new request node asked other err = stayed old new err
grew_given (Ok give.Asked) old new request node asked other err =
    let lane : services ≤ old.node = omega arith in
    let long = length-given old.node old.entries request lane in
    let late = clock-given old.node old.entries request lane in
    grew_as old new (grow old.node old.entries (Arrival.Gives request)) (asked refl) (omega arith) (omega arith)
grew_given (Ok give.Kept) old new request node asked other err = stayed old new (other (λ no. cc))
grew_given (Ok give.Differs) old new request node asked other err = stayed old new (other (λ no. cc))
grew_given (Ok give.Waiting) old new request node asked other err = stayed old new (other (λ no. cc))
grew_given (Ok give.Full) old new request node asked other err = stayed old new (other (λ no. cc))

-- whatever comes of an event that tells a reply at a clock of at most 4
pub grew_told : (r : Result Offer AllocError) (old new : CoreState) (event : Event) (id : RequestId) (reply : Reply) → old.node ≡ tested_node → event.body ≡ body.Told id reply → event.clock ≤ 4
    → IfOk r (λ o. o ≡ offer.Take → new ≡ with_entries old (grow old.node old.entries (Arrival.Takes event))) → IfOk r (λ o. o ≢ offer.Take → new ≡ old) → OnErr r (new ≡ old)
    → GrewLittle old new
grew_told (Err e) old new event id reply node told low taken other err = stayed old new err
grew_told (Ok offer.Take) old new event id reply node told low taken other err =
    let lane : services ≤ old.node = omega arith in
    let long = length-told old.node old.entries event id reply lane told in
    let late = clock-told old.node old.entries event id reply lane told in
    grew_as old new (grow old.node old.entries (Arrival.Takes event)) (taken refl) (omega arith) (omega arith)
grew_told (Ok offer.Old) old new event id reply node told low taken other err = stayed old new (other (λ no. cc))
grew_told (Ok offer.Ahead) old new event id reply node told low taken other err = stayed old new (other (λ no. cc))
grew_told (Ok offer.NotReady) old new event id reply node told low taken other err = stayed old new (other (λ no. cc))
