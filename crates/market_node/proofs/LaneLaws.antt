-- What a lane notes after it was given a request, and after it was told a reply.
use Rattle.std.proofs.Common.{◌≡◌, ℕ, zero, suc, lit<, ◌+◌, ◌<◌, ◌≤◌, Bool, true, false, not, if◌then◌else◌, List, [], ◌∷◌, Option, Some, None, length, refl, ap, subst, sym, ◌∙◌, arith}
use Rattle.std.specs.List.{AllByRecursion, slice_index_or}
use Rattle.market_amounts.specs.declared.keys.RequestId.{RequestId}
use Rattle.market_events.specs.declared.bodies.Body.{Body}
use Rattle.market_events.specs.declared.bodies.Body.TheVariants as body
use Rattle.market_events.specs.declared.events.Entry.{Entry}
use Rattle.market_events.specs.declared.events.Event.{Event}
use Rattle.market_events.specs.declared.events.What.TheVariants.{Given, Taken}
use Rattle.market_events.specs.declared.links.Link.{Link}
use Rattle.market_events.specs.declared.links.Link.TheVariants as link
use Rattle.market_events.specs.declared.replies.Reply.{Reply}
use Rattle.market_events.specs.declared.requests.Request.{Request}
use Rattle.market_events.specs.Carried.{carries}
use Rattle.market_events.specs.Links.{IsLink, receiver_of, service_ends}
use Rattle.market_events.specs.Requests.{same_id}
use Rattle.market_history.specs.declared.schedule.Give.TheVariants as give
use Rattle.market_events.specs.declared.events.What.{What}
use Rattle.market_events.specs.declared.roles.TheConstants.{SERVICES}
use Rattle.market_history.specs.Blocks.{Out, with_what, with_out}
use Rattle.market_history.specs.Journals.{AsksOwn}
use Rattle.market_history.specs.Once.{give_of}
use Rattle.market_history.specs.Stamps.{clock_before, stamp_of}
use Rattle.market_history.proofs.CoreGrow.{length-with_what, clock-with_what}
use Rattle.market_node.specs.Cores.{core_of, with_entries}
use Rattle.market_node.specs.Records.{RecordState}
use Rattle.market_node.specs.declared.table.Kept.{Kept}
use Rattle.market_node.specs.Keeping.{newly_kept, with_answer, is_awaited, is_told, KeepsRequests, request_places_at}
use Rattle.market_node.proofs.KeepLaws.{KeepsRequests-quiet, KeepsRequests-given, KeepsRequests-answered}
use Rattle.market_node.proofs.WaitLaws.{asked_fresh}

-- nothing happened yet
pub KeepsRequests-none : KeepsRequests [] [] 0 None
KeepsRequests-none = record { each = λ id. refl; counted = refl; awaited = λ id. refl; answered = λ id absent. refl }

-- a request that is asked
pub keeps_given : (xs : List Entry) (r : Request) (to : Link) (b : Body) (table after : List (RequestId × Kept)) (count : ℕ) (waiting : Option RequestId) → KeepsRequests xs table count waiting → give_of xs r ≡ give.Asked
    → ((other : RequestId) → request_places_at after other ≡ (if same_id r.id other then Some (newly_kept (length xs)) else request_places_at table other))
    → KeepsRequests (with_out (with_what xs (Given r)) (Out.Makes to b)) after (count + 1) (Some r.id)
keeps_given xs r to b table after count waiting keeps asked set =
    let fresh = asked_fresh xs table count waiting r keeps asked in
    KeepsRequests-quiet (with_what xs (Given r)) _ after (count + 1) (Some r.id)
    (KeepsRequests-given xs _ r table after count waiting keeps refl fresh.new_id fresh.idle set)
    refl (λ id. refl) (λ id. refl)

-- a request that is answered
pub keeps_answered : (xs : List Entry) (event : Event) (id : RequestId) (reply : Reply) (table after : List (RequestId × Kept)) (count : ℕ) (waiting : Option RequestId) → KeepsRequests xs table count waiting → is_awaited xs id ≡ true
    → ((other : RequestId) → request_places_at after other ≡ (if same_id id other then with_answer (length xs + 1) (request_places_at table other) else request_places_at table other))
    → KeepsRequests (with_out (with_what xs (Taken event)) (Out.Answers id reply)) after count None
keeps_answered xs event id reply table after count waiting keeps awaited set =
    KeepsRequests-answered (with_what xs (Taken event)) _ id reply table after count waiting quiet refl
    (quiet.awaited id ∙ sym (keeps.awaited id) ∙ awaited)
    (λ other. set other ∙ ap (λ n. if same_id id other then with_answer n (request_places_at table other) else request_places_at table other) (sym (length-with_what xs (Taken event))))
  where
    quiet : KeepsRequests (with_what xs (Taken event)) table count waiting
    quiet = KeepsRequests-quiet xs _ table count waiting keeps refl (λ i. refl) (λ i. refl)

-- an event of a link into a lane tells it a reply
pub record Tells (b : Body) : Type 0 where
  pub id : RequestId
  pub reply : Reply
  pub told : b ≡ body.Told id reply

told_body : (service : ℕ) (lane : ℕ) (b : Body) → carries (link.Told service lane) b ≡ true → Tells b
told_body service lane (body.Told i r) can = record { id = i; reply = r; told = refl }
told_body service lane (body.Changed key version change) can = let no : ⊥ = cc in absurd no
told_body service lane (body.Reserve checkout customer lines) can = let no : ⊥ = cc in absurd no
told_body service lane (body.ReserveFailed checkout key rule) can = let no : ⊥ = cc in absurd no
told_body service lane (body.StockConfirmed checkout customer lines) can = let no : ⊥ = cc in absurd no
told_body service lane (body.Invoice checkout customer lines total) can = let no : ⊥ = cc in absurd no
told_body service lane (body.Confirmed checkout customer lines total) can = let no : ⊥ = cc in absurd no
told_body service lane (body.Ended checkout ending) can = let no : ⊥ = cc in absurd no
told_body service lane (body.Failed checkout customer rule) can = let no : ⊥ = cc in absurd no
told_body service lane (body.Shipped checkout) can = let no : ⊥ = cc in absurd no
told_body service lane (body.Delivered items) can = let no : ⊥ = cc in absurd no
told_body service lane (body.Asked request) can = let no : ⊥ = cc in absurd no

-- a service link leads into a service
ends_below : (ends : List (ℕ × ℕ)) → AllByRecursion (λ (p : ℕ × ℕ). p.1 < SERVICES) ends → (n : ℕ) → (slice_index_or ends n (0, 0)).1 < SERVICES
ends_below [] all n = lit< tt
ends_below (p ∷ ps) all zero = all.0
ends_below (p ∷ ps) all (suc n) = ends_below ps all.1 n

service_below : (n : ℕ) → receiver_of (link.Service n) < SERVICES
service_below n = ends_below service_ends (lit< tt, (lit< tt, (lit< tt, (lit< tt, (lit< tt, (lit< tt, (lit< tt, (lit< tt, (lit< tt, (lit< tt, (lit< tt, (lit< tt, (lit< tt, (lit< tt, (lit< tt, (lit< tt, tt)))))))))))))))) n

pub tells : (l : Link) (b : Body) → IsLink l → SERVICES ≤ receiver_of l → carries l b ≡ true → Tells b
tells (link.Told service lane) b is into can = told_body service lane b can
tells (link.Asked lane service) b is into can = absurd (omega arith)
tells (link.Service n) b is into can = let below = service_below n in absurd (omega arith)

-- and asks nothing
pub own-into : (l : Link) (b : Body) → IsLink l → SERVICES ≤ receiver_of l → AsksOwn l b
own-into (link.Told service lane) b is into = tt
own-into (link.Asked lane service) b is into = absurd (omega arith)
own-into (link.Service n) b is into = tt

-- an event of a link into a lane tells it a reply
pub is_told-into : (l : Link) (b : Body) → IsLink l → SERVICES ≤ receiver_of l → carries l b ≡ true → is_told b ≡ true
is_told-into l b is into can = let it = tells l b is into can in ap (λ (c : Body). is_told c) it.told

-- a record after room was made, and after what came and what was made of it
pub moved : (old reserved came made : RecordState) (what : What) (out : Out) (first second third : ℕ) → reserved ≡ record old { room = first } → came ≡ record reserved { entries = with_what reserved.entries what; room = second }
    → made ≡ record came { entries = with_out came.entries out; room = third } → core_of made ≡ with_entries (core_of old) (with_out (with_what old.entries what) out)
moved old reserved came made what out first second third one two three =
    ap (λ (s : RecordState). core_of s) three
    ∙ ap (λ (s : RecordState). with_entries (core_of s) (with_out s.entries out)) two
    ∙ ap (λ (s : RecordState). with_entries (core_of s) (with_out (with_what s.entries what) out)) one

-- the clock after what came
pub clock_moved : (old reserved came : RecordState) (what : What) (first second : ℕ) → reserved ≡ record old { room = first } → came ≡ record reserved { entries = with_what reserved.entries what; room = second }
    → clock_before came.entries ≡ stamp_of (clock_before old.entries) what
clock_moved old reserved came what first second one two =
    ap (λ (s : RecordState). clock_before s.entries) two
    ∙ ap (λ (s : RecordState). clock_before (with_what s.entries what)) one
    ∙ clock-with_what old.entries what

-- a lane's entries after it was given a request that it asks, and what it then notes
pub asks : (xs ys es : List Entry) (r : Request) (to : Link) (b : Body) (table after : List (RequestId × Kept)) (count : ℕ) (waiting : Option RequestId) → KeepsRequests xs table count waiting → give_of xs r ≡ give.Asked
    → ((other : RequestId) → request_places_at after other ≡ (if same_id r.id other then Some (newly_kept (length es)) else request_places_at table other))
    → es ≡ xs → ys ≡ with_out (with_what xs (Given r)) (Out.Makes to b) → KeepsRequests ys after (count + 1) (Some r.id)
asks xs ys es r to b table after count waiting keeps asked set same are =
    subst (λ zs. KeepsRequests zs after (count + 1) (Some r.id)) (sym are)
    (keeps_given xs r to b table after count waiting keeps asked
    (λ other. set other ∙ ap (λ (zs : List Entry). if same_id r.id other then Some (newly_kept (length zs)) else request_places_at table other) same))

-- and after it was told a reply
pub answers : (xs ys es : List Entry) (event : Event) (id : RequestId) (reply : Reply) (table after : List (RequestId × Kept)) (count : ℕ) (waiting : Option RequestId) → KeepsRequests xs table count waiting → is_awaited xs id ≡ true
    → ((other : RequestId) → request_places_at after other ≡ (if same_id id other then with_answer (length es + 1) (request_places_at table other) else request_places_at table other))
    → es ≡ xs → ys ≡ with_out (with_what xs (Taken event)) (Out.Answers id reply) → KeepsRequests ys after count None
answers xs ys es event id reply table after count waiting keeps awaited set same are =
    subst (λ zs. KeepsRequests zs after count None) (sym are)
    (keeps_answered xs event id reply table after count waiting keeps awaited
    (λ other. set other ∙ ap (λ (zs : List Entry). if same_id id other then with_answer (length zs + 1) (request_places_at table other) else request_places_at table other) same))

-- what is not so fails
pub not_so : (b : Bool) → false ≡ not b → b ≡ true
not_so true test = refl
not_so false test = let no : ⊥ = cc in absurd no
