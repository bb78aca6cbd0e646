-- What a lane asked is what it was given: on each link the requests that go there, in order (asked-view). It is given each id
-- once (given-once), so it asks each id once (asked-few).
use Rattle.std.proofs.Common.{◌≡◌, ℕ, ◌+◌, ◌≤◌, Bool, true, false, cond, nat_lt, is_none, length, append-nil, List, [], ◌∷◌, ◌++◌, Option, Some, None, is_some, count_by, filter_map, if◌then◌else◌, inl, inr, refl, ap, sym, ◌∙◌, subst, arith}
use Rattle.std.specs.Prelude.{find}
use Rattle.std.specs.List.{cons_option, list_any}
use Rattle.std.specs.Option.{option_to_list}
use Rattle.std.proofs.lemmas.Bool.Decides.{nat_tests}
use Rattle.std.proofs.lemmas.List.Elements.{filter_map-append}
use Rattle.std.proofs.lemmas.List.Sums.{sum_by_push, sum_by-cons}
use Rattle.market_amounts.specs.declared.keys.RequestId.{RequestId}
use Rattle.market_events.specs.declared.bodies.Body.{Body}
use Rattle.market_events.specs.declared.bodies.Body.TheVariants as body
use Rattle.market_events.specs.declared.events.Entry.{Entry}
use Rattle.market_events.specs.declared.links.Link.{Link}
use Rattle.market_events.specs.declared.links.Link.TheVariants.{Asked}
use Rattle.market_events.specs.declared.replies.Reply.{Reply}
use Rattle.market_events.specs.declared.requests.Request.{Request}
use Rattle.market_events.specs.Links.{service_by_ask, same_link}
use Rattle.market_events.specs.Requests.{lane_of, same_id}
use Rattle.market_events.specs.Services.{asks}
use Rattle.market_events.proofs.Values.Lists.{count-none}
use Rattle.market_events.proofs.Values.Same.{same_id-true}
use Rattle.market_history.specs.declared.schedule.Give.TheVariants as give
use Rattle.market_history.specs.Blocks.{Arrival, what_of, input_of, inputs_of, role_at, steps_of, service_outs, told_outs, lane_outs, services, node_outs}
use Rattle.market_history.specs.Lawful.{IsReadyAfter}
use Rattle.market_history.specs.Once.{most_kept, request_in, requests_given, with_id, reply_of, is_waiting, differs, give_by, give_of}
use Rattle.market_history.proofs.GrowLaws.{outs_after, requests_given-grow}
use Rattle.market_history.proofs.GrowSent.{out_on, bodies_on, bodies-grow}
use Rattle.market_laws.specs.Grown.{Grown, nothing, more}
use Rattle.market_laws.specs.Runs.{Member}
use Rattle.market_laws.proofs.Growth.Members.{find-at}
use Rattle.market_laws.proofs.Origins.Cuts.{any_of_member}
use Rattle.market_laws.proofs.Runs.Counts.{member-between}

-- the request, where it is asked on this link
abbrev pub asked_on : Link → Request → Option Body
asked_on link request =
    if same_link (Asked (lane_of request.id) (service_by_ask request.ask)) link then Some (body.Asked request) else None

-- the request has this id
abbrev pub is_with : RequestId → Request → Bool
is_with id request = same_id request.id id

-- what a lane makes of what arrives
pub outs-lane : (n : ℕ) → services ≤ n → (j : List Entry) (a : Arrival) → outs_after n j a ≡ lane_outs (input_of a)
unfolding node_outs
outs-lane n low j a = by (nat_lt n services) (grind (arith, nat_tests))
  where
    by : (test : Bool) → test ≡ false → (if test then service_outs (role_at n) (steps_of (role_at n) (inputs_of j)) (input_of a) else lane_outs (input_of a)) ≡ lane_outs (input_of a)
    by true is = cc
    by false is = refl

told_nothing : (link : Link) (b : Body) → filter_map (out_on link) (told_outs b) ≡ []
told_nothing link (body.Told id reply) = refl
told_nothing link other = refl

arrival_asks : (link : Link) (a : Arrival) → filter_map (out_on link) (lane_outs (input_of a)) ≡ filter_map (asked_on link) (option_to_list (request_in (what_of a)))
arrival_asks link (Arrival.Gives request) = refl
arrival_asks link (Arrival.Takes event) = told_nothing link event.body

-- what a lane asked on a link
pub asked-view : (n : ℕ) → services ≤ n → (link : Link) {j : List Entry} → Grown n j → bodies_on link j ≡ filter_map (asked_on link) (requests_given j)
asked-view n low link nothing = refl
asked-view n low link (more j a grown ready) =
    bodies-grow link n j a ∙ ap (λ l. l ++ filter_map (out_on link) (outs_after n j a)) (asked-view n low link grown)
    ∙ ap (λ outs. filter_map (asked_on link) (requests_given j) ++ filter_map (out_on link) outs) (outs-lane n low j a)
    ∙ ap (λ l. filter_map (asked_on link) (requests_given j) ++ l) (arrival_asks link a)
    ∙ sym (filter_map-append (asked_on link) (requests_given j) (option_to_list (request_in (what_of a))))
    ∙ ap (filter_map (asked_on link)) (sym (requests_given-grow n j a))

-- a request that is asked on a link was given
pub asked-given : (link : Link) (request : Request) (rs : List Request) → Member (body.Asked request) (filter_map (asked_on link) rs) → Member request rs
asked-given link request [] here = absurd here
asked-given link request (r ∷ rs) here = by (same_link (Asked (lane_of r.id) (service_by_ask r.ask)) link) here (λ later. asked-given link request rs later)
  where
    by : (test : Bool) → Member (body.Asked request) (cons_option (if test then Some (body.Asked r) else None) (filter_map (asked_on link) rs))
        → (Member (body.Asked request) (filter_map (asked_on link) rs) → Member request rs) → Member request (r ∷ rs)
    by true (inl same) rest = let e : request ≡ r = cc in inl e
    by true (inr later) rest = inr (rest later)
    by false later rest = inr (rest later)

-- an id is asked on a link no more often than it was given
asks-given : (link : Link) (id : RequestId) (rs : List Request) → count_by (asks id) (filter_map (asked_on link) rs) ≤ count_by (is_with id) rs
asks-given link id [] = omega arith
asks-given link id (r ∷ rs) = by (same_link (Asked (lane_of r.id) (service_by_ask r.ask)) link) (asks-given link id rs)
  where
    by : (test : Bool) → count_by (asks id) (filter_map (asked_on link) rs) ≤ count_by (is_with id) rs
        → count_by (asks id) (cons_option (if test then Some (body.Asked r) else None) (filter_map (asked_on link) rs)) ≤ count_by (is_with id) (r ∷ rs)
    by true rest =
        omega (arith, rest, sum_by-cons (λ (b : Body). cond (asks id b) 1 0) (body.Asked r) (filter_map (asked_on link) rs), sum_by-cons (λ (q : Request). cond (is_with id q) 1 0) r rs)
    by false rest = omega (arith, rest, sum_by-cons (λ (q : Request). cond (is_with id q) 1 0) r rs)

-- where none is found, none passes
find-none : {A : Type 0} (p : A → Bool) (xs : List A) → find p xs ≡ None → list_any p xs ≡ false
find-none p [] e = refl
find-none {A = A} p (x ∷ xs) e = by (p x) refl e (λ more. find-none p xs more)
  where
    by : (test : Bool) → p x ≡ test → cond test (Some x) (find p xs) ≡ None → (find p xs ≡ None → list_any p xs ≡ false) → list_any p (x ∷ xs) ≡ false
    by true is e rest = let no : ⊥ = cc in absurd no
    by false is e rest = rw is (rest e)

-- one that passes is found
pub find-some : {A : Type 0} (p : A → Bool) (x : A) (xs : List A) → Member x xs → p x ≡ true → is_some (find p xs) ≡ true
find-some p x [] here passes = absurd here
find-some {A = A} p x (y ∷ ys) here passes = by (p y) refl here (λ more. find-some p x ys more passes)
  where
    by : (test : Bool) → p y ≡ test → Member x (y ∷ ys) → (Member x ys → is_some (find p ys) ≡ true) → is_some (cond test (Some y) (find p ys)) ≡ true
    by true is here rest = refl
    by false is (inl same) rest = let no : ⊥ = (let one : p x ≡ p y = ap p same in cc) in absurd no
    by false is (inr later) rest = rest later

-- a request whose id was given is not asked: it was answered, or it waits
not_asked : (d answered waiting room : Bool) → (answered ≡ false → waiting ≡ true)
    → (if d then give.Differs else if answered then give.Kept else if waiting then give.Waiting else if room then give.Asked else give.Full) ≡ give.Asked → ⊥
not_asked true answered waiting room h e = cc
not_asked false true waiting room h e = cc
not_asked false false true room h e = cc
not_asked false false false room h e = let no = h refl in cc

-- a request that is asked has an id that was not given before
given-new : (entries : List Entry) (r : Request) → give_of entries r ≡ give.Asked → list_any (is_with r.id) (requests_given entries) ≡ false
given-new entries r asked = find-none (is_with r.id) (requests_given entries) (by (with_id r.id (requests_given entries)) refl asked)
  where
    waits : (answered : Option Reply) (kept : Request) → reply_of entries r.id ≡ answered → kept.id ≡ r.id → Member kept (requests_given entries) → is_some answered ≡ false → is_waiting entries ≡ true
    waits None kept is same here open_still =
        any_of_member (λ (q : Request). is_none (reply_of entries q.id)) kept (requests_given entries) here (ap (λ id. is_none (reply_of entries id)) same ∙ ap (λ o. is_none o) is)
    waits (Some reply) kept is same here open_still = cc

    by : (kept : Option Request) → with_id r.id (requests_given entries) ≡ kept
        → give_by kept (is_some (reply_of entries r.id)) (is_waiting entries) (nat_lt (length (requests_given entries)) most_kept) r ≡ give.Asked → with_id r.id (requests_given entries) ≡ None
    by None is e = is
    by (Some kept) is e =
        let found = find-at (is_with r.id) (requests_given entries) kept is in
        let here : Member kept (requests_given entries) = subst (λ l. Member kept l) (sym found.is) (member-between found.before kept found.after) in
        absurd (not_asked (differs (Some kept) r) (is_some (reply_of entries r.id)) (is_waiting entries) (nat_lt (length (requests_given entries)) most_kept)
        (waits (reply_of entries r.id) kept refl (same_id-true kept.id r.id found.passes) here) e)

-- a node is given each id once
pub given-once : (n : ℕ) {j : List Entry} → Grown n j → (id : RequestId) → count_by (is_with id) (requests_given j) ≤ 1
given-once n nothing id = omega arith
given-once n (more j a grown ready) id = subst (λ l. count_by (is_with id) l ≤ 1) (sym (requests_given-grow n j a)) (by a ready (given-once n grown id))
  where
    one_more : (r : Request) → give_of j r ≡ give.Asked → (test : Bool) → same_id r.id id ≡ test → count_by (is_with id) (requests_given j) ≤ 1 → count_by (is_with id) (requests_given j) + cond test 1 0 ≤ 1
    one_more r asked true same few =
        let none : list_any (is_with id) (requests_given j) ≡ false = subst (λ i. list_any (is_with i) (requests_given j) ≡ false) (same_id-true r.id id same) (given-new j r asked) in
        omega (arith, count-none (is_with id) (requests_given j) none)
    one_more r asked false same few = omega (arith, few)

    by : (c : Arrival) → IsReadyAfter n j (what_of c) → count_by (is_with id) (requests_given j) ≤ 1 → count_by (is_with id) (requests_given j ++ option_to_list (request_in (what_of c))) ≤ 1
    by (Arrival.Gives request) can few =
        omega (arith, one_more request can.2 (same_id request.id id) refl few, sum_by_push (λ (q : Request). cond (is_with id q) 1 0) (requests_given j) request)
    by (Arrival.Takes event) can few = subst (λ l. count_by (is_with id) l ≤ 1) (sym (append-nil (requests_given j))) few

-- a lane asks each id once, on whichever link
pub asked-few : (n : ℕ) → services ≤ n → (link : Link) {j : List Entry} → Grown n j → (id : RequestId) → count_by (asks id) (bodies_on link j) ≤ 1
asked-few n low link {j = j} grown id =
    omega (arith, ap (count_by (asks id)) (asked-view n low link grown), asks-given link id (requests_given j), given-once n grown id)
