-- A reply that a lane takes is for a request that was given to it before (told-given) and that has no reply yet (told-waits).
use Rattle.std.proofs.Common.{◌≡◌, ℕ, ◌<◌, ◌≤◌, true, false, None, is_some, count_by, refl, ap, sym, ◌∙◌, subst, arith}
use Rattle.std.specs.Prelude.{map}
use Rattle.std.specs.List.{AllByRecursion, list_any}
use Rattle.market_amounts.specs.declared.keys.RequestId.{RequestId}
use Rattle.market_events.specs.declared.bodies.Body.{Body}
use Rattle.market_events.specs.declared.bodies.Body.TheVariants as body
use Rattle.market_events.specs.declared.events.Event.{Event}
use Rattle.market_events.specs.declared.links.Link.{Link}
use Rattle.market_events.specs.declared.links.Link.TheVariants.{Service, Asked, Told}
use Rattle.market_events.specs.declared.replies.Reply.{Reply}
use Rattle.market_events.specs.declared.requests.Request.{Request}
use Rattle.market_events.specs.AnswerShape.{IsAnswer, GoesToLane}
use Rattle.market_events.specs.Carried.{carries}
use Rattle.market_events.specs.Links.{IsLink, lane_node, sender_of, receiver_of, service_by_ask}
use Rattle.market_events.specs.Requests.{lane_of, same_id}
use Rattle.market_events.specs.Services.{node_of, asks}
use Rattle.market_events.specs.Steps.{taken_bodies, made_in}
use Rattle.market_events.proofs.Values.Lists.{count-some, false_from}
use Rattle.market_events.proofs.Values.Same.{same_id-true, same_id-self}
use Rattle.market_history.specs.Blocks.{role_at, services}
use Rattle.market_history.specs.Causality.{events_taken}
use Rattle.market_history.specs.Histories.{Histories, journal_at}
use Rattle.market_history.specs.Lawful.{IsLawful}
use Rattle.market_history.specs.Once.{requests_given, with_id, reply_of}
use Rattle.market_history.proofs.GrowSent.{bodies_on}
use Rattle.market_laws.specs.Cuts.{steps_at, TookAt, MadeAt}
use Rattle.market_laws.specs.Fitting.{IsInTime}
use Rattle.market_laws.specs.Runs.{Member, bodies_made, tells}
use Rattle.market_laws.proofs.Growth.Members.{all-at}
use Rattle.market_laws.proofs.Origins.Causes.{Cause, Origin, cause, cause_steps, cause-run, cause-made-on, origin}
use Rattle.market_laws.proofs.Origins.Cuts.{any_of_member, member_of_any}
use Rattle.market_laws.proofs.Origins.Made.{steps-run, whole}
use Rattle.market_laws.proofs.Origins.Once.{once-link}
use Rattle.market_laws.proofs.Origins.Senders.{took-made}
use Rattle.market_laws.proofs.Growth.Outs.{answers-shape, node_of-role_at}
use Rattle.market_laws.proofs.Fits.Asked.{asked-for, asked-on}
use Rattle.market_laws.proofs.Fits.AskedByLanes.{is_with, given-once, find-some}
use Rattle.market_laws.proofs.Fits.RepliesOnce.{made-all, count-made-all, any-counted, only_one, asked_before, took-of-taken, reply-none}
use Rattle.market_laws.proofs.Runs.ToldOnce.{told-le, asked-once}

-- a reply goes from a service to a lane
told_link : (link : Link) (id : RequestId) (reply : Reply) → carries link (body.Told id reply) ≡ true → (s : ℕ) × (lane : ℕ) × (link ≡ Told s lane)
told_link (Service k) id reply carried = let no : ⊥ = cc in absurd no
told_link (Asked lane s) id reply carried = let no : ⊥ = cc in absurd no
told_link (Told s lane) id reply carried = (s, lane, refl)

-- so its sender is a service
told_sender : (link : Link) (s lane : ℕ) → link ≡ Told s lane → IsLink link → sender_of link < services
told_sender link s lane is on =
    let small : IsLink (Told s lane) = subst IsLink is on in subst (λ l. sender_of l < services) (sym is) small.0

-- the request for which a reply was told: its service took it before
record AskedFor (h : Histories) (s : ℕ) (event : Event) (id : RequestId) : Type 0 where
  request : Request
  same : request.id ≡ id
  origin : Origin h s event (body.Asked request)

-- and its lane asked it, before this clock
record GivenFor (h : Histories) (n s top : ℕ) (id : RequestId) : Type 0 where
  request : Request
  same : request.id ≡ id
  service : service_by_ask request.ask ≡ s
  asked : Event
  asked_body : asked.body ≡ body.Asked request
  made : MadeAt h n asked
  clock : asked.clock < top

module _ (h : Histories) (lawful : IsLawful h) where
  -- a service tells no reply but to a request that it took
  told_asked : (s : ℕ) → s < services → (event : Event) → MadeAt h s event → (id : RequestId) (reply : Reply) → event.body ≡ body.Told id reply → AskedFor h s event id
  told_asked s lt event m id reply is =
      let c = cause h s event lawful lt m in
      let steps = cause_steps h s event m c in
      let here : Member event.body (bodies_made steps) = made-all event.link event.body (made_in steps) (cause-made-on h s event m c event.link refl) in
      let told = any_of_member (tells id) event.body (bodies_made steps) here (ap (tells id) is ∙ same_id-self id) in
      let le = told-le (role_at s) steps (cause-run h s event m c) id in
      let some = count-some (tells id) (bodies_made steps) told in
      let found = member_of_any (asks id) (taken_bodies steps) (any-counted (asks id) (taken_bodies steps) (omega (arith, le, some))) in
      by c found.0 found.1 found.2
    where
      by : (c : Cause h s event m) → (b : Body) → Member b (taken_bodies (cause_steps h s event m c)) → asks id b ≡ true → AskedFor h s event id
      by c (body.Asked request) here same = record { request = request; same = same_id-true request.id id same; origin = origin h s event m c lawful (body.Asked request) here }
      by c other here same = let no : ⊥ = cc in absurd no

  -- and it tells the lane of the id
  told_on : (s : ℕ) → s < services → (event : Event) → MadeAt h s event → (id : RequestId) (reply : Reply) → event.body ≡ body.Told id reply → event.link ≡ Told s (lane_of id)
  told_on s lt event m id reply is =
      let c = cause h s event lawful lt m in
      let role = role_at s in
      let steps = steps_at s c.took.before in
      let shape = answers-shape role steps c.event.link c.event.body (steps-run s c.took.before) c.fit in
      let one : IsAnswer role c.event.body (event.link, event.body) =
      all-at (IsAnswer role c.event.body) c.front (event.link, event.body) c.back (subst (AllByRecursion (IsAnswer role c.event.body)) c.answered shape.each) in
      let to : GoesToLane (node_of role) event.link (body.Told id reply) = subst (GoesToLane (node_of role) event.link) is one.lane in
      to ∙ ap (λ k. Told k (lane_of id)) (node_of-role_at s lt)

  -- the request that a service took was asked by the lane of its id
  asked_made : (s : ℕ) (event : Event) → (t : TookAt h s event) → (request : Request) → event.body ≡ body.Asked request → MadeAt h (lane_node (lane_of request.id)) event × (service_by_ask request.ask ≡ s) × (event.clock < t.clock)
  asked_made s event t request is =
      let on = asked-on h lawful s event t request is in
      let f = took-made h lawful s event t in
      let carried : carries (Asked (lane_of request.id) s) (body.Asked request) ≡ true = subst (λ b. carries (Asked (lane_of request.id) s) b ≡ true) is (subst (λ l. carries l event.body ≡ true) on t.ready.2) in
      (subst (λ k. MadeAt h k event) (ap sender_of on) f.made, asked-for (lane_of request.id) s request carried, f.clock)

  module _ (n : ℕ) (event : Event) (t : TookAt h n event) (id : RequestId) (reply : Reply) (is : event.body ≡ body.Told id reply) where
    carried_here : carries event.link (body.Told id reply) ≡ true
    carried_here = subst (λ b. carries event.link b ≡ true) is t.ready.2

    -- its sender is a service
    from_service : sender_of event.link < services
    from_service = let l = told_link event.link id reply carried_here in told_sender event.link l.0 l.1 l.2 t.ready.0

    -- the link of a reply that is taken
    told-link : event.link ≡ Told (sender_of event.link) (lane_of id)
    told-link = told_on (sender_of event.link) from_service event (took-made h lawful n event t).made id reply is

    -- the node is the lane of the id
    told-node : lane_node (lane_of id) ≡ n
    told-node = ap receiver_of (sym told-link) ∙ t.ready.1

    -- the request that it is for was asked before by this lane
    given_for : GivenFor h n (sender_of event.link) t.clock id
    given_for =
        let s = sender_of event.link in
        let f = took-made h lawful n event t in
        let a = told_asked s from_service event f.made id reply is in
        let made = asked_made s a.origin.event a.origin.took a.request a.origin.body_is in
        let here : lane_node (lane_of a.request.id) ≡ n = ap (λ i. lane_node (lane_of i)) a.same ∙ told-node in
        record {
          request = a.request;
          same = a.same;
          service = made.1;
          asked = a.origin.event;
          asked_body = a.origin.body_is;
          made = subst (λ k. MadeAt h k a.origin.event) here made.0;
          clock = let first = made.2 in let second = a.origin.clock in let third = f.clock in omega arith;
        }

  module _ (n : ℕ) (event : Event) (t : TookAt h n event) (id : RequestId) (reply : Reply) (is : event.body ≡ body.Told id reply) where
    low : services ≤ n
    low = let node = told-node n event t id reply is in omega (arith, node)

    -- what was asked before was given before
    member_given : (s top : ℕ) → (g : GivenFor h n s top id) → top ≤ t.clock → Member g.request (requests_given t.before)
    member_given s top g le = asked_before h lawful n low event t g.asked g.made (let less = g.clock in omega arith) g.request g.asked_body

    -- the request was given to the lane before
    told-given : is_some (with_id id (requests_given t.before)) ≡ true
    told-given =
        let g = given_for n event t id reply is in
        find-some (is_with id) g.request (requests_given t.before) (member_given (sender_of event.link) t.clock g (omega arith)) (ap (λ i. same_id i id) g.same ∙ same_id-self id)

    -- its service tells it once
    told_few : count_by (tells id) (bodies_on event.link (journal_at h (sender_of event.link))) ≤ 1
    told_few =
        let s = sender_of event.link in
        let lt = from_service n event t id reply is in
        let steps = steps_at s (journal_at h s) in
        let run = steps-run s (journal_at h s) in
        let all = ap (count_by (tells id)) (whole h lawful s lt event.link) in
        omega (arith, all, count-made-all (tells id) event.link (made_in steps), told-le (role_at s) steps run id, asked-once (role_at s) steps run id)

    -- no reply to it was taken before
    told_first : (other : Event) → (u : TookAt h n other) → u.clock < t.clock → (again : Reply) → other.body ≡ body.Told id again → ⊥
    told_first other u less again also =
        let g = given_for n event t id reply is in
        let k = given_for n other u id again also in
        let here = member_given (sender_of event.link) t.clock g (omega arith) in
        let there = member_given (sender_of other.link) u.clock k (omega arith) in
        let once = given-once n t.grown id in
        let passes : is_with id g.request ≡ true = ap (λ i. same_id i id) g.same ∙ same_id-self id in
        let passes_also : is_with id k.request ≡ true = ap (λ i. same_id i id) k.same ∙ same_id-self id in
        let same : g.request ≡ k.request = only_one (is_with id) g.request k.request (requests_given t.before) once here there passes passes_also in
        let services_same : sender_of other.link ≡ sender_of event.link = sym k.service ∙ ap (λ (r : Request). service_by_ask r.ask) (sym same) ∙ g.service in
        let links : other.link ≡ event.link =
        told-link n other u id again also ∙ ap (λ s. Told s (lane_of id)) services_same ∙ sym (told-link n event t id reply is) in
        once-link h n event lawful t (tells id) told_few (ap (tells id) is ∙ same_id-self id) other u less links (ap (tells id) also ∙ same_id-self id)

    -- it has no reply
    told-waits : reply_of t.before id ≡ None
    told-waits = reply-none n low t.grown id (false_from (list_any (tells id) (map (λ (e : Event). e.body) (events_taken t.before))) refuted)
      where
        by : (other : Event) → (u : TookAt h n other) → u.clock < t.clock → (b : Body) → other.body ≡ b → tells id b ≡ true → ⊥
        by other u less (body.Told i again) holds same =
            told_first other u less again (holds ∙ ap (λ k. body.Told k again) (same_id-true i id same))
        by other u less b holds same = cc

        refuted : list_any (tells id) (map (λ (e : Event). e.body) (events_taken t.before)) ≡ true → false ≡ true
        refuted any =
            let found = member_of_any (tells id) (map (λ (e : Event). e.body) (events_taken t.before)) any in
            let taken = took-of-taken h lawful n event t found.0 found.1 in
            absurd (by taken.event taken.took taken.clock_is taken.event.body refl (ap (tells id) taken.body_is ∙ found.2))

  -- what a lane is told comes in time
  pub told-in_time : (n : ℕ) (event : Event) → (t : TookAt h n event) → IsInTime t.before event.body
  told-in_time n event t = by event.body refl
    where
      by : (b : Body) → event.body ≡ b → IsInTime t.before b
      by (body.Told id reply) is = record { given = told-given n event t id reply is; waits = told-waits n event t id reply is }
      by other is = tt
