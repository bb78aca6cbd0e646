-- After a run of any service, each reply that it told it told the lane of its request (told-to-lane).
use Rattle.std.proofs.Common.{◌≡◌, ℕ, inl, inr, List, [], ◌∷◌, ◌++◌, filter_map, if◌then◌else◌, Some, None, Bool, true, false, ap, sym, ◌∙◌, subst}
use Rattle.std.specs.Prelude.{map}
use Rattle.std.specs.List.{AllByRecursion, cons_option}
use Rattle.market_amounts.specs.declared.keys.RequestId.{RequestId}
use Rattle.market_events.specs.declared.bodies.Body.TheVariants as body
use Rattle.market_events.specs.declared.links.Link.TheVariants.{Told}
use Rattle.market_events.specs.declared.replies.Reply.{Reply}
use Rattle.market_events.specs.AnswerShape.{IsAnswer, GoesToLane}
use Rattle.market_events.specs.Links.{same_link}
use Rattle.market_events.specs.Requests.{lane_of}
use Rattle.market_events.specs.declared.roles.Role.{Role}
use Rattle.market_events.specs.Services.{node_of, Follows, IsRunOf, answers}
use Rattle.market_events.specs.Steps.{Step, Sending, made_in, body_on}
use Rattle.market_events.proofs.Values.Offers.{same_link-same}
use Rattle.market_events.proofs.Steps.Taken.{made_in-push}
use Rattle.market_laws.specs.Runs.{Member, bodies_made}
use Rattle.market_laws.proofs.Growth.Members.{all-append, all-weaker}
use Rattle.market_laws.proofs.Growth.Outs.{answers-shape}
use Rattle.market_laws.proofs.Runs.Counts.{run_with}

-- each of them goes to its lane
abbrev AllToLanes : Role → List Sending → Type 0
AllToLanes role made = AllByRecursion (λ (s : Sending). GoesToLane (node_of role) s.0 s.1) made

all-to-lanes : (role : Role) (steps : List Step) → IsRunOf role steps → AllToLanes role (made_in steps)
all-to-lanes role steps run = run_with role (λ steps. AllToLanes role (made_in steps)) keeps tt steps run
  where
    keeps : (before : List Step) (s : Step) → IsRunOf role before → Follows role before s → AllToLanes role (made_in before) → AllToLanes role (made_in (before ++ s ∷ []))
    keeps before s run follows all =
        let each = (answers-shape role before s.from s.body run follows.fit).each in
        let here : AllToLanes role s.made =
        subst (AllToLanes role) (sym follows.made)
        (all-weaker (IsAnswer role s.body) (λ (m : Sending). GoesToLane (node_of role) m.0 m.1) (λ m is. is.lane) (answers role before s.from s.body) each) in
        subst (AllToLanes role) (sym (made_in-push before s)) (all-append (λ (m : Sending). GoesToLane (node_of role) m.0 m.1) (made_in before) s.made all here)

-- a reply that was made was made on the link to its lane
told_there : (node : ℕ) (id : RequestId) (reply : Reply) (made : List Sending) → AllByRecursion (λ (s : Sending). GoesToLane node s.0 s.1) made → Member (body.Told id reply) (map (λ (m : Sending). m.1) made)
    → Member (body.Told id reply) (filter_map (body_on (Told node (lane_of id))) made)
told_there node id reply [] all here = absurd here
told_there node id reply (m ∷ made) all (inl same) =
    let to : m.0 ≡ Told node (lane_of id) = subst (GoesToLane node m.0) (sym same) all.0 in
    let on : same_link m.0 (Told node (lane_of id)) ≡ true = ap (λ l. same_link l (Told node (lane_of id))) to ∙ same_link-same (Told node (lane_of id)) in
    rw on (inl same)
told_there node id reply (m ∷ made) all (inr later) = by (same_link m.0 (Told node (lane_of id))) (told_there node id reply made all.1 later)
  where
    by : (test : Bool) → Member (body.Told id reply) (filter_map (body_on (Told node (lane_of id))) made)
        → Member (body.Told id reply) (cons_option (if test then Some m.1 else None) (filter_map (body_on (Told node (lane_of id))) made))
    by true rest = inr rest
    by false rest = rest

pub told-to-lane : (role : Role) (steps : List Step) → IsRunOf role steps → (id : RequestId) (reply : Reply) → Member (body.Told id reply) (bodies_made steps)
    → Member (body.Told id reply) (filter_map (body_on (Told (node_of role) (lane_of id))) (made_in steps))
told-to-lane role steps run id reply here = told_there (node_of role) id reply (made_in steps) (all-to-lanes role steps run) here
