-- What a node makes goes on links of its own, which can carry it.
use Rattle.std.proofs.Common.{◌≡◌, ℕ, zero, suc, ◌<◌, ◌≤◌, ◌==◌, Bool, true, false, nat_lt, List, [], ◌∷◌, length, if◌then◌else◌, ltb-true, refl, ap, ◌∙◌, arith}
use Rattle.std.specs.Prelude.{map, fold}
use Rattle.std.specs.List.{AllByRecursion}
use Rattle.std.proofs.Math.Nat.{mod-lt}
use Rattle.std.proofs.lemmas.Bool.Decides.{nat_tests}
use Rattle.market_amounts.specs.declared.keys.RequestId.{RequestId}
use Rattle.market_events.specs.declared.bodies.Body.{Body}
use Rattle.market_events.specs.declared.bodies.Body.TheVariants as body
use Rattle.market_events.specs.declared.events.Entry.{Entry}
use Rattle.market_events.specs.declared.links.Link.{Link}
use Rattle.market_events.specs.declared.links.Link.TheVariants.{Service, Asked, Told}
use Rattle.market_events.specs.declared.nodes.TheConstants.{NODES}
use Rattle.market_events.specs.declared.requests.Ask.{Ask}
use Rattle.market_events.specs.declared.requests.Ask.TheVariants as ask
use Rattle.market_events.specs.AnswerShape.{IsAnswer, AreAnswers}
use Rattle.market_events.specs.Carried.{carries}
use Rattle.market_events.specs.Links.{IsLink, sender_of, service_by_ask, cart_node, product_node, stock_node, order_node, payment_node, shipment_node, customer_node, seller_node}
use Rattle.market_events.specs.Requests.{lane_of}
use Rattle.market_events.specs.declared.roles.Role.{Role}
use Rattle.market_events.specs.declared.roles.TheConstants.{SERVICES}
use Rattle.market_events.specs.Services.{node_of, answers, fits, reactions, IsRunOf, most_steps}
use Rattle.market_events.specs.Standing.{step_of, with_step}
use Rattle.market_events.specs.Steps.{Step, Sending}
use Rattle.market_events.specs.WellFormed.{IsBody}
use Rattle.market_events.specs.declared.lanes.TheConstants.{LANES}
use Rattle.market_events.proofs.Shapes.CartRuns.{cart_shape}
use Rattle.market_events.proofs.Shapes.AllRuns.{product_shape, payment_shape, customer_shape, order_shape, stock_shape, shipment_shape, seller_shape}
use Rattle.market_events.proofs.Values.Formed.{body_formed-IsBody}
use Rattle.market_events.proofs.Runs.Standing.{is_run_push, follows_step_of}
use Rattle.market_events.proofs.Steps.Taken.{fits-parts}
use Rattle.market_history.specs.Blocks.{Input, Out, role_at, with_input, steps_of, made_out, service_outs, told_outs, lane_outs, services, node_outs, Arrival, what_of, input_of, inputs_of}
use Rattle.market_history.specs.Journals.{IsLane, AsksOwn}
use Rattle.market_history.specs.Lawful.{IsReadyAfter}

-- a body that node n makes on a link
pub record IsMade (n : ℕ) (link : Link) (b : Body) : Type 0 where
  pub on : IsLink link
  pub leaves : sender_of link ≡ n
  pub carried : carries link b ≡ true
  pub formed : IsBody b
  pub own : AsksOwn link b

-- what node n makes: a body, or an answer where it is a lane
abbrev pub IsOut : ℕ → Out → Type 0
IsOut n (Out.Makes link b) = IsMade n link b
IsOut n (Out.Answers id reply) = IsLane n

-- each service
pub by_service : (P : ℕ → Type 0) → P cart_node → P product_node → P stock_node → P order_node → P payment_node → P shipment_node → P customer_node → P seller_node → (n : ℕ) → n < services → P n
by_service P a b c d e f g h zero lt = a
by_service P a b c d e f g h (suc zero) lt = b
by_service P a b c d e f g h (suc (suc zero)) lt = c
by_service P a b c d e f g h (suc (suc (suc zero))) lt = d
by_service P a b c d e f g h (suc (suc (suc (suc zero)))) lt = e
by_service P a b c d e f g h (suc (suc (suc (suc (suc zero))))) lt = f
by_service P a b c d e f g h (suc (suc (suc (suc (suc (suc zero)))))) lt = g
by_service P a b c d e f g h (suc (suc (suc (suc (suc (suc (suc zero))))))) lt = h
by_service P a b c d e f g h (suc (suc (suc (suc (suc (suc (suc (suc n)))))))) lt = absurd (omega arith)

-- the service with a number has it
pub node_of-role_at : (n : ℕ) → n < services → node_of (role_at n) ≡ n
node_of-role_at n lt = by_service (λ k. node_of (role_at k) ≡ k) refl refl refl refl refl refl refl refl n lt

-- the steps of a service are a run
pub steps_of-run : (role : Role) (inputs : List Input) → IsRunOf role (steps_of role inputs)
steps_of-run role inputs = from [] inputs tt
  where
    one : (steps : List Step) (link : Link) (b : Body) (test : Bool) → fits role steps link b ≡ test → IsRunOf role steps → IsRunOf role (if test then with_step role steps link b else steps)
    one steps link b true fit run = is_run_push role steps (step_of role steps link b) run (follows_step_of role steps link b fit)
    one steps link b false fit run = run

    next : (steps : List Step) (input : Input) → IsRunOf role steps → IsRunOf role (with_input role steps input)
    next steps (Input.Gives request) run = run
    next steps (Input.Takes link b) run = one steps link b (fits role steps link b) refl run

    from : (steps : List Step) (inputs : List Input) → IsRunOf role steps → IsRunOf role (fold (with_input role) steps inputs)
    from steps [] run = run
    from steps (i ∷ is) run = from (with_input role steps i) is (next steps i run)

by_role : (role : Role) (steps : List Step) (from : Link) (b : Body) → IsRunOf role steps → length steps < most_steps → IsBody b → AreAnswers role b (answers role steps from b)
unfolding answers
by_role Role.Cart steps from b run few ok = cart_shape steps run b ok
by_role Role.Product steps from b run few ok = product_shape steps run few b ok
by_role Role.Stock steps from b run few ok = stock_shape steps run b ok
by_role Role.Order steps from b run few ok = order_shape steps run b ok
by_role Role.Payment steps from b run few ok = payment_shape steps b ok
by_role Role.Shipment steps from b run few ok = shipment_shape steps run b ok
by_role Role.Customer steps from b run few ok = customer_shape steps run few b ok
by_role Role.Seller steps from b run few ok = seller_shape steps run b ok

-- what a service answers after a run has the shape of answers
pub answers-shape : (role : Role) (steps : List Step) (from : Link) (b : Body) → IsRunOf role steps → fits role steps from b ≡ true → AreAnswers role b (answers role steps from b)
answers-shape role steps from b run fit =
    let parts = fits-parts role steps from b fit in by_role role steps from b run parts.few (body_formed-IsBody b parts.formed)

-- a service asks nothing
unasking : (n : ℕ) (link : Link) (b : Body) → n < services → sender_of link ≡ n → AsksOwn link b
unasking n (Service k) b lt leaves = tt
unasking n (Asked lane service) b lt leaves = absurd (omega arith)
unasking n (Told service lane) b lt leaves = tt

-- what a service makes for what it takes
service_made : (n : ℕ) → n < services → (before : List Input) (from : Link) (b : Body) → AllByRecursion (IsOut n) (map made_out (reactions (role_at n) (steps_of (role_at n) before) from b))
unfolding reactions
service_made n lt before from b = by (role_at n) refl (fits (role_at n) (steps_of (role_at n) before) from b) refl
  where
    each : (role : Role) → role ≡ role_at n → (made : List Sending) → AllByRecursion (IsAnswer role b) made → AllByRecursion (IsOut n) (map made_out made)
    each role is [] ok = tt
    each role is (s ∷ more) ok =
        let leaves : sender_of s.0 ≡ n = ok.0.leaves ∙ ap node_of is ∙ node_of-role_at n lt in
        (record { on = ok.0.link; leaves = leaves; carried = ok.0.carried; formed = ok.0.formed; own = unasking n s.0 s.1 lt leaves }, each role is more ok.1)

    by : (role : Role) → role ≡ role_at n → (test : Bool) → fits role (steps_of role before) from b ≡ test
        → AllByRecursion (IsOut n) (map made_out (if test then answers role (steps_of role before) from b else []))
    by role is true fit = each role is (answers role (steps_of role before) from b) (answers-shape role (steps_of role before) from b (steps_of-run role before) fit).each
    by role is false fit = tt

-- a request is for a service
pub service_by_ask-small : (a : Ask) → service_by_ask a < services
service_by_ask-small (ask.Create key price freight) = omega arith
service_by_ask-small (ask.Price key price) = omega arith
service_by_ask-small (ask.Delete key) = omega arith
service_by_ask-small (ask.View key) = omega arith
service_by_ask-small (ask.Line customer key quantity voucher) = omega arith
service_by_ask-small (ask.Remove customer key) = omega arith
service_by_ask-small (ask.Checkout customer) = omega arith
service_by_ask-small (ask.Stock key pieces) = omega arith
service_by_ask-small (ask.Level key) = omega arith
service_by_ask-small (ask.Order checkout) = omega arith
service_by_ask-small (ask.Card customer limit) = omega arith
service_by_ask-small ask.Deliver = omega arith
service_by_ask-small (ask.Customer customer) = omega arith
service_by_ask-small (ask.Dashboard seller) = omega arith

pub lane_of-small : (id : RequestId) → lane_of id < LANES
lane_of-small id = mod-lt id.caller (omega arith)

told_made : (n : ℕ) → IsLane n → (b : Body) → AllByRecursion (IsOut n) (told_outs b)
told_made n lane (body.Told id reply) = (lane, tt)
told_made n lane other = tt

-- what a lane makes
lane_made : (n : ℕ) → IsLane n → (before : List Entry) (arrival : Arrival) → IsReadyAfter n before (what_of arrival) → AllByRecursion (IsOut n) (lane_outs (input_of arrival))
lane_made n lane before (Arrival.Gives request) ready = (
  record {
    on = (lane_of-small request.id, service_by_ask-small request.ask);
    leaves = ready.1;
    carried = same (service_by_ask request.ask);
    formed = ready.0;
    own = refl;
  },
  tt,
)
  where
    same : (k : ℕ) → (k == k) ≡ true
    same k = grind (arith, nat_tests)
lane_made n lane before (Arrival.Takes event) ready = told_made n lane event.body

-- what a node makes for what arrives when it can
pub outs-made : (n : ℕ) → n < NODES → (before : List Entry) (arrival : Arrival) → IsReadyAfter n before (what_of arrival) → AllByRecursion (IsOut n) (node_outs n (inputs_of before) (input_of arrival))
unfolding node_outs
outs-made n lt before arrival ready = by (nat_lt n services) refl
  where
    service : (arrival : Arrival) → n < services → AllByRecursion (IsOut n) (service_outs (role_at n) (steps_of (role_at n) (inputs_of before)) (input_of arrival))
    service (Arrival.Gives request) small = tt
    service (Arrival.Takes event) small = service_made n small (inputs_of before) event.link event.body

    by : (test : Bool) → nat_lt n services ≡ test → AllByRecursion (IsOut n) (if test then service_outs (role_at n) (steps_of (role_at n) (inputs_of before)) (input_of arrival) else lane_outs (input_of arrival))
    by true is = service arrival (ltb-true n services is)
    by false is = let low : SERVICES ≤ n = grind (arith, nat_tests) in lane_made n (low, omega arith) before arrival ready
