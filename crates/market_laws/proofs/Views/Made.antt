-- What a service made on each link is what its steps made there (view-made); one block more is one input more of its steps
-- (steps-grow), and what it makes of it (outs-service).
use Rattle.std.proofs.Common.{◌≡◌, ℕ, ◌<◌, Bool, true, false, nat_lt, List, [], ◌∷◌, ◌++◌, filter_map, if◌then◌else◌, refl, ap, sym, ◌∙◌, append-nil, arith}
use Rattle.std.specs.Prelude.{map}
use Rattle.std.specs.List.{cons_option}
use Rattle.std.proofs.lemmas.Bool.Decides.{nat_tests}
use Rattle.std.proofs.lemmas.List.Elements.{filter_map-append}
use Rattle.std.proofs.lemmas.List.Sums.{fold-append}
use Rattle.market_events.specs.declared.bodies.Body.{Body}
use Rattle.market_events.specs.declared.events.Entry.{Entry}
use Rattle.market_events.specs.declared.links.Link.{Link}
use Rattle.market_events.specs.declared.roles.Role.{Role}
use Rattle.market_events.specs.Services.{answers, fits, reactions}
use Rattle.market_events.specs.Standing.{step_of, with_step}
use Rattle.market_events.specs.Steps.{Step, Sending, made_in, body_on}
use Rattle.market_events.proofs.Steps.Taken.{made_in-push}
use Rattle.market_history.specs.Blocks.{Input, Arrival, input_of, inputs_of, role_at, with_input, steps_of, made_out, service_outs, lane_outs, services, node_outs, grow}
use Rattle.market_history.proofs.GrowLaws.{outs_after, inputs_of-grow}
use Rattle.market_history.proofs.GrowSent.{out_on, bodies_on, bodies-grow}
use Rattle.market_laws.specs.Cuts.{steps_at}
use Rattle.market_laws.specs.Grown.{Grown, nothing, more}

-- what a service makes of what arrives
pub outs-service : (n : ℕ) → n < services → (j : List Entry) (a : Arrival) → outs_after n j a ≡ service_outs (role_at n) (steps_at n j) (input_of a)
unfolding node_outs
outs-service n lt j a = by (nat_lt n services) (grind (arith, nat_tests))
  where
    by : (test : Bool) → test ≡ true → (if test then service_outs (role_at n) (steps_at n j) (input_of a) else lane_outs (input_of a)) ≡ service_outs (role_at n) (steps_at n j) (input_of a)
    by true is = refl
    by false is = cc

-- one block more is one input more
pub steps-grow : (n : ℕ) (j : List Entry) (a : Arrival) → steps_at n (grow n j a) ≡ with_input (role_at n) (steps_at n j) (input_of a)
steps-grow n j a =
    ap (steps_of (role_at n)) (inputs_of-grow n j a) ∙ fold-append (with_input (role_at n)) [] (inputs_of j) (input_of a ∷ [])

-- what is made on a link, of what is left
on_made : (link : Link) (made : List Sending) → filter_map (out_on link) (map made_out made) ≡ filter_map (body_on link) made
on_made link [] = refl
on_made link (s ∷ others) = ap (cons_option (body_on link s)) (on_made link others)

-- of an input
fitted_on : (role : Role) (steps : List Step) (link from : Link) (b : Body) → filter_map (body_on link) (made_in steps) ++ filter_map (out_on link) (map made_out (reactions role steps from b)) ≡ filter_map (body_on link) (made_in (with_input role steps (Input.Takes from b)))
unfolding reactions
fitted_on role steps link from b = by (fits role steps from b)
  where
    by : (test : Bool) → filter_map (body_on link) (made_in steps) ++ filter_map (out_on link) (map made_out (if test then answers role steps from b else [])) ≡ filter_map (body_on link) (made_in (if test then with_step role steps from b else steps))
    by true =
        ap (λ l. filter_map (body_on link) (made_in steps) ++ l) (on_made link (answers role steps from b))
        ∙ sym (filter_map-append (body_on link) (made_in steps) (answers role steps from b)) ∙ ap (filter_map (body_on link)) (sym (made_in-push steps (step_of role steps from b)))
    by false = append-nil (filter_map (body_on link) (made_in steps))

input_on : (role : Role) (steps : List Step) (link : Link) (input : Input) → filter_map (body_on link) (made_in steps) ++ filter_map (out_on link) (service_outs role steps input) ≡ filter_map (body_on link) (made_in (with_input role steps input))
input_on role steps link (Input.Gives request) = append-nil (filter_map (body_on link) (made_in steps))
input_on role steps link (Input.Takes from b) = fitted_on role steps link from b

-- the bodies that a service made on a link, by its steps; on the service link k these are made_on k of them
pub view-made : (n : ℕ) → n < services → (link : Link) {j : List Entry} → Grown n j → bodies_on link j ≡ filter_map (body_on link) (made_in (steps_at n j))
view-made n lt link nothing = refl
view-made n lt link (more j a grown ready) =
    bodies-grow link n j a ∙ ap (λ l. l ++ filter_map (out_on link) (outs_after n j a)) (view-made n lt link grown)
    ∙ ap (λ outs. filter_map (body_on link) (made_in (steps_at n j)) ++ filter_map (out_on link) outs) (outs-service n lt j a)
    ∙ input_on (role_at n) (steps_at n j) link (input_of a) ∙ ap (λ steps. filter_map (body_on link) (made_in steps)) (sym (steps-grow n j a))
