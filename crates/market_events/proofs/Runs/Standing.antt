-- What a service stands for after one step more, and what follows from what it can take.
use Rattle.std.proofs.Common.{◌≡◌, ◌<◌, true, ◌==◌, ◌&&◌, List, [], ◌∷◌, ◌++◌, length, nat_lt, refl, subst, append_assoc}
use Rattle.std.proofs.Math.Logic.{∥∥₁_elim}
use Rattle.std.proofs.lemmas.Bool.{and_parts, ltb-true}
use Rattle.std.proofs.lemmas.List.{append-nil}
use Rattle.market_events.specs.declared.bodies.Body.{Body}
use Rattle.market_events.specs.declared.links.Link.{Link}
use Rattle.market_events.specs.Carried.{carries}
use Rattle.market_events.specs.Formed.{body_formed}
use Rattle.market_events.specs.Links.{receiver_of}
use Rattle.market_events.specs.Services.{Role, Follows, RunsFrom, IsRunOf, answers, fits, reactions, most_steps, node_of, role_fits}
use Rattle.market_events.specs.Standing.{Stands, StandsForSome, CanTake, step_of, with_step}
use Rattle.market_events.specs.Steps.{Step}

-- the parts of the test whether an input fits
pub record IsFit (role : Role) (steps : List Step) (from : Link) (b : Body) : Type 0 where
  pub few : length steps < most_steps
  pub formed : body_formed b ≡ true
  pub into : (receiver_of from == node_of role) ≡ true
  pub carried : carries from b ≡ true
  pub kind : role_fits role steps b ≡ true

pub is_fit : (role : Role) (steps : List Step) (from : Link) (b : Body) → fits role steps from b ≡ true → IsFit role steps from b
unfolding fits
is_fit role steps from b fit =
    let fourth = and_parts (nat_lt (length steps) most_steps && body_formed b && (receiver_of from == node_of role) && carries from b) (role_fits role steps b) fit in
    let third = and_parts (nat_lt (length steps) most_steps && body_formed b && (receiver_of from == node_of role)) (carries from b) fourth.0 in
    let second = and_parts (nat_lt (length steps) most_steps && body_formed b) (receiver_of from == node_of role) third.0 in
    let first = and_parts (nat_lt (length steps) most_steps) (body_formed b) second.0 in
    record {
      few = ltb-true (length steps) most_steps first.0;
      formed = first.1;
      into = second.1;
      carried = third.1;
      kind = fourth.1;
    }

-- steps from others on, and one that follows them all
pub runs_push : (role : Role) (before steps : List Step) (s : Step) → RunsFrom role before steps → Follows role (before ++ steps) s → RunsFrom role before (steps ++ s ∷ [])
runs_push role before [] s run next = (subst (λ steps. Follows role steps s) (append-nil before) next, tt)
runs_push role before (t ∷ ts) s run next = (run.0, runs_push role (before ++ t ∷ []) ts s run.1 (rw append_assoc next))

-- a run with a step that follows it
pub is_run_push : (role : Role) (steps : List Step) (s : Step) → IsRunOf role steps → Follows role steps s → IsRunOf role (steps ++ s ∷ [])
is_run_push role steps s run next = runs_push role [] steps s run next

-- an input that fits is answered
pub reactions-fit : (role : Role) (steps : List Step) (from : Link) (b : Body) → fits role steps from b ≡ true → reactions role steps from b ≡ answers role steps from b
unfolding reactions
reactions-fit role steps from b fit = rw fit refl

-- the step of an input that fits follows
pub follows_step_of : (role : Role) (steps : List Step) (from : Link) (b : Body) → fits role steps from b ≡ true → Follows role steps (step_of role steps from b)
follows_step_of role steps from b fit = record { fit = fit; made = refl }

module _ {Kept : Type 0} (role : Role) (holds : Kept → List Step → Type 0) (old new : Kept) where
  -- what is kept after a step stands for the steps with it
  pub stands_on : (steps : List Step) (from : Link) (b : Body) → Stands role holds old steps → fits role steps from b ≡ true → holds new (with_step role steps from b)
      → Stands role holds new (with_step role steps from b)
  stands_on steps from b stands fit held = record {
    run = is_run_push role steps (step_of role steps from b) stands.run (follows_step_of role steps from b fit);
    held = held;
  }

  -- where it holds what the old did, it stands for what the old stood for
  pub stands_still : (steps : List Step) → ((steps : List Step) → holds old steps → holds new steps) → Stands role holds old steps → Stands role holds new steps
  stands_still steps held stands = record { run = stands.run; held = held steps stands.held }

  -- what can take an input stands for some steps
  pub some_can_take : (from : Link) (b : Body) → CanTake role holds old from b → StandsForSome role holds old
  some_can_take from b can = ∥∥₁_elim can squash₁ (λ it. ∣ (it.0, it.1) ∣₁)
