-- A service stands for some steps after a step, whether it was taken or not.
use Rattle.std.proofs.Common.{◌≡◌, true, List, [], ◌∷◌, ◌++◌, Result, Ok, Err, OnOk, OnErr, ap, sym, subst, ◌∙◌}
use Rattle.std.proofs.Math.Logic.{∥∥₁_elim}
use Rattle.market_events.specs.declared.bodies.Body.{Body}
use Rattle.market_events.specs.declared.links.Link.{Link}
use Rattle.market_events.specs.Services.{Follows, answers, fits}
use Rattle.market_events.specs.Standing.{Stands, StandsForSome, CanTake, with_step}
use Rattle.market_events.specs.Steps.{Step}
use Rattle.market_events.specs.declared.roles.Role.{Role}

module _ {Kept : Type 0} (role : Role) (holds : Kept → List Step → Type 0) (old new : Kept) (from : Link) (b : Body) (can_take : CanTake role holds old from b) where
  -- it stands for the steps with this one
  pub some_stands : ((steps : List Step) → Stands role holds old steps → fits role steps from b ≡ true → Stands role holds new (with_step role steps from b))
      → StandsForSome role holds new
  some_stands stands = ∥∥₁_elim can_take squash₁ (λ it. ∣ (with_step role it.0 from b, stands it.0 it.1 it.2) ∣₁)

  -- it stands for what it stood for
  pub some_stood : ((steps : List Step) → Stands role holds old steps → Stands role holds new steps) → StandsForSome role holds new
  some_stood stands = ∥∥₁_elim can_take squash₁ (λ it. ∣ (it.0, stands it.0 it.1) ∣₁)

  -- so after a step, whatever it returned, it stands for some
  pub some_after_step : {T E : Type 0} (r : Result T E)
      → OnOk r ((steps : List Step) → Stands role holds old steps → fits role steps from b ≡ true → Stands role holds new (with_step role steps from b))
      → OnErr r ((steps : List Step) → Stands role holds old steps → Stands role holds new steps) → StandsForSome role holds new
  some_after_step (Ok x) stands stood = some_stands stands
  some_after_step (Err e) stands stood = some_stood stood

-- a service that holds no steps stands for none
pub starts : {Kept : Type 0} {role : Role} {holds : Kept → List Step → Type 0} (kept : Kept) → holds kept [] → Stands role holds kept []
starts kept held = record { run = tt; held = held }

-- a body that fits can be taken
pub can_take_body : {Kept : Type 0} {role : Role} {holds : Kept → List Step → Type 0} (kept : Kept) (steps : List Step) (from : Link) (b d : Body)
    → Stands role holds kept steps → b ≡ d → fits role steps from d ≡ true → CanTake role holds kept from b
can_take_body {role = role} kept steps from b d stands is fit = ∣ (steps, stands, ap (fits role steps from) is ∙ fit) ∣₁

-- and was
pub took_body : {Kept : Type 0} {role : Role} {holds : Kept → List Step → Type 0} (kept now : Kept) (steps : List Step) (from : Link) (b d : Body)
    → Stands role holds kept steps → b ≡ d → fits role steps from d ≡ true
    → ((steps : List Step) → Stands role holds kept steps → fits role steps from b ≡ true → Stands role holds now (with_step role steps from b))
    → Stands role holds now (with_step role steps from d)
took_body {role = role} {holds = holds} kept now steps from b d stands is fit on =
    subst (λ b. Stands role holds now (with_step role steps from b)) is (on steps stands (ap (fits role steps from) is ∙ fit))

-- a step that follows can be taken
pub can_take : {Kept : Type 0} {role : Role} {holds : Kept → List Step → Type 0} (kept : Kept) (steps : List Step) (s : Step) (b : Body)
    → Stands role holds kept steps → Follows role steps s → b ≡ s.body → CanTake role holds kept s.from b
can_take {role = role} kept steps s b stands follows is = ∣ (steps, stands, ap (fits role steps s.from) is ∙ follows.fit) ∣₁

-- and was
pub took : {Kept : Type 0} {role : Role} {holds : Kept → List Step → Type 0} (kept now : Kept) (steps : List Step) (s : Step) (b : Body)
    → Stands role holds kept steps → Follows role steps s → b ≡ s.body
    → ((steps : List Step) → Stands role holds kept steps → fits role steps s.from b ≡ true → Stands role holds now (with_step role steps s.from b))
    → Stands role holds now (steps ++ s ∷ [])
took {role = role} {holds = holds} kept now steps s b stands follows is on =
    let alike : (λ (b : Body). with_step role steps s.from b) b ≡ steps ++ s ∷ [] =
    λ i. steps ++ (let t : Step = record { from = s.from; body = is i; made = (ap (answers role steps s.from) is ∙ sym follows.made) i } in t) ∷ [] in
    subst (Stands role holds now) alike (on steps stands (ap (fits role steps s.from) is ∙ follows.fit))
