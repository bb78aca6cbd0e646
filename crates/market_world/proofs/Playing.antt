-- One step more of a schedule.
use Rattle.std.proofs.Common.{◌≡◌, List, [], ◌∷◌, ◌++◌, refl, ap}
use Rattle.market_history.specs.declared.schedule.Step.{Step}
use Rattle.market_history.specs.Histories.{Histories}
use Rattle.market_history.specs.Schedule.{outcome_of, outcomes, play, play_step}

pub play-push : (h : Histories) (xs : List Step) (s : Step) → play h (xs ++ s ∷ []) ≡ play_step (play h xs) s
play-push h [] s = refl
play-push h (x ∷ xs) s = play-push (play_step h x) xs s

pub outcomes-push : (h : Histories) (xs : List Step) (s : Step) → outcomes h (xs ++ s ∷ []) ≡ outcomes h xs ++ outcome_of (play h xs) s ∷ []
outcomes-push h [] s = refl
outcomes-push h (x ∷ xs) s = ap (λ os. outcome_of h x ∷ os) (outcomes-push (play_step h x) xs s)
