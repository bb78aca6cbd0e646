-- One step more.
use Rattle.std.proofs.Common.{◌≡◌, ℕ, ◌+◌, ◌≤◌, [], ◌∷◌, ◌++◌, length, take, ap, sym, ◌∙◌, arith}
use Rattle.std.proofs.lemmas.List.{take_more}
use Rattle.market_history.specs.Histories.{Histories}
use Rattle.market_history.specs.Schedule.{outcome_of, outcomes, play, play_step}
use Rattle.market_world.proofs.Playing.{play-push, outcomes-push}
use Rattle.market_world.proofs.SoundWorlds.{sound_of, complete_of}
use Rattle.market_world.proofs.Stepping.{on_err}
use Rattle.market_world.proofs.schedule.run_schedule.Goals as goal
use Rattle.market_world.proofs.schedule.run_schedule.Goals.{In_ok-outcome}

-- the steps with this one
with_step : (c : In_ok-outcome) → take c.loop-step.step-index c.args.steps.now ++ c.step-item.result ∷ [] ≡ take (c.loop-step.step-index + 1) c.args.steps.now
with_step c =
    ap (λ s. take c.loop-step.step-index c.args.steps.now ++ s ∷ []) c.step-item.is
    ∙ sym (take_more c.args.steps.now c.loop-step.step-index c.step-item.result c.loop-step-test.true)

-- it was played
played : (c : In_ok-outcome) → c.play.new.self ≡ play c.args.world.now (take (c.loop-step.step-index + 1) c.args.steps.now)
played c =
    c.in_ok-outcome.ensures.histories ∙ ap (λ (h : Histories). play_step h c.step-item.result) c.loop-step.invariant.1
    ∙ sym (play-push c.args.world.now (take c.loop-step.step-index c.args.steps.now) c.step-item.result)
    ∙ ap (play c.args.world.now) (with_step c)

pub returns-in_err-push-clause-some : goal.returns-in_err-push-clause-some
returns-in_err-push-clause-some c =
    on_err c.from_residual-in_err-push.result
    ((first : ℕ) × (first ≤ length c.args.steps.now) × (c.play.new.self ≡ play c.args.world.now (take first c.args.steps.now)))
    (c.loop-step.step-index + 1, omega (arith, c.loop-step-test.true), played (goal.at.returns-in_err-push-clause-some c).In_ok-outcome)

pub loop-step-preserved : goal.loop-step-preserved
loop-step-preserved c = (
  c.in_ok-outcome.ensures.lawful,
  played (goal.at.loop-step-preserved c).In_ok-outcome,
  c.in_ok-push.ensures.items ∙ ap (λ seen. seen ++ c.in_ok-outcome.outcome ∷ []) c.loop-step.invariant.2
      ∙ ap (λ o. outcomes c.args.world.now (take c.loop-step.step-index c.args.steps.now) ++ o ∷ [])
      (c.in_ok-outcome.ensures.outcome ∙ ap (λ (h : Histories). outcome_of h c.step-item.result) c.loop-step.invariant.1)
      ∙ sym (outcomes-push c.args.world.now (take c.loop-step.step-index c.args.steps.now) c.step-item.result)
      ∙ ap (outcomes c.args.world.now) (with_step (goal.at.loop-step-preserved c).In_ok-outcome),
)

pub returns-in_err-outcome-clause-sound : goal.returns-in_err-outcome-clause-sound
returns-in_err-outcome-clause-sound c = sound_of c.play.new.self c.in_err-outcome.ensures.lawful

pub returns-in_err-outcome-clause-complete : goal.returns-in_err-outcome-clause-complete
returns-in_err-outcome-clause-complete c = complete_of c.play.new.self c.in_err-outcome.ensures.lawful

pub returns-in_err-push-clause-sound : goal.returns-in_err-push-clause-sound
returns-in_err-push-clause-sound c = sound_of c.play.new.self c.in_ok-outcome.ensures.lawful

pub returns-in_err-push-clause-complete : goal.returns-in_err-push-clause-complete
returns-in_err-push-clause-complete c = complete_of c.play.new.self c.in_ok-outcome.ensures.lawful

pub returns-clause-sound : goal.returns-clause-sound
returns-clause-sound c = sound_of c.loop-step.world c.loop-step.invariant.0

pub returns-clause-complete : goal.returns-clause-complete
returns-clause-complete c = complete_of c.loop-step.world c.loop-step.invariant.0
