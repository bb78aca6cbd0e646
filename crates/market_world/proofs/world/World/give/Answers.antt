-- By what the lane did with the request.
use Rattle.std.proofs.Common.{◌≡◌, ap, ◌∙◌}
use Rattle.market_events.specs.Links.{lane_node}
use Rattle.market_events.specs.Requests.{lane_of}
use Rattle.market_history.specs.declared.schedule.Step.TheVariants as step
use Rattle.market_history.specs.Histories.{Histories}
use Rattle.market_history.specs.Schedule.{outcome_of, play_step}
use Rattle.market_world.proofs.Arrivals.{can_give}
use Rattle.market_world.proofs.Stepping.{with_journal-own, gave_outcome, gave_play, gave_lawful, on_err, failed_lawful}
use Rattle.market_world.proofs.world.World.give.Goals as goal

pub give-requires : goal.give-requires
give-requires c = can_give c.self.inside.cores c.self.invariant c.args.request.now c.requires

pub invariant_of-self : goal.invariant_of-self
invariant_of-self c = failed_lawful c.self.inside.cores c.give.new.self (lane_node (lane_of c.args.request.now.id)) c.self.invariant c.in_err-give.ensures.after

pub returns-in_err-give-clause-err : goal.returns-in_err-give-clause-err
returns-in_err-give-clause-err c =
    on_err c.from_residual.result (c.give.new.self ≡ c.args.self.now)
    (c.in_err-give.ensures.after ∙ with_journal-own c.self.inside.cores (lane_node (lane_of c.args.request.now.id)) ∙ c.self.view_is)

pub returns-in_err-give-clause-lawful : goal.returns-in_err-give-clause-lawful
returns-in_err-give-clause-lawful c = failed_lawful c.self.inside.cores c.give.new.self (lane_node (lane_of c.args.request.now.id)) c.self.invariant c.in_err-give.ensures.after

pub invariant_of-self-2 : goal.invariant_of-self-2
invariant_of-self-2 c =
    gave_lawful c.self.inside.cores c.give.new.self c.args.request.now c.self.invariant c.requires
    (c.in_ok-give.ensures.after ∙ gave_play c.self.inside.cores c.args.request.now c.in_ok-give.give c.in_ok-give.ensures.gives)

pub returns-clause-outcome : goal.returns-clause-outcome
returns-clause-outcome c =
    gave_outcome c.self.inside.cores c.args.request.now c.in_ok-give.give c.in_ok-give.ensures.gives
    ∙ ap (λ (h : Histories). outcome_of h (step.Give c.args.request.now)) c.self.view_is

pub returns-clause-histories : goal.returns-clause-histories
returns-clause-histories c =
    c.in_ok-give.ensures.after ∙ gave_play c.self.inside.cores c.args.request.now c.in_ok-give.give c.in_ok-give.ensures.gives
    ∙ ap (λ (h : Histories). play_step h (step.Give c.args.request.now)) c.self.view_is

pub returns-clause-lawful : goal.returns-clause-lawful
returns-clause-lawful c =
    gave_lawful c.self.inside.cores c.give.new.self c.args.request.now c.self.invariant c.requires
    (c.in_ok-give.ensures.after ∙ gave_play c.self.inside.cores c.args.request.now c.in_ok-give.give c.in_ok-give.ensures.gives)
