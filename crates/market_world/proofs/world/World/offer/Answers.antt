-- By what became of the event.
use Rattle.std.proofs.Common.{◌≡◌, Some, ap, sym, ◌∙◌}
use Rattle.market_events.specs.Links.{receiver_of}
use Rattle.market_history.specs.declared.schedule.Step.TheVariants as step
use Rattle.market_history.specs.Histories.{Histories}
use Rattle.market_history.specs.Schedule.{outcome_of, play_step}
use Rattle.market_world.proofs.Arrivals.{can_take}
use Rattle.market_world.proofs.Stepping.{with_journal-own, offered_outcome, offered_play, offered_lawful, unmade_outcome, unmade_play, on_err, failed_lawful}
use Rattle.market_world.proofs.world.World.offer.Goals as goal

pub returns-in_default-clause-outcome : goal.returns-in_default-clause-outcome
returns-in_default-clause-outcome c =
    unmade_outcome c.self.inside.cores c.args.link c.args.number (sym c.in_default.ensures)
    ∙ ap (λ (h : Histories). outcome_of h (step.Offer c.args.link c.args.number)) c.self.view_is

pub returns-in_default-clause-histories : goal.returns-in_default-clause-histories
returns-in_default-clause-histories c =
    sym c.self.view_is ∙ unmade_play c.self.inside.cores c.args.link c.args.number (sym c.in_default.ensures)
    ∙ ap (λ (h : Histories). play_step h (step.Offer c.args.link c.args.number)) c.self.view_is

pub take-requires : goal.take-requires
take-requires c =
    can_take c.self.inside.cores c.self.invariant c.args.link c.args.number c.requires c.in_ok-event.event (sym c.in-Some.ensures ∙ ap Some (sym c.in_ok-event.ensures))

pub invariant_of-self : goal.invariant_of-self
invariant_of-self c = failed_lawful c.self.inside.cores c.take.new.self (receiver_of c.in_ok-event.event.link) c.self.invariant c.in_err-offer.ensures.after

pub returns-in_err-offer-clause-err : goal.returns-in_err-offer-clause-err
returns-in_err-offer-clause-err c =
    on_err c.from_residual-in_err-offer.result (c.take.new.self ≡ c.args.self.now)
    (c.in_err-offer.ensures.after ∙ with_journal-own c.self.inside.cores (receiver_of c.in_ok-event.event.link) ∙ c.self.view_is)

pub returns-in_err-offer-clause-lawful : goal.returns-in_err-offer-clause-lawful
returns-in_err-offer-clause-lawful c =
    failed_lawful c.self.inside.cores c.take.new.self (receiver_of c.in_ok-event.event.link) c.self.invariant c.in_err-offer.ensures.after

pub invariant_of-self-2 : goal.invariant_of-self-2
invariant_of-self-2 c =
    offered_lawful c.self.inside.cores c.take.new.self c.args.link c.args.number c.self.invariant
    (c.in_ok-offer.ensures.after ∙ offered_play c.self.inside.cores c.args.link c.args.number c.in_ok-event.event (sym c.in-Some.ensures ∙ ap Some (sym c.in_ok-event.ensures)) c.in_ok-offer.offer c.in_ok-offer.ensures.offers)

pub returns-clause-outcome : goal.returns-clause-outcome
returns-clause-outcome c =
    offered_outcome c.self.inside.cores c.args.link c.args.number c.in_ok-event.event (sym c.in-Some.ensures ∙ ap Some (sym c.in_ok-event.ensures)) c.in_ok-offer.offer c.in_ok-offer.ensures.offers
    ∙ ap (λ (h : Histories). outcome_of h (step.Offer c.args.link c.args.number)) c.self.view_is

pub returns-clause-histories : goal.returns-clause-histories
returns-clause-histories c =
    c.in_ok-offer.ensures.after ∙ offered_play c.self.inside.cores c.args.link c.args.number c.in_ok-event.event (sym c.in-Some.ensures ∙ ap Some (sym c.in_ok-event.ensures)) c.in_ok-offer.offer c.in_ok-offer.ensures.offers
    ∙ ap (λ (h : Histories). play_step h (step.Offer c.args.link c.args.number)) c.self.view_is

pub returns-clause-lawful : goal.returns-clause-lawful
returns-clause-lawful c =
    offered_lawful c.self.inside.cores c.take.new.self c.args.link c.args.number c.self.invariant
    (c.in_ok-offer.ensures.after ∙ offered_play c.self.inside.cores c.args.link c.args.number c.in_ok-event.event (sym c.in-Some.ensures ∙ ap Some (sym c.in_ok-event.ensures)) c.in_ok-offer.offer c.in_ok-offer.ensures.offers)
