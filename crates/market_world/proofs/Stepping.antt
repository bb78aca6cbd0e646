-- What comes of a step, and what it leaves, by what became of the event or of the request.
use Rattle.std.proofs.Common.{◌≡◌, ℕ, Result, Ok, Err, OnErr, [], Some, None, refl, ap, sym, ◌∙◌, subst}
use Rattle.std.proofs.lemmas.List.{set-get_or}
use Rattle.std.specs.declared.alloc.AllocError.{AllocError}
use Rattle.market_events.specs.declared.events.Event.{Event}
use Rattle.market_events.specs.declared.events.Offer.{Offer}
use Rattle.market_events.specs.declared.events.Offer.TheVariants as offer
use Rattle.market_events.specs.declared.links.Link.{Link}
use Rattle.market_events.specs.declared.requests.Request.{Request}
use Rattle.market_events.specs.Links.{lane_node, receiver_of}
use Rattle.market_events.specs.Requests.{lane_of}
use Rattle.market_events.specs.WellFormed.{IsRequest}
use Rattle.market_history.specs.declared.schedule.Give.{Give}
use Rattle.market_history.specs.declared.schedule.Give.TheVariants as give
use Rattle.market_history.specs.declared.schedule.Outcome.TheVariants as outcome
use Rattle.market_history.specs.declared.schedule.Step.TheVariants as step
use Rattle.market_history.specs.Histories.{Histories, journal_at, with_journal}
use Rattle.market_history.specs.Lawful.{IsLawful}
use Rattle.market_history.specs.Schedule.{event_at, offered, gave, after_give, after_offer, after_offered, outcome_of, outcome_of_offer, play_step}
use Rattle.market_laws.proofs.Growth.Played.{step_keeps}
use Rattle.market_world.specs.Arriving.{after_offer_of, after_give_of}

-- histories with the journal that they have
pub with_journal-own : (h : Histories) (n : ℕ) → with_journal h n (journal_at h n) ≡ h
unfolding with_journal journal_at
with_journal-own h n = set-get_or h n []

-- the histories after an event was offered, and after a request was given
abbrev pub left_by_offer : Histories → Event → Result Offer AllocError → Histories
left_by_offer h event r =
    with_journal h (receiver_of event.link) (after_offer_of (receiver_of event.link) (journal_at h (receiver_of event.link)) event r)

abbrev pub left_by_give : Histories → Request → Result Give AllocError → Histories
left_by_give h r result =
    with_journal h (lane_node (lane_of r.id)) (after_give_of (lane_node (lane_of r.id)) (journal_at h (lane_node (lane_of r.id))) r result)

offer_left : (h : Histories) (event : Event) (o : Offer) → left_by_offer h event (Ok o) ≡ after_offer h event o
offer_left h event offer.Take = refl
offer_left h event offer.Old = with_journal-own h (receiver_of event.link)
offer_left h event offer.Ahead = with_journal-own h (receiver_of event.link)
offer_left h event offer.NotReady = with_journal-own h (receiver_of event.link)

give_left : (h : Histories) (r : Request) (g : Give) → left_by_give h r (Ok g) ≡ after_give h r g
give_left h r give.Asked = refl
give_left h r give.Kept = with_journal-own h (lane_node (lane_of r.id))
give_left h r give.Differs = with_journal-own h (lane_node (lane_of r.id))
give_left h r give.Waiting = with_journal-own h (lane_node (lane_of r.id))
give_left h r give.Full = with_journal-own h (lane_node (lane_of r.id))

-- an event that was made is offered
module _ (h : Histories) (link : Link) (number : ℕ) (event : Event) (found : event_at h link number ≡ Some event) (o : Offer) (is : o ≡ offered h event) where
  pub offered_outcome : outcome.Offered o ≡ outcome_of h (step.Offer link number)
  unfolding outcome_of
  offered_outcome = ap outcome.Offered is ∙ sym (ap (outcome_of_offer h) found)

  pub offered_play : left_by_offer h event (Ok o) ≡ play_step h (step.Offer link number)
  unfolding play_step
  offered_play = offer_left h event o ∙ ap (after_offer h event) is ∙ sym (ap (after_offered h) found)

-- an event that was not made
module _ (h : Histories) (link : Link) (number : ℕ) (none : event_at h link number ≡ None) where
  pub unmade_outcome : outcome.NeverMade ≡ outcome_of h (step.Offer link number)
  unfolding outcome_of
  unmade_outcome = sym (ap (outcome_of_offer h) none)

  pub unmade_play : h ≡ play_step h (step.Offer link number)
  unfolding play_step
  unmade_play = sym (ap (after_offered h) none)

-- a request is given
module _ (h : Histories) (r : Request) (g : Give) (is : g ≡ gave h r) where
  pub gave_outcome : outcome.Gave g ≡ outcome_of h (step.Give r)
  unfolding outcome_of
  gave_outcome = ap outcome.Gave is

  pub gave_play : left_by_give h r (Ok g) ≡ play_step h (step.Give r)
  unfolding play_step
  gave_play = give_left h r g ∙ ap (after_give h r) is

-- a count is told
pub told_outcome : (h : Histories) (link : Link) (count : ℕ) → outcome.Acked ≡ outcome_of h (step.Ack link count)
unfolding outcome_of
told_outcome h link count = refl

pub told_play : (h : Histories) (link : Link) (count : ℕ) → h ≡ play_step h (step.Ack link count)
unfolding play_step
told_play h link count = refl

-- what is left is lawful
pub offered_lawful : (h new : Histories) (link : Link) (number : ℕ) → IsLawful h → new ≡ play_step h (step.Offer link number) → IsLawful new
offered_lawful h new link number lawful is = subst IsLawful (sym is) (step_keeps h (step.Offer link number) lawful tt)

pub gave_lawful : (h new : Histories) (r : Request) → IsLawful h → IsRequest r → new ≡ play_step h (step.Give r) → IsLawful new
gave_lawful h new r lawful formed is = subst IsLawful (sym is) (step_keeps h (step.Give r) lawful formed)

-- where memory was wanting, what holds anyway
pub on_err : {A E : Type 0} (r : Result A E) (P : Type 0) → P → OnErr r P
on_err (Ok x) P known = tt
on_err (Err e) P known = known

-- and the histories are as they were
pub failed_lawful : (h new : Histories) (n : ℕ) → IsLawful h → new ≡ with_journal h n (journal_at h n) → IsLawful new
failed_lawful h new n lawful is = subst IsLawful (sym (is ∙ with_journal-own h n)) lawful
