-- What the turns of nodes are in terms of the schedule.
use Rattle.std.specs.Prelude.{◌≡◌, ℕ, zero, suc, List, [], ◌∷◌, ◌++◌, Some, map}
use Rattle.market_events.specs.declared.events.Entry.{Entry}
use Rattle.market_events.specs.declared.events.Event.{Event}
use Rattle.market_events.specs.Links.{IsLink}
use Rattle.market_events.specs.declared.requests.Request.{Request}
use Rattle.market_history.specs.declared.schedule.Give.{Give}
use Rattle.market_history.specs.declared.schedule.Give.TheVariants as give
use Rattle.market_history.specs.declared.schedule.Step.{Step}
use Rattle.market_history.specs.declared.schedule.Step.TheVariants as step
use Rattle.market_history.specs.Histories.{Histories, journal_at, with_journal}
use Rattle.market_history.specs.Once.{give_of}
use Rattle.market_history.specs.Schedule.{event_at}
use Rattle.market_node.specs.Offered.{with_all_offered}
use Rattle.market_turns.specs.Queues.{with_queue}

-- the event was made on its link, with its number
pub record WasMade (h : Histories) (event : Event) : Type 0 where
  pub on : IsLink event.link
  pub made : event_at h event.link event.number ≡ Some event

-- the steps in which a node is offered events, one after the other
abbrev pub offer_steps : List Event → List Step
offer_steps events = map (λ (e : Event). step.Offer e.link e.number) events

-- the step in which a lane asks the first request of its queue that it does not pass over
abbrev pub asked_by_step : Give → Request → List Step → List Step
asked_by_step give.Asked r passed = step.Give r ∷ []
asked_by_step give.Waiting r passed = []
asked_by_step other r passed = passed

abbrev pub queue_steps : List Entry → List Request → List Step
queue_steps entries [] = []
queue_steps entries (r ∷ rs) = asked_by_step (give_of entries r) r (queue_steps entries rs)

-- what a turn leaves of a node's journal, where these events wait and these requests are in its queue
abbrev pub after_turn : ℕ → List Entry → List Event → List Request → List Entry
after_turn n entries events queue = with_queue n (with_all_offered n entries events) queue

-- the steps of that turn
abbrev pub turn_steps : ℕ → List Entry → List Event → List Request → List Step
turn_steps n entries events queue =
    offer_steps events ++ queue_steps (with_all_offered n entries events) queue

-- the histories after the turns of the first nodes
abbrev pub after_turns : (ℕ → List Event) → (ℕ → List Request) → Histories → ℕ → Histories
after_turns events queues h zero = h
after_turns events queues h (suc n) =
    with_journal (after_turns events queues h n) n (after_turn n (journal_at h n) (events n) (queues n))

-- and the steps of all these turns: those of node 0 first, then those of node 1, and so on
abbrev pub turns_steps : (ℕ → List Event) → (ℕ → List Request) → Histories → ℕ → List Step
turns_steps events queues h zero = []
turns_steps events queues h (suc n) =
    turns_steps events queues h n ++ turn_steps n (journal_at h n) (events n) (queues n)
