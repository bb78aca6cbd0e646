-- Schedules: steps that change histories, each with its outcome, and the schedule that histories came by.
use Rattle.std.specs.Prelude.{ℕ, ◌==◌, Bool, ◌&&◌, ◌||◌, nat_lt, Option, Some, None, List}
use Rattle.std.specs.Prelude.{[], ◌∷◌, find, fold, map, if◌then◌else◌}
use Rattle.std.specs.List.{filter_map, flat_map, range_with_len}
use Rattle.market_events.specs.declared.events.Entry.{Entry}
use Rattle.market_events.specs.declared.events.Event.{Event}
use Rattle.market_events.specs.declared.events.Offer.{Offer}
use Rattle.market_events.specs.declared.events.Offer.TheVariants as offer
use Rattle.market_events.specs.declared.events.What.{What}
use Rattle.market_events.specs.declared.events.What.TheVariants.{Given, Taken, Made, Answered}
use Rattle.market_events.specs.declared.links.Link.{Link}
use Rattle.market_events.specs.declared.nodes.TheConstants.{NODES}
use Rattle.market_events.specs.declared.requests.Request.{Request}
use Rattle.market_events.specs.Links.{IsLink, lane_node, sender_of, receiver_of}
use Rattle.market_events.specs.Offers.{offer_of}
use Rattle.market_events.specs.Requests.{lane_of}
use Rattle.market_events.specs.WellFormed.{IsRequest}
use Rattle.market_history.specs.declared.schedule.Give.{Give}
use Rattle.market_history.specs.declared.schedule.Give.TheVariants as give
use Rattle.market_history.specs.declared.schedule.Step.{Step}
use Rattle.market_history.specs.declared.schedule.Step.TheVariants as step
use Rattle.market_history.specs.declared.schedule.Outcome.{Outcome}
use Rattle.market_history.specs.declared.schedule.Outcome.TheVariants as outcome
use Rattle.market_history.specs.Blocks.{Arrival, grow}
use Rattle.market_history.specs.Causality.{events_taken}
use Rattle.market_history.specs.Histories.{Histories, journal_at, with_journal}
use Rattle.market_history.specs.Once.{give_of}
use Rattle.market_history.specs.Sent.{sent}

-- the histories in which a node's journal has one block more
abbrev pub with_block : Histories → ℕ → Arrival → Histories
with_block h n arrival = with_journal h n (grow n (journal_at h n) arrival)

-- the event of a link with this number
abbrev pub event_at : Histories → Link → ℕ → Option Event
event_at h link number = find (λ (e : Event). e.number == number) (sent link (journal_at h (sender_of link)))

-- what comes of an event that is offered to its receiver, and what comes of a request that is given to its
-- lane
abbrev pub offered : Histories → Event → Offer
offered h event =
    offer_of (receiver_of event.link) (events_taken (journal_at h (receiver_of event.link))) event

abbrev pub gave : Histories → Request → Give
gave h r = give_of (journal_at h (lane_node (lane_of r.id))) r

-- a request that is asked, and an event that is taken, add a block; any other leaves the histories as they
-- are
abbrev pub after_give : Histories → Request → Give → Histories
after_give h r give.Asked = with_block h (lane_node (lane_of r.id)) (Arrival.Gives r)
after_give h r other = h

abbrev pub after_offer : Histories → Event → Offer → Histories
after_offer h event offer.Take = with_block h (receiver_of event.link) (Arrival.Takes event)
after_offer h event other = h

abbrev pub outcome_of_offer : Histories → Option Event → Outcome
outcome_of_offer h None = outcome.NeverMade
outcome_of_offer h (Some event) = outcome.Offered (offered h event)

abbrev pub after_offered : Histories → Option Event → Histories
after_offered h None = h
after_offered h (Some event) = after_offer h event (offered h event)

-- what comes of a step
unfoldable pub outcome_of : Histories → Step → Outcome
outcome_of h (step.Give r) = outcome.Gave (gave h r)
outcome_of h (step.Offer link number) = outcome_of_offer h (event_at h link number)
outcome_of h (step.Ack link count) = outcome.Acked

-- the histories that a step leaves
unfoldable pub play_step : Histories → Step → Histories
play_step h (step.Give r) = after_give h r (gave h r)
play_step h (step.Offer link number) = after_offered h (event_at h link number)
play_step h (step.Ack link count) = h

-- what comes of the steps, one after the other
abbrev pub outcomes : Histories → List Step → List Outcome
outcomes h [] = []
outcomes h (s ∷ ss) = outcome_of h s ∷ outcomes (play_step h s) ss

-- the histories that the steps leave
abbrev pub play : Histories → List Step → Histories
play h steps = fold play_step h steps

-- a request that is given is well formed
abbrev pub IsStep : Step → Type 0
IsStep (step.Give r) = IsRequest r
IsStep (step.Offer link number) = Unit {0}
IsStep (step.Ack link count) = Unit {0}

-- and the link of an event is one of the links: such a step can be played on nodes
abbrev pub IsPlayable : Step → Type 0
IsPlayable (step.Give r) = IsRequest r
IsPlayable (step.Offer link number) = IsLink link
IsPlayable (step.Ack link count) = IsLink link

-- a step that was taken at a node, with its clock there
pub record Moved : Type 0 where
  pub clock : ℕ
  pub node : ℕ
  pub step : Step

abbrev pub step_in : What → Option Step
step_in (Given request) = Some (step.Give request)
step_in (Taken event) = Some (step.Offer event.link event.number)
step_in (Made event) = None
step_in (Answered id reply) = None

abbrev pub moved_by : ℕ → ℕ → Option Step → Option Moved
moved_by node clock None = None
moved_by node clock (Some s) = Some (record { clock = clock; node = node; step = s })

-- the steps of one node
abbrev pub moves_at : Histories → ℕ → List Moved
moves_at h n = filter_map (λ (x : Entry). moved_by n x.clock (step_in x.what)) (journal_at h n)

-- a comes before b: by clock, and by node where the clocks are equal
abbrev pub goes_before : Moved → Moved → Bool
goes_before a b = nat_lt a.clock b.clock || ((a.clock == b.clock) && nat_lt a.node b.node)

abbrev pub put_in : Moved → List Moved → List Moved
put_in m [] = m ∷ []
put_in m (x ∷ xs) = if goes_before m x then m ∷ x ∷ xs else x ∷ put_in m xs

abbrev pub in_order : List Moved → List Moved
in_order moves = fold (λ ordered m. put_in m ordered) [] moves

-- the schedule that the histories came by: the requests given and the events taken, in the order of clock and
-- node
unfoldable pub merged : Histories → List Step
merged h = map (λ (m : Moved). m.step) (in_order (flat_map (moves_at h) (range_with_len 0 NODES)))
