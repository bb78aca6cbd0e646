-- In lawful histories an event that is offered meets what its receiver asks of it (can_take), and a request what its lane asks
-- (can_give).
use Rattle.std.proofs.Common.{◌≡◌, ℕ, ◌<◌, ◌≤◌, ◌==◌, true, is_none, List, [], ◌∷◌, Option, Some, None, length, refl, ap, sym, ◌∙◌, subst, arith}
use Rattle.std.specs.List.{AllByRecursion, last_or}
use Rattle.market_events.specs.declared.bodies.Body.{Body}
use Rattle.market_events.specs.declared.bodies.Body.TheVariants as body
use Rattle.market_events.specs.declared.events.Entry.{Entry}
use Rattle.market_events.specs.declared.events.Event.{Event}
use Rattle.market_events.specs.declared.events.Offer.TheVariants as offer
use Rattle.market_events.specs.declared.events.What.TheVariants.{Taken, Made}
use Rattle.market_events.specs.declared.links.Link.{Link}
use Rattle.market_events.specs.declared.nodes.TheConstants.{NODES}
use Rattle.market_events.specs.declared.requests.Request.{Request}
use Rattle.market_events.specs.Links.{IsLink, lane_node, sender_of, receiver_of}
use Rattle.market_events.specs.Requests.{lane_of}
use Rattle.market_events.specs.Services.{fits}
use Rattle.market_events.specs.WellFormed.{IsRequest, IsWellFormedEvent, IsWellFormedWhat}
use Rattle.market_events.proofs.Values.Offers.{same_link-true}
use Rattle.market_history.specs.declared.schedule.Step.TheVariants as step
use Rattle.market_history.specs.Blocks.{Arrival, grow, inputs_of, role_at, services, steps_of}
use Rattle.market_history.specs.Histories.{Histories, journal_at}
use Rattle.market_history.specs.Journals.{CanHappen, IsEntry, IsEvent, IsJournal}
use Rattle.market_history.specs.Lawful.{IsLawful}
use Rattle.market_history.specs.Schedule.{with_block, event_at, offered, after_offer, after_offered, play_step}
use Rattle.market_history.specs.Sent.{event_made_on, sent}
use Rattle.market_history.specs.Stamps.{EachAfter, clock_in, clock_before}
use Rattle.market_history.proofs.EntryLaws.{IsJournal-at}
use Rattle.market_history.proofs.GrowLaws.{entry_of}
use Rattle.market_history.proofs.HistoryLaws.{journal_at-same}
use Rattle.market_history.proofs.StampLaws.{EachAfter-at}
use Rattle.market_laws.specs.Cuts.{FitsAfter}
use Rattle.market_laws.specs.Entries.{total_entries}
use Rattle.market_laws.specs.Fitting.{InTimeAfter, IsInTime}
use Rattle.market_laws.proofs.Growth.Members.{find-at, gathered-at}
use Rattle.market_laws.proofs.Clocks.Bounded.{clock-few, clocks-few}
use Rattle.market_laws.proofs.Origins.Places.{grow-first}
use Rattle.market_laws.proofs.Bounds.Few.{few, length-few}
use Rattle.market_laws.proofs.Bounds.LinkEnds.{receiver-small, sender-small}
use Rattle.market_laws.proofs.Growth.Made.{made_on-is}
use Rattle.market_laws.proofs.Growth.Outs.{lane_of-small}
use Rattle.market_laws.proofs.Growth.Played.{step_keeps}
use Rattle.market_laws.proofs.Growth.Proper.{histories_are}
use Rattle.market_laws.proofs.Fits.All.{services-fit, lanes-in_time}
use Rattle.market_laws.proofs.Growth.Takers.{StandsAt}
use Rattle.market_node.specs.Keeping.{IsAwaitedBy}
use Rattle.market_world.specs.Arriving.{CanOffer, CanGive}

-- the last clock is no greater than a bound of all
last_few : (top : ℕ) (o : Option Entry) (xs : List Entry) → clock_in o ≤ top → AllByRecursion (λ (x : Entry). x.clock ≤ top) xs → clock_in (last_or o xs) ≤ top
last_few top o [] low each = low
last_few top o (x ∷ xs) low each = last_few top (Some x) xs each.0 each.1

-- a reply that comes in time is awaited
awaited_of : (entries : List Entry) (b : Body) → IsInTime entries b → IsAwaitedBy entries b
awaited_of entries (body.Told id reply) time = rw time.given (ap is_none time.waits)
awaited_of entries other time = tt

-- what is known of an event that was made
record IsMadeThere (h : Histories) (link : Link) (event : Event) : Type 0 where
  on : event.link ≡ link
  event_is : IsEvent event
  formed : IsWellFormedEvent event
  clock : event.clock ≤ total_entries h

module _ (h : Histories) (lawful : IsLawful h) where
  before_few : (n : ℕ) → n < NODES → clock_before (journal_at h n) ≤ total_entries h
  before_few n lt = last_few (total_entries h) None (journal_at h n) (omega arith) (clocks-few h n lawful lt)

  made_there : (link : Link) (number : ℕ) → IsLink link → (event : Event) → event_at h link number ≡ Some event → IsMadeThere h link event
  made_there link number on event found =
      let n = sender_of link in
      let lt : n < NODES = sender-small link on in
      let at = find-at (λ (e : Event). e.number == number) (sent link (journal_at h n)) event found in
      let place = gathered-at (λ (x : Entry). event_made_on link x.what) (journal_at h n) at.before event at.after at.is in
      let made = made_on-is link place.at.what event place.gives in
      let stands : StandsAt h n place.at = record { node = lt; before = place.before; after = place.after; is = place.is } in
      let entry : IsEntry n (length place.before) place.at =
      IsJournal-at n place.before place.at place.after (subst (IsJournal n) place.is ((histories_are h lawful).journals n lt)) in
      let happens : CanHappen n place.at.clock (Made event) = subst (CanHappen n place.at.clock) made.0 entry.what in
      let formed : IsWellFormedWhat (Made event) = subst IsWellFormedWhat made.0 entry.formed.what in
      let clock : place.at.clock ≤ total_entries h = clock-few h place.at.clock lawful (record { node = n; entry = place.at; stands = stands; clock_is = refl }) in
      record { on = same_link-true event.link link made.1; event_is = happens.0; formed = formed; clock = omega (arith, clock, happens.2) }

  module _ (link : Link) (number : ℕ) (on : IsLink link) (event : Event) (found : event_at h link number ≡ Some event) (take : offered h event ≡ offer.Take) where
    abbrev n : ℕ
    n = receiver_of event.link

    abbrev after : Histories
    after = with_block h n (Arrival.Takes event)

    played : play_step h (step.Offer link number) ≡ after
    unfolding play_step
    played = ap (after_offered h) found ∙ ap (after_offer h event) take

    after_lawful : IsLawful after
    after_lawful = subst IsLawful played (step_keeps h (step.Offer link number) lawful tt)

    node_lt : n < NODES
    node_lt = receiver-small event.link (subst IsLink (sym (made_there link number on event found).on) on)

    grown : journal_at after n ≡ grow n (journal_at h n) (Arrival.Takes event)
    grown = journal_at-same h n (grow n (journal_at h n) (Arrival.Takes event)) (subst (λ k. n < k) (sym lawful.each) node_lt)

    -- what holds of each entry after those before it holds of the event that is taken
    of_each : (P : List Entry → Entry → Type 0) → EachAfter P [] (journal_at after n) → P (journal_at h n) (entry_of (journal_at h n) (Taken event))
    of_each P each =
        let first = grow-first n (journal_at h n) (Arrival.Takes event) in
        EachAfter-at P [] (journal_at h n) (entry_of (journal_at h n) (Taken event)) first.after (subst (EachAfter P []) (grown ∙ first.is) each)

    fits_there : n < services → fits (role_at n) (steps_of (role_at n) (inputs_of (journal_at h n))) event.link event.body ≡ true
    fits_there lt = of_each (λ before (x : Entry). FitsAfter n before x.what) (services-fit after after_lawful n lt)

    awaited_there : IsAwaitedBy (journal_at h n) event.body
    awaited_there = awaited_of (journal_at h n) event.body (of_each (λ before (x : Entry). InTimeAfter before x.what) (lanes-in_time after after_lawful n node_lt))

  pub can_take : (link : Link) (number : ℕ) → IsLink link → (event : Event) → event_at h link number ≡ Some event → CanOffer (receiver_of event.link) (journal_at h (receiver_of event.link)) event
  can_take link number on event found =
      let made = made_there link number on event found in
      let lt : receiver_of event.link < NODES = receiver-small event.link (subst IsLink (sym made.on) on) in
      record {
        arrives = record {
          link = made.event_is.link;
          into = refl;
          carried = made.event_is.body;
          formed = made.formed;
          few = omega (arith, length-few h lawful (receiver_of event.link) lt, few h lawful);
          clock = omega (arith, before_few (receiver_of event.link) lt, made.clock, few h lawful);
        };
        own = made.event_is.own;
        fitting = λ service take. fits_there link number on event found take service;
        awaited = λ take. awaited_there link number on event found take;
      }

  pub can_give : (r : Request) → IsRequest r → CanGive (lane_node (lane_of r.id)) (journal_at h (lane_node (lane_of r.id))) r
  can_give r formed =
      let lt : lane_node (lane_of r.id) < NODES = omega (arith, lane_of-small r.id) in
      record {
        formed = formed;
        own = refl;
        few = omega (arith, length-few h lawful (lane_node (lane_of r.id)) lt, few h lawful);
        clock = omega (arith, before_few (lane_node (lane_of r.id)) lt, few h lawful);
      }
