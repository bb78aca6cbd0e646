-- The core of a service after it took an event: its journal has one block more, and the service stands for one step more.
use Rattle.std.proofs.Common.{◌≡◌, ℕ, ◌+◌, true, max, List, ap, subst, sym, ◌∙◌}
use Rattle.std.specs.Prelude.{map, fold}
use Rattle.std.specs.List.{AllByRecursion}
use Rattle.market_events.specs.declared.bodies.Body.{Body}
use Rattle.market_events.specs.declared.events.Entry.{Entry}
use Rattle.market_events.specs.declared.events.Event.{Event}
use Rattle.market_events.specs.declared.events.Offer.{Offer}
use Rattle.market_events.specs.declared.events.Offer.TheVariants as offer
use Rattle.market_events.specs.declared.events.What.TheVariants.{Taken}
use Rattle.market_events.specs.declared.links.Link.{Link}
use Rattle.market_events.specs.Offers.{offer_of}
use Rattle.market_events.specs.declared.roles.Role.{Role}
use Rattle.market_events.specs.Services.{node_of, fits, reactions}
use Rattle.market_events.specs.Standing.{Stands, CanTake, StandsForSome, with_step}
use Rattle.market_events.specs.Steps.{Step, Sending}
use Rattle.market_events.proofs.Runs.Standing.{stands_on, stands_still}
use Rattle.market_history.specs.Blocks.{Arrival, inputs_of, steps_of, made_out, with_what, with_out, grow}
use Rattle.market_history.specs.Causality.{events_taken}
use Rattle.market_history.specs.Stamps.{clock_before}
use Rattle.market_history.proofs.CoreGrow.{grow-service, steps_of-taken, clock-with_what}
use Rattle.market_node.specs.Cores.{CoreState, core_of, with_entries}
use Rattle.market_node.specs.Records.{RecordState}
use Rattle.market_node.specs.ServiceCores.{IsServiceCore, CanMake}
use Rattle.market_node.proofs.MadeLaws.{CanMakeAll, reactions_can}

-- the block that a service's answers make
pub service_grows : (role : Role) (node : ℕ) (entries : List Entry) (event : Event) (outs : List Sending) → node ≡ node_of role → outs ≡ reactions role (steps_of role (inputs_of entries)) event.link event.body
    → fold with_out (with_what entries (Taken event)) (map made_out outs) ≡ grow node entries (Arrival.Takes event)
service_grows role node entries event outs is made =
    ap (λ (os : List Sending). fold with_out (with_what entries (Taken event)) (map made_out os)) made
    ∙ sym (grow-service role entries event)
    ∙ ap (λ n. grow n entries (Arrival.Takes event)) (sym is)

-- what is taken fits
pub fit_of : (old : RecordState) (now : CoreState) (role : Role) (event : Event) (o : Offer) → core_of old ≡ now
    → (offer_of now.node (events_taken now.entries) event ≡ offer.Take → fits role (steps_of role (inputs_of now.entries)) event.link event.body ≡ true)
    → o ≡ offer_of old.node (events_taken old.entries) event → o ≡ offer.Take → fits role (steps_of role (inputs_of old.entries)) event.link event.body ≡ true
fit_of old now role event o view fitting is take =
    subst (λ (s : CoreState). offer_of s.node (events_taken s.entries) event ≡ offer.Take → fits role (steps_of role (inputs_of s.entries)) event.link event.body ≡ true) (sym view) fitting (sym is ∙ take)

-- the record of the event that was taken, and of what the service made of it
pub record TookIt (old held took : RecordState) (event taken : Event) (room left : ℕ) : Type 0 where
  pub held_is : held ≡ record { node = old.node; entries = old.entries; committed = old.committed; acknowledged = old.acknowledged; room = room }
  pub taken_is : taken ≡ event
  pub took_is : took ≡ record { node = held.node; entries = with_what held.entries (Taken taken); committed = held.committed; acknowledged = held.acknowledged; room = left }

module _ (old held took : RecordState) (event taken : Event) (room left : ℕ) (it : TookIt old held took event taken room left) where
  pub took_node : took.node ≡ old.node
  took_node = ap (λ (r : RecordState). r.node) it.took_is ∙ ap (λ (r : RecordState). r.node) it.held_is

  pub took_committed : took.committed ≡ old.committed
  took_committed = ap (λ (r : RecordState). r.committed) it.took_is ∙ ap (λ (r : RecordState). r.committed) it.held_is

  pub took_entries : took.entries ≡ with_what old.entries (Taken event)
  took_entries =
      ap (λ (r : RecordState). r.entries) it.took_is ∙ ap (λ (r : RecordState). with_what r.entries (Taken taken)) it.held_is
      ∙ ap (λ (e : Event). with_what old.entries (Taken e)) it.taken_is

  took_acknowledged : took.acknowledged ≡ old.acknowledged
  took_acknowledged = ap (λ (r : RecordState). r.acknowledged) it.took_is ∙ ap (λ (r : RecordState). r.acknowledged) it.held_is

  -- its clock is one above the last one and the event's
  pub took_clock : clock_before took.entries ≡ max (clock_before old.entries) event.clock + 1
  took_clock = ap (λ es. clock_before es) took_entries ∙ clock-with_what old.entries (Taken event)

  -- the node can still make what it could
  pub took_can : (outs : List Sending) → CanMakeAll old.node outs → AllByRecursion (CanMake took.node) outs
  took_can outs can = subst (λ n. AllByRecursion (CanMake n) outs) (sym took_node) can.each

  -- with what is made of it, it is the block
  pub took_grown : (role : Role) (outs : List Sending) (made : RecordState) (rest : ℕ) → old.node ≡ node_of role → outs ≡ reactions role (steps_of role (inputs_of old.entries)) event.link event.body
      → made ≡ record { node = took.node; entries = fold with_out took.entries (map made_out outs); committed = took.committed; acknowledged = took.acknowledged; room = rest }
      → made.entries ≡ grow old.node old.entries (Arrival.Takes event)
  took_grown role outs made rest is answered made_is =
      ap (λ (r : RecordState). r.entries) made_is ∙ ap (λ es. fold with_out es (map made_out outs)) took_entries
      ∙ service_grows role old.node old.entries event outs is answered

  pub made_node : (outs : List Sending) (made : RecordState) (rest : ℕ)
      → made ≡ record { node = took.node; entries = fold with_out took.entries (map made_out outs); committed = took.committed; acknowledged = took.acknowledged; room = rest } → made.node ≡ old.node
  made_node outs made rest made_is = ap (λ (r : RecordState). r.node) made_is ∙ took_node

  pub made_committed : (outs : List Sending) (made : RecordState) (rest : ℕ)
      → made ≡ record { node = took.node; entries = fold with_out took.entries (map made_out outs); committed = took.committed; acknowledged = took.acknowledged; room = rest } → made.committed ≡ old.committed
  made_committed outs made rest made_is = ap (λ (r : RecordState). r.committed) made_is ∙ took_committed

  pub made_acknowledged : (outs : List Sending) (made : RecordState) (rest : ℕ)
      → made ≡ record { node = took.node; entries = fold with_out took.entries (map made_out outs); committed = took.committed; acknowledged = took.acknowledged; room = rest } → made.acknowledged ≡ old.acknowledged
  made_acknowledged outs made rest made_is = ap (λ (r : RecordState). r.acknowledged) made_is ∙ took_acknowledged

-- a core that has the same node, as many committed entries and as many acknowledged events
pub grown_core : (old made : RecordState) (now : CoreState) (event : Event) → core_of old ≡ now → made.node ≡ old.node → made.committed ≡ old.committed → made.acknowledged ≡ old.acknowledged → made.entries ≡ grow old.node old.entries (Arrival.Takes event)
    → core_of made ≡ with_entries now (grow now.node now.entries (Arrival.Takes event))
grown_core old made now event view node committed acknowledged grown =
    subst (λ (s : CoreState). core_of made ≡ with_entries s (grow s.node s.entries (Arrival.Takes event))) view
    (ap (λ n. state n made.entries made.committed made.acknowledged) node ∙ ap (λ es. state old.node es made.committed made.acknowledged) grown
    ∙ ap (λ n. state old.node (grow old.node old.entries (Arrival.Takes event)) n made.acknowledged) committed
    ∙ ap (λ ns. state old.node (grow old.node old.entries (Arrival.Takes event)) old.committed ns) acknowledged)
  where
    state : ℕ → List Entry → ℕ → List ℕ → CoreState
    state node entries committed acknowledged = record { node = node; entries = entries; committed = committed; acknowledged = acknowledged }

module _ {Kept : Type 0} (role : Role) (holds : Kept → List Step → Type 0) where
  -- what it can take
  pub can_take : (recorder : RecordState) (service : Kept) (from : Link) (b : Body) → IsServiceCore role holds recorder service → fits role (steps_of role (inputs_of recorder.entries)) from b ≡ true → CanTake role holds service from b
  can_take recorder service from b core fit = ∣ (steps_of role (inputs_of recorder.entries), core.stands, fit) ∣₁

  -- it stands for some steps
  pub stands_for_some : (recorder : RecordState) (service : Kept) → IsServiceCore role holds recorder service → StandsForSome role holds service
  stands_for_some recorder service core = ∣ (steps_of role (inputs_of recorder.entries), core.stands) ∣₁

  -- what it makes, its node can make
  pub can_make_all : (recorder : RecordState) (service : Kept) (from : Link) (b : Body) (outs : List Sending) → IsServiceCore role holds recorder service → fits role (steps_of role (inputs_of recorder.entries)) from b ≡ true
      → outs ≡ reactions role (steps_of role (inputs_of recorder.entries)) from b → CanMakeAll recorder.node outs
  can_make_all recorder service from b outs core fit made =
      subst (λ n. CanMakeAll n outs) (sym core.node)
      (subst (λ os. CanMakeAll (node_of role) os) (sym made) (reactions_can role (steps_of role (inputs_of recorder.entries)) from b core.stands.run fit))

  -- after the event was taken
  pub core_taken : (old new : RecordState) (before after : Kept) (event : Event) → IsServiceCore role holds old before → new.node ≡ old.node
      → fits role (steps_of role (inputs_of old.entries)) event.link event.body ≡ true
      → holds after (with_step role (steps_of role (inputs_of old.entries)) event.link event.body)
      → new.entries ≡ grow old.node old.entries (Arrival.Takes event)
      → IsServiceCore role holds new after
  core_taken old new before after event core same fit held grown = record {
    node = same ∙ core.node;
    stands =
        subst (λ steps. Stands role holds after steps) (sym (ap (λ es. steps_of role (inputs_of es)) grown ∙ steps_of-taken old.node role old.entries event fit))
        (stands_on role holds before after (steps_of role (inputs_of old.entries)) event.link event.body core.stands fit held);
  }

  -- where nothing was taken, and what was held is
  pub core_still : (old new : RecordState) (before after : Kept) → IsServiceCore role holds old before → new.node ≡ old.node → new.entries ≡ old.entries
      → ((steps : List Step) → holds before steps → holds after steps) → IsServiceCore role holds new after
  core_still old new before after core same entries held = record {
    node = same ∙ core.node;
    stands =
        subst (λ es. Stands role holds after (steps_of role (inputs_of es))) (sym entries)
        (stands_still role holds before after (steps_of role (inputs_of old.entries)) held core.stands);
  }
