-- The steps of a service are the events that it took and that fitted: each body of its steps was taken (taken-in), an event
-- that fitted is among them (taken-there), and where all fitted they are all that was taken (taken-all).
use Rattle.std.proofs.Common.{◌≡◌, ℕ, Bool, true, false, List, [], ◌∷◌, ◌++◌, if◌then◌else◌, ◌⊎◌, inl, inr, refl, ap, sym, ◌∙◌, subst, append-nil}
use Rattle.std.specs.Prelude.{fold, map}
use Rattle.std.specs.Option.{option_to_list}
use Rattle.std.proofs.lemmas.List.{map-append}
use Rattle.std.proofs.lemmas.List.Elements.{filter_map-append}
use Rattle.std.proofs.lemmas.List.Sums.{fold-append}
use Rattle.market_events.specs.declared.bodies.Body.{Body}
use Rattle.market_events.specs.declared.events.Entry.{Entry}
use Rattle.market_events.specs.declared.events.Event.{Event}
use Rattle.market_events.specs.declared.events.What.TheVariants.{Taken}
use Rattle.market_events.specs.declared.links.Link.{Link}
use Rattle.market_events.specs.declared.roles.Role.{Role}
use Rattle.market_events.specs.Services.{fits}
use Rattle.market_events.specs.Standing.{step_of, with_step}
use Rattle.market_events.specs.Steps.{Step, taken_bodies}
use Rattle.market_events.proofs.Steps.Taken.{taken_bodies-push}
use Rattle.market_history.specs.Blocks.{Input, Arrival, what_of, input_of, part_of, input_in, inputs_of, role_at, with_input, steps_of, grow}
use Rattle.market_history.specs.Causality.{event_taken, events_taken}
use Rattle.market_history.specs.Lawful.{IsReadyAfter}
use Rattle.market_history.specs.Stamps.{clock_before, stamp_of}
use Rattle.market_history.proofs.GrowLaws.{entry_of, events_taken-grow, grow-begins}
use Rattle.market_laws.specs.Cuts.{entry_with, steps_at, StandsIn, FitsAt}
use Rattle.market_laws.specs.Grown.{Grown, nothing, more}
use Rattle.market_laws.specs.Runs.{Member}
use Rattle.market_laws.proofs.Origins.Cuts.{stands-more}
use Rattle.market_laws.proofs.Origins.Places.{grow-first}
use Rattle.market_laws.proofs.Runs.Counts.{member-either, member-left, member-between}
use Rattle.market_laws.proofs.Views.Made.{steps-grow}

-- what stands in a journal stands in it with one block more
pub stands-grow : (n : ℕ) (j : List Entry) (a : Arrival) (before : List Entry) (x : Entry) → StandsIn before x j → StandsIn before x (grow n j a)
stands-grow n j a before x s =
    let begins = grow-begins n j a in subst (λ l. StandsIn before x l) (sym begins.1) (stands-more before x j begins.0 s)

-- an event with this body, which the service n took in the journal, and which fitted
pub record TakenIn (n : ℕ) (j : List Entry) (b : Body) : Type 0 where
  pub event : Event
  pub clock : ℕ
  pub before : List Entry
  pub stands : StandsIn before (entry_with clock (Taken event)) j
  pub grown : Grown n before
  pub ready : IsReadyAfter n before (Taken event)
  pub fit : FitsAt n before event
  pub body_is : event.body ≡ b

-- an input that fits is a step, and another is none
pub with_input-fit : (role : Role) (steps : List Step) (from : Link) (b : Body) → fits role steps from b ≡ true → with_input role steps (Input.Takes from b) ≡ with_step role steps from b
with_input-fit role steps from b fit = rw fit refl

pub with_input-unfit : (role : Role) (steps : List Step) (from : Link) (b : Body) → fits role steps from b ≡ false → with_input role steps (Input.Takes from b) ≡ steps
with_input-unfit role steps from b unfit = rw unfit refl

-- each body of the steps of a grown journal was taken in it
pub taken-in : (n : ℕ) {j : List Entry} → Grown n j → (b : Body) → Member b (taken_bodies (steps_at n j)) → TakenIn n j b
taken-in n nothing b here = absurd here
taken-in n (more j a grown ready) b here =
    by a ready (grow-first n j a) (subst (λ steps. Member b (taken_bodies steps)) (steps-grow n j a) here) (λ there. taken-in n grown b there)
  where
    still : TakenIn n j b → TakenIn n (grow n j a) b
    still t = record {
      event = t.event;
      clock = t.clock;
      before = t.before;
      stands = stands-grow n j a t.before (entry_with t.clock (Taken t.event)) t.stands;
      grown = t.grown;
      ready = t.ready;
      fit = t.fit;
      body_is = t.body_is;
    }

    last : (event : Event) → IsReadyAfter n j (Taken event) → StandsIn j (entry_of j (Taken event)) (grow n j a) → FitsAt n j event
        → Member b (taken_bodies (steps_at n j)) ⊎ Member b (event.body ∷ []) → (Member b (taken_bodies (steps_at n j)) → TakenIn n j b) → TakenIn n (grow n j a) b
    last event can first fit (inl there) rest = still (rest there)
    last event can first fit (inr (inl same)) rest =
        record { event = event; clock = stamp_of (clock_before j) (Taken event); before = j; stands = first; grown = grown; ready = can; fit = fit; body_is = sym same }
    last event can first fit (inr (inr none)) rest = absurd none

    test_by : (event : Event) → IsReadyAfter n j (Taken event) → StandsIn j (entry_of j (Taken event)) (grow n j a) → (test : Bool) → fits (role_at n) (steps_at n j) event.link event.body ≡ test
        → Member b (taken_bodies (with_input (role_at n) (steps_at n j) (Input.Takes event.link event.body))) → (Member b (taken_bodies (steps_at n j)) → TakenIn n j b) → TakenIn n (grow n j a) b
    test_by event can first true fit here rest =
        let pushed : taken_bodies (with_input (role_at n) (steps_at n j) (Input.Takes event.link event.body)) ≡ taken_bodies (steps_at n j) ++ event.body ∷ [] =
        ap taken_bodies (with_input-fit (role_at n) (steps_at n j) event.link event.body fit) ∙ taken_bodies-push (steps_at n j) (step_of (role_at n) (steps_at n j) event.link event.body) in
        last event can first fit (member-either b (taken_bodies (steps_at n j)) (event.body ∷ []) (subst (λ l. Member b l) pushed here)) rest
    test_by event can first false unfit here rest =
        still (rest (subst (λ steps. Member b (taken_bodies steps)) (with_input-unfit (role_at n) (steps_at n j) event.link event.body unfit) here))

    by : (c : Arrival) → IsReadyAfter n j (what_of c) → StandsIn j (entry_of j (what_of c)) (grow n j a) → Member b (taken_bodies (with_input (role_at n) (steps_at n j) (input_of c)))
        → (Member b (taken_bodies (steps_at n j)) → TakenIn n j b) → TakenIn n (grow n j a) b
    by (Arrival.Gives request) can first here rest = still (rest here)
    by (Arrival.Takes event) can first here rest = test_by event can first (fits (role_at n) (steps_at n j) event.link event.body) refl here rest

-- what was taken stays taken
kept_input : (role : Role) (steps : List Step) (input : Input) (b : Body) → Member b (taken_bodies steps) → Member b (taken_bodies (with_input role steps input))
kept_input role steps (Input.Gives request) b here = here
kept_input role steps (Input.Takes from c) b here = by (fits role steps from c)
  where
    by : (test : Bool) → Member b (taken_bodies (if test then with_step role steps from c else steps))
    by true = subst (λ l. Member b l) (sym (taken_bodies-push steps (step_of role steps from c))) (member-left b (taken_bodies steps) (c ∷ []) here)
    by false = here

kept_inputs : (role : Role) (steps : List Step) (inputs : List Input) (b : Body) → Member b (taken_bodies steps) → Member b (taken_bodies (fold (with_input role) steps inputs))
kept_inputs role steps [] b here = here
kept_inputs role steps (i ∷ is) b here = kept_inputs role (with_input role steps i) is b (kept_input role steps i b here)

-- the steps go on from those before an event
steps_from : (n : ℕ) (before : List Entry) (clock : ℕ) (event : Event) (after : List Entry) → steps_at n (before ++ entry_with clock (Taken event) ∷ after) ≡ fold (with_input (role_at n)) (with_input (role_at n) (steps_at n before) (Input.Takes event.link event.body)) (inputs_of after)
steps_from n before clock event after =
    ap (steps_of (role_at n)) (filter_map-append (λ (x : Entry). input_in (part_of x.what)) before (entry_with clock (Taken event) ∷ after))
    ∙ fold-append (with_input (role_at n)) [] (inputs_of before) (inputs_of (entry_with clock (Taken event) ∷ after))

-- an event that was taken and fitted is a step
pub taken-there : (n : ℕ) (before : List Entry) (clock : ℕ) (event : Event) (j : List Entry) → StandsIn before (entry_with clock (Taken event)) j → FitsAt n before event → Member event.body (taken_bodies (steps_at n j))
taken-there n before clock event j s fit =
    subst (λ steps. Member event.body (taken_bodies steps)) (sym (ap (steps_at n) s.is ∙ steps_from n before clock event s.after))
    (kept_inputs (role_at n) (with_input (role_at n) (steps_at n before) (Input.Takes event.link event.body)) (inputs_of s.after) event.body
    (subst (λ l. Member event.body l)
    (sym (ap taken_bodies (with_input-fit (role_at n) (steps_at n before) event.link event.body fit) ∙ taken_bodies-push (steps_at n before) (step_of (role_at n) (steps_at n before) event.link event.body)))
    (member-between (taken_bodies (steps_at n before)) event.body [])))

-- each event that was taken in the journal fitted
abbrev pub AllFit : ℕ → List Entry → Type 0
AllFit n j = (before : List Entry) (clock : ℕ) (event : Event) → StandsIn before (entry_with clock (Taken event)) j → FitsAt n before event

-- where all fitted, the steps took what the journal did
pub taken-all : (n : ℕ) {j : List Entry} → Grown n j → AllFit n j → taken_bodies (steps_at n j) ≡ map (λ (e : Event). e.body) (events_taken j)
taken-all n nothing all = refl
taken-all n (more j a grown ready) all =
    ap taken_bodies (steps-grow n j a) ∙ by a (grow-first n j a) (taken-all n grown (λ before clock event s. all before clock event (stands-grow n j a before (entry_with clock (Taken event)) s)))
    ∙ sym (ap (map (λ (e : Event). e.body)) (events_taken-grow n j a))
  where
    by : (c : Arrival) → StandsIn j (entry_of j (what_of c)) (grow n j a) → taken_bodies (steps_at n j) ≡ map (λ (e : Event). e.body) (events_taken j)
        → taken_bodies (with_input (role_at n) (steps_at n j) (input_of c)) ≡ map (λ (e : Event). e.body) (events_taken j ++ option_to_list (event_taken (what_of c)))
    by (Arrival.Gives request) first rest = rest ∙ ap (map (λ (e : Event). e.body)) (sym (append-nil (events_taken j)))
    by (Arrival.Takes event) first rest =
        ap taken_bodies (with_input-fit (role_at n) (steps_at n j) event.link event.body (all j (stamp_of (clock_before j) (Taken event)) event first))
        ∙ taken_bodies-push (steps_at n j) (step_of (role_at n) (steps_at n j) event.link event.body) ∙ ap (λ l. l ++ event.body ∷ []) rest
        ∙ sym (map-append (λ (e : Event). e.body) (events_taken j) (event ∷ []))
