-- What a service made was made in a block that an event which it took and which fitted began (cause); what that block made
-- before stands before (sibling); and what a run lemma says was taken for it was taken before (origin).
use Rattle.std.proofs.Common.{◌≡◌, ℕ, ◌<◌, Bool, true, false, List, [], ◌∷◌, ◌++◌, filter_map, if◌then◌else◌, ◌⊎◌, inl, inr, refl, ap, sym, ◌∙◌, subst, append_assoc}
use Rattle.std.specs.Prelude.{fold, map}
use Rattle.std.proofs.lemmas.List.{map-append}
use Rattle.std.proofs.lemmas.List.Elements.{filter_map-append}
use Rattle.std.proofs.lemmas.List.Sums.{fold-append}
use Rattle.market_events.specs.declared.bodies.Body.{Body}
use Rattle.market_events.specs.declared.events.Entry.{Entry}
use Rattle.market_events.specs.declared.events.Event.{Event}
use Rattle.market_events.specs.declared.events.What.TheVariants.{Taken, Made}
use Rattle.market_events.specs.declared.links.Link.{Link}
use Rattle.market_events.specs.declared.roles.Role.{Role}
use Rattle.market_events.specs.Services.{IsRunOf, answers, fits, reactions}
use Rattle.market_events.specs.Standing.{step_of, with_step}
use Rattle.market_events.specs.Steps.{Step, Sending, taken_bodies, made_in, body_on, made_on}
use Rattle.market_events.proofs.Values.Offers.{same_link-same}
use Rattle.market_events.proofs.Runs.Standing.{is_run_push, follows_step_of}
use Rattle.market_events.proofs.Steps.Taken.{taken_bodies-push, made_in-push}
use Rattle.market_history.specs.Blocks.{Out, Arrival, what_of, with_what, next_event, with_out, made_out, role_at, services, inputs_of}
use Rattle.market_history.specs.Histories.{Histories}
use Rattle.market_history.specs.Lawful.{IsReadyAfter, IsLawful}
use Rattle.market_history.specs.Stamps.{clock_before, stamp_of}
use Rattle.market_history.proofs.GrowLaws.{entry_of, what_left, outs_after, outs-begin}
use Rattle.market_laws.specs.Cuts.{entry_with, steps_at, StandsIn, TookAt, MadeAt, FitsAt}
use Rattle.market_laws.specs.Grown.{Grown}
use Rattle.market_laws.specs.Runs.{Member}
use Rattle.market_laws.proofs.Clocks.Rising.{within-earlier, within_stands}
use Rattle.market_laws.proofs.Origins.Cuts.{MapSplit, map-split, no_place, gathered-here, stands-within}
use Rattle.market_laws.proofs.Origins.Places.{made-left, took_stands, made_stands, made_of}
use Rattle.market_laws.proofs.Growth.Outs.{steps_of-run}
use Rattle.market_laws.proofs.Runs.Counts.{member-between, member-either, member-right}
use Rattle.market_laws.proofs.Growth.Takers.{StandsAt, stands-due}
use Rattle.market_laws.proofs.Views.Made.{outs-service}
use Rattle.market_laws.proofs.Views.Taken.{TakenIn, taken-in}

-- the event whose block made the event: it was taken before, it fitted, and what it was answered by
pub record Cause (h : Histories) (n : ℕ) (made : Event) (m : MadeAt h n made) : Type 0 where
  pub event : Event
  pub took : TookAt h n event
  pub within : StandsIn took.before (entry_with took.clock (Taken event)) m.before
  pub clock : took.clock < made.clock
  pub fit : FitsAt n took.before event
  -- what was made before it, and after it
  pub front : List Sending
  pub back : List Sending
  pub answered : answers (role_at n) (steps_at n took.before) event.link event.body ≡ front ++ (made.link, made.body) ∷ back
  pub between : m.before ≡ fold with_out (with_what took.before (Taken event)) (map made_out front)

-- what was made of an input, where something was
record Fitted (role : Role) (steps : List Step) (from : Link) (b : Body) (front : List Out) (out : Out) : Type 0 where
  fit : fits role steps from b ≡ true
  split : MapSplit made_out (answers role steps from b) front out

fitted : (role : Role) (steps : List Step) (from : Link) (b : Body) (front : List Out) (out : Out) (back : List Out) → map made_out (reactions role steps from b) ≡ front ++ out ∷ back → Fitted role steps from b front out
unfolding reactions
fitted role steps from b front out back made = by (fits role steps from b) refl made
  where
    by : (test : Bool) → fits role steps from b ≡ test → map made_out (if test then answers role steps from b else []) ≡ front ++ out ∷ back → Fitted role steps from b front out
    by true is made = record { fit = is; split = map-split made_out (answers role steps from b) front out back made }
    by false is made = absurd (no_place front out back made)

-- the body and the link of what was made
what_made : (before : List Entry) (event : Event) (clock : ℕ) (s : Sending) → entry_with clock (Made event) ≡ entry_of before (what_left before (made_out s)) → (event.link ≡ s.0) × (event.body ≡ s.1)
what_made before event clock s is =
    let what : Made event ≡ Made (next_event before s.0 s.1) = ap (λ (x : Entry). x.what) is in
    let same : event ≡ next_event before s.0 s.1 = cc in
    (ap (λ (e : Event). e.link) same, ap (λ (e : Event). e.body) same)

module _ (h : Histories) (n : ℕ) (event : Event) (lawful : IsLawful h) (lt : n < services) (m : MadeAt h n event) where
  cause_by : (start : List Entry) (a : Arrival) (front : List Out) (out : Out) (back : List Out) → Grown n start → IsReadyAfter n start (what_of a) → outs_after n start a ≡ front ++ out ∷ back
      → m.before ≡ fold with_out (with_what start (what_of a)) front → entry_with event.clock (Made event) ≡ entry_of m.before (what_left m.before out) → Cause h n event m
  cause_by start (Arrival.Gives request) front out back grown ready outs before_is is =
      absurd (no_place front out back (sym (outs-service n lt start (Arrival.Gives request)) ∙ outs))
  cause_by start (Arrival.Takes taken) front out back grown ready outs before_is is =
      let of = fitted (role_at n) (steps_at n start) taken.link taken.body front out back (sym (outs-service n lt start (Arrival.Takes taken)) ∙ outs) in
      let made = what_made m.before event event.clock of.split.at (is ∙ ap (λ o. entry_of m.before (what_left m.before o)) (sym of.split.at_is)) in
      let begins = outs-begin (with_what start (Taken taken)) front in
      let stands : StandsIn start (entry_of start (Taken taken)) m.before = record { after = begins.0; is = before_is ∙ begins.1 ∙ append_assoc start (entry_of start (Taken taken) ∷ []) begins.0 } in
      let s = made_stands h n event m in
      let there : StandsAt h n (entry_of start (Taken taken)) = within_stands h n start (entry_of start (Taken taken)) (entry_with event.clock (Made event)) s stands in
      record {
        event = taken;
        took = record { node = m.node; clock = stamp_of (clock_before start) (Taken taken); before = start; after = there.after; is = there.is; grown = grown; ready = ready };
        within = stands;
        clock = within-earlier h n start (entry_of start (Taken taken)) (entry_with event.clock (Made event)) lawful s stands;
        fit = of.fit;
        front = of.split.front;
        back = of.split.back;
        answered = of.split.is ∙ ap (λ s. of.split.front ++ s ∷ of.split.back) (λ i. (sym made.0 i, sym made.1 i));
        between = before_is ∙ ap (fold with_out (with_what start (Taken taken))) (sym of.split.front_is);
      }

  -- what a service made has a cause
  pub cause : Cause h n event m
  cause = let l = made-left h n event lawful m in cause_by l.start l.arrival l.front l.out l.back l.grown l.ready l.outs l.before_is l.is

-- the steps up to the block that made the event, with it
abbrev pub cause_steps : (h : Histories) (n : ℕ) (made : Event) (m : MadeAt h n made) → Cause h n made m → List Step
cause_steps h n made m c = with_step (role_at n) (steps_at n c.took.before) c.event.link c.event.body

-- what the block that made the event made before it, on this link
pub record Sibling (h : Histories) (n : ℕ) (made : Event) (m : MadeAt h n made) (start : ℕ) (link : Link) (b : Body) : Type 0 where
  pub event : Event
  pub at : MadeAt h n event
  pub link_is : event.link ≡ link
  pub body_is : event.body ≡ b
  pub after : start < event.clock
  pub clock : event.clock < made.clock

-- what was taken for the event that was made
pub record Origin (h : Histories) (n : ℕ) (made : Event) (b : Body) : Type 0 where
  pub event : Event
  pub took : TookAt h n event
  pub clock : took.clock < made.clock
  pub fit : FitsAt n took.before event
  pub body_is : event.body ≡ b

module _ (h : Histories) (n : ℕ) (made : Event) (m : MadeAt h n made) (c : Cause h n made m) where
  -- they are a run
  pub cause-run : IsRunOf (role_at n) (cause_steps h n made m c)
  cause-run =
      is_run_push (role_at n) (steps_at n c.took.before) (step_of (role_at n) (steps_at n c.took.before) c.event.link c.event.body)
      (steps_of-run (role_at n) (inputs_of c.took.before)) (follows_step_of (role_at n) (steps_at n c.took.before) c.event.link c.event.body c.fit)

  -- they made the event
  made_by_them : Member made.body (filter_map (body_on made.link) (made_in (cause_steps h n made m c)))
  made_by_them =
      let role = role_at n in
      let steps = steps_at n c.took.before in
      let answer = answers role steps c.event.link c.event.body in
      let split : filter_map (body_on made.link) answer ≡ filter_map (body_on made.link) c.front ++ made.body ∷ filter_map (body_on made.link) c.back =
      ap (filter_map (body_on made.link)) c.answered ∙ gathered-here (body_on made.link) c.front (made.link, made.body) c.back made.body (rw (same_link-same made.link) refl) in
      let all : filter_map (body_on made.link) (made_in (cause_steps h n made m c)) ≡ filter_map (body_on made.link) (made_in steps) ++ filter_map (body_on made.link) answer =
      ap (filter_map (body_on made.link)) (made_in-push steps (step_of role steps c.event.link c.event.body)) ∙ filter_map-append (body_on made.link) (made_in steps) answer in
      subst (λ l. Member made.body l) (sym (all ∙ ap (λ l. filter_map (body_on made.link) (made_in steps) ++ l) split))
      (member-right made.body (filter_map (body_on made.link) (made_in steps)) (filter_map (body_on made.link) c.front ++ made.body ∷ filter_map (body_on made.link) c.back)
      (member-between (filter_map (body_on made.link) c.front) made.body (filter_map (body_on made.link) c.back)))

  pub cause-made : (link : Link) → made.link ≡ link → Member made.body (made_on link (cause_steps h n made m c))
  cause-made link on = subst (λ link. Member made.body (filter_map (body_on link) (made_in (cause_steps h n made m c)))) on made_by_them

  pub cause-made-on : (link : Link) → made.link ≡ link → Member made.body (filter_map (body_on link) (made_in (cause_steps h n made m c)))
  cause-made-on link on = subst (λ link. Member made.body (filter_map (body_on link) (made_in (cause_steps h n made m c)))) on made_by_them

  module _ (lawful : IsLawful h) where
    -- what those steps took was taken before
    pub origin : (b : Body) → Member b (taken_bodies (cause_steps h n made m c)) → Origin h n made b
    origin b here =
        by (member-either b (taken_bodies (steps_at n c.took.before)) (c.event.body ∷ [])
        (subst (λ l. Member b l) (taken_bodies-push (steps_at n c.took.before) (step_of (role_at n) (steps_at n c.took.before) c.event.link c.event.body)) here))
      where
        earlier_one : TakenIn n c.took.before b → Origin h n made b
        earlier_one t =
            let x = entry_with t.clock (Taken t.event) in
            let y = entry_with c.took.clock (Taken c.event) in
            let within : StandsIn t.before x m.before = stands-within t.before x c.took.before y m.before t.stands c.within in
            let s = made_stands h n made m in
            let there : StandsAt h n x = within_stands h n t.before x (entry_with made.clock (Made made)) s within in
            record {
              event = t.event;
              took = record { node = m.node; clock = t.clock; before = t.before; after = there.after; is = there.is; grown = t.grown; ready = t.ready };
              clock = within-earlier h n t.before x (entry_with made.clock (Made made)) lawful s within;
              fit = t.fit;
              body_is = t.body_is;
            }

        by : Member b (taken_bodies (steps_at n c.took.before)) ⊎ Member b (c.event.body ∷ []) → Origin h n made b
        by (inl there) = earlier_one (taken-in n c.took.grown b there)
        by (inr (inl same)) = record { event = c.event; took = c.took; clock = c.clock; fit = c.fit; body_is = sym same }
        by (inr (inr none)) = absurd none

    -- what the block made before it was made before
    pub sibling : (us : List Sending) (link : Link) (b : Body) (vs : List Sending) → c.front ≡ us ++ (link, b) ∷ vs → Sibling h n made m c.took.clock link b
    sibling us link b vs front =
        let base = with_what c.took.before (Taken c.event) in
        let j = fold with_out base (map made_out us) in
        let x = next_event j link b in
        let y = entry_with x.clock (Made x) in
        let begins = outs-begin (with_out j (Out.Makes link b)) (map made_out vs) in
        let all : m.before ≡ fold with_out j (Out.Makes link b ∷ map made_out vs) =
        c.between ∙ ap (λ l. fold with_out base (map made_out l)) front ∙ ap (fold with_out base) (map-append made_out us ((link, b) ∷ vs))
        ∙ fold-append with_out base (map made_out us) (Out.Makes link b ∷ map made_out vs) in
        let within : StandsIn j y m.before = record { after = begins.0; is = all ∙ begins.1 ∙ append_assoc j (y ∷ []) begins.0 } in
        let s = made_stands h n made m in
        let there : StandsAt h n y = within_stands h n j y (entry_with made.clock (Made made)) s within in
        let first = outs-begin base (map made_out us) in
        let z = entry_of c.took.before (Taken c.event) in
        let start : StandsIn c.took.before z j = record { after = first.0; is = first.1 ∙ append_assoc c.took.before (z ∷ []) first.0 } in
        let stamp : c.took.clock ≡ z.clock = (stands-due h n (entry_with c.took.clock (Taken c.event)) lawful (took_stands h n c.event c.took)).stamp.0 in
        record {
          event = x;
          at = made_of h n y x lawful there refl;
          link_is = refl;
          body_is = refl;
          after = subst (λ k. k < x.clock) (sym stamp) (within-earlier h n c.took.before z y lawful there start);
          clock = within-earlier h n j y (entry_with made.clock (Made made)) lawful s within;
        }
