-- What a service made before a cut is made by its steps up to there (made-before), and what it made is made by its whole run
-- (made-whole); what it took before a cut, and what fitted, is taken by those steps (took-before, took-below); and where all
-- below fits, those steps took just what was taken (all-below).
use Rattle.std.proofs.Common.{◌≡◌, ℕ, ◌<◌, List, ◌∷◌, ◌++◌, refl, ap, sym, ◌∙◌, subst, arith}
use Rattle.std.specs.Prelude.{filter_map, map}
use Rattle.std.proofs.lemmas.List.{map-append}
use Rattle.market_events.specs.declared.events.Entry.{Entry}
use Rattle.market_events.specs.declared.events.Event.{Event}
use Rattle.market_events.specs.declared.events.What.TheVariants.{Taken, Made}
use Rattle.market_events.specs.declared.links.Link.{Link}
use Rattle.market_events.specs.Services.{IsRunOf}
use Rattle.market_events.specs.Steps.{taken_bodies, made_in, body_on, made_on}
use Rattle.market_events.specs.declared.nodes.TheConstants.{NODES}
use Rattle.market_history.specs.Blocks.{inputs_of, role_at, services}
use Rattle.market_history.specs.Causality.{events_taken}
use Rattle.market_history.specs.Histories.{Histories, journal_at}
use Rattle.market_history.specs.Lawful.{IsLawful}
use Rattle.market_history.specs.Sent.{sent}
use Rattle.market_history.proofs.GrowSent.{bodies_on}
use Rattle.market_laws.specs.Cuts.{entry_with, steps_at, StandsIn, TookAt, MadeAt, FitsAt, FitsBelow}
use Rattle.market_laws.specs.Grown.{Grown}
use Rattle.market_laws.specs.Runs.{Member}
use Rattle.market_laws.proofs.Clocks.Rising.{within-earlier, within_stands, took_took, made_took}
use Rattle.market_laws.proofs.Origins.Places.{took_stands, took_of}
use Rattle.market_laws.proofs.Origins.Senders.{sent-split}
use Rattle.market_laws.proofs.Growth.Outs.{steps_of-run}
use Rattle.market_laws.proofs.Runs.Counts.{member-between}
use Rattle.market_laws.proofs.Growth.Takers.{grown_at}
use Rattle.market_laws.proofs.Views.Made.{view-made}
use Rattle.market_laws.proofs.Views.Taken.{AllFit, taken-there, taken-all}

-- the steps of a service are a run
pub steps-run : (n : ℕ) (entries : List Entry) → IsRunOf (role_at n) (steps_at n entries)
steps-run n entries = steps_of-run (role_at n) (inputs_of entries)

-- a body that was made in a grown journal of a service
made_in_journal : (n : ℕ) (event : Event) (before : List Entry) (j : List Entry) → n < services → Grown n j → StandsIn before (entry_with event.clock (Made event)) j → Member event.body (filter_map (body_on event.link) (made_in (steps_at n j)))
made_in_journal n event before j lt grown s =
    let link = event.link in
    let split : bodies_on link j ≡ bodies_on link before ++ event.body ∷ bodies_on link s.after =
    ap (bodies_on link) s.is ∙ ap (map (λ (e : Event). e.body)) (sent-split event before event.clock s.after)
    ∙ map-append (λ (e : Event). e.body) (sent link before) (event ∷ sent link s.after) in
    subst (λ l. Member event.body l) (view-made n lt link grown)
    (subst (λ l. Member event.body l) (sym split) (member-between (bodies_on link before) event.body (bodies_on link s.after)))

module _ (h : Histories) (lawful : IsLawful h) (n : ℕ) (lt : n < services) where
  -- a service is a node
  a_node : n < NODES
  a_node = omega arith

  -- all that a service made on a link
  pub whole : (link : Link) → bodies_on link (journal_at h n) ≡ filter_map (body_on link) (made_in (steps_at n (journal_at h n)))
  whole link = view-made n lt link (grown_at h n lawful a_node)

  -- what a service made is made by its whole run
  pub made-whole-on : (event : Event) (link : Link) → MadeAt h n event → event.link ≡ link → Member event.body (filter_map (body_on link) (made_in (steps_at n (journal_at h n))))
  made-whole-on event link m on =
      subst (λ l. Member event.body (filter_map (body_on l) (made_in (steps_at n (journal_at h n))))) on
      (made_in_journal n event m.before (journal_at h n) lt (grown_at h n lawful a_node) (record { after = m.after; is = m.is }))

  pub made-whole : (event : Event) (link : Link) → MadeAt h n event → event.link ≡ link → Member event.body (made_on link (steps_at n (journal_at h n)))
  made-whole event link m on = made-whole-on event link m on

  module _ (event : Event) (t : TookAt h n event) where
    -- what it made before a cut is made by the steps before it
    pub made-before-on : (other : Event) (link : Link) → MadeAt h n other → other.clock < t.clock → other.link ≡ link → Member other.body (filter_map (body_on link) (made_in (steps_at n t.before)))
    made-before-on other link m below on =
        subst (λ l. Member other.body (filter_map (body_on l) (made_in (steps_at n t.before)))) on
        (made_in_journal n other m.before t.before lt t.grown (made_took h n lawful other event m t below))

    pub made-before : (other : Event) (link : Link) → MadeAt h n other → other.clock < t.clock → other.link ≡ link → Member other.body (made_on link (steps_at n t.before))
    made-before other link m below on = made-before-on other link m below on

    -- what it took before a cut, and what fitted there, is taken by the steps before it
    pub took-before : (other : Event) → (u : TookAt h n other) → u.clock < t.clock → FitsAt n u.before other → Member other.body (taken_bodies (steps_at n t.before))
    took-before other u below fit = taken-there n u.before u.clock other t.before (took_took h n lawful other event u t below) fit

    module _ (below : FitsBelow h t.clock) where
      pub took-below : (other : Event) → (u : TookAt h n other) → u.clock < t.clock → Member other.body (taken_bodies (steps_at n t.before))
      took-below other u less = took-before other u less (below n lt other u less)

      all_fit_before : AllFit n t.before
      all_fit_before before clock other s =
          let x = entry_with clock (Taken other) in
          let y = entry_with t.clock (Taken event) in
          let there = within_stands h n before x y (took_stands h n event t) s in
          below n lt other (took_of h n x other lawful there refl) (within-earlier h n before x y lawful (took_stands h n event t) s)

      pub all-below : taken_bodies (steps_at n t.before) ≡ map (λ (e : Event). e.body) (events_taken t.before)
      all-below = taken-all n t.grown all_fit_before
