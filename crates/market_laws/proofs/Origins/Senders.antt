-- Who made an event that was taken, and what else stood on its link: it was made with a smaller clock (took-made), after
-- just those that were taken on its link before (sent-same, sent-split).
use Rattle.std.proofs.Common.{◌≡◌, ℕ, ◌+◌, ◌<◌, max, List, ◌∷◌, ◌++◌, Some, refl, ap, ◌∙◌, subst, append_assoc, arith}
use Rattle.std.specs.Prelude.{map}
use Rattle.std.proofs.lemmas.List.{map-append}
use Rattle.market_events.specs.declared.bodies.Body.{Body}
use Rattle.market_events.specs.declared.events.Entry.{Entry}
use Rattle.market_events.specs.declared.events.Event.{Event}
use Rattle.market_events.specs.declared.events.What.TheVariants.{Taken, Made}
use Rattle.market_events.specs.declared.links.Link.{Link}
use Rattle.market_events.specs.Links.{sender_of}
use Rattle.market_events.proofs.Values.Offers.{same_link-same}
use Rattle.market_history.specs.Histories.{Histories, journal_at}
use Rattle.market_history.specs.Lawful.{IsLawful}
use Rattle.market_history.specs.Sent.{event_made_on, got_on, sent, got, event_on}
use Rattle.market_history.specs.Stamps.{clock_before}
use Rattle.market_history.proofs.GrowSent.{bodies_on}
use Rattle.market_laws.specs.Cuts.{entry_with, TookAt, MadeAt}
use Rattle.market_laws.proofs.Growth.Members.{gathered-at}
use Rattle.market_laws.proofs.Origins.Cuts.{gathered-here}
use Rattle.market_laws.proofs.Origins.Places.{took_stands, made_stands, made_of}
use Rattle.market_laws.proofs.Bounds.LinkEnds.{sender-small}
use Rattle.market_laws.proofs.Growth.Made.{made_on-is}
use Rattle.market_laws.proofs.Growth.Outs.{IsMade}
use Rattle.market_laws.proofs.Growth.Takers.{StandsAt, stands-due, stands-made}

-- an event is on its own link
pub on_own : (event : Event) → event_on event.link event ≡ Some event
on_own event = rw (same_link-same event.link) refl

-- where an event that was taken was made: after those events of its link that were taken before it, and by a smaller clock
pub record MadeFor (h : Histories) (n s : ℕ) (event : Event) (t : TookAt h s event) : Type 0 where
  pub made : MadeAt h n event
  pub clock : event.clock < t.clock
  pub same : sent event.link made.before ≡ got event.link t.before

-- what is on the event's link in a journal in which it was taken, or made
pub got-split : (event : Event) (before : List Entry) (clock : ℕ) (after : List Entry) → got event.link (before ++ entry_with clock (Taken event) ∷ after) ≡ got event.link before ++ event ∷ got event.link after
got-split event before clock after =
    gathered-here (λ (y : Entry). got_on event.link y.what) before (entry_with clock (Taken event)) after event (on_own event)

pub sent-split : (event : Event) (before : List Entry) (clock : ℕ) (after : List Entry) → sent event.link (before ++ entry_with clock (Made event) ∷ after) ≡ sent event.link before ++ event ∷ sent event.link after
sent-split event before clock after =
    gathered-here (λ (y : Entry). event_made_on event.link y.what) before (entry_with clock (Made event)) after event (on_own event)

module _ (h : Histories) (lawful : IsLawful h) where
  -- an event that was taken has a smaller clock
  taken_clock : (s : ℕ) (event : Event) → (t : TookAt h s event) → event.clock < t.clock
  taken_clock s event t =
      let stamp : t.clock ≡ max (clock_before t.before) event.clock + 1 = (stands-due h s (entry_with t.clock (Taken event)) lawful (took_stands h s event t)).stamp.0 in
      omega arith

  -- what its sender made on its link
  sent_there : (s : ℕ) (event : Event) → (t : TookAt h s event) → (rest : List Event) × (sent event.link (journal_at h (sender_of event.link)) ≡ got event.link t.before ++ event ∷ rest)
  sent_there s event t =
      let link = event.link in
      let here : got link (journal_at h s) ≡ got link t.before ++ event ∷ got link t.after = ap (got link) t.is ∙ got-split event t.before t.clock t.after in
      let matched = lawful.matched link t.ready.0 in (
        got link t.after ++ matched.0,
        matched.1 ∙ ap (λ n. got link (journal_at h n) ++ matched.0) t.ready.1 ∙ ap (λ l. l ++ matched.0) here ∙ append_assoc (got link t.before) (event ∷ got link t.after) matched.0,
      )

  -- who made an event that was taken
  pub took-made : (s : ℕ) (event : Event) → (t : TookAt h s event) → MadeFor h (sender_of event.link) s event t
  took-made s event t =
      let link = event.link in
      let n = sender_of link in
      let there = sent_there s event t in
      let at = gathered-at (λ (y : Entry). event_made_on link y.what) (journal_at h n) (got link t.before) event there.0 there.1 in
      let stands : StandsAt h n at.at = record { node = sender-small link t.ready.0; before = at.before; after = at.after; is = at.is } in
      record { made = made_of h n at.at event lawful stands (made_on-is link at.at.what event at.gives).0; clock = taken_clock s event t; same = at.front_is }

  -- the same, where its link is known
  pub took-made-on : (s : ℕ) (event : Event) (link : Link) → (t : TookAt h s event) → event.link ≡ link → MadeFor h (sender_of link) s event t
  took-made-on s event link t on = subst (λ l. MadeFor h (sender_of l) s event t) on (took-made s event t)

  -- it was made as a node makes it
  pub made-as : (n : ℕ) (event : Event) → (m : MadeAt h n event) → IsMade n event.link event.body
  made-as n event m = stands-made h n (entry_with event.clock (Made event)) lawful (made_stands h n event m)

  pub taken-as : (s : ℕ) (event : Event) → TookAt h s event → IsMade (sender_of event.link) event.link event.body
  taken-as s event t = made-as (sender_of event.link) event (took-made s event t).made

  -- what was made on its link: those that were taken on it before, and then this one
  pub sent-bodies : (s : ℕ) (event : Event) → (t : TookAt h s event)
      → (rest : List Body) × (bodies_on event.link (journal_at h (sender_of event.link)) ≡ map (λ (e : Event). e.body) (got event.link t.before) ++ event.body ∷ rest)
  sent-bodies s event t =
      let there = sent_there s event t in (
        map (λ (e : Event). e.body) there.0,
        ap (map (λ (e : Event). e.body)) there.1 ∙ map-append (λ (e : Event). e.body) (got event.link t.before) (event ∷ there.0),
      )

  -- the same, where its link is known
  pub sent-bodies-on : (s : ℕ) (event : Event) (link : Link) → (t : TookAt h s event) → event.link ≡ link
      → (rest : List Body) × (bodies_on link (journal_at h (sender_of link)) ≡ map (λ (e : Event). e.body) (got link t.before) ++ event.body ∷ rest)
  sent-bodies-on s event link t on =
      subst (λ l. (rest : List Body) × (bodies_on l (journal_at h (sender_of l)) ≡ map (λ (e : Event). e.body) (got l t.before) ++ event.body ∷ rest)) on (sent-bodies s event t)
