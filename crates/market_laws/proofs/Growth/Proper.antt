-- Lawful histories are histories: each entry may stand at its place.
use Rattle.std.proofs.Common.{◌≡◌, ℕ, ◌+◌, ◌<◌, ◌≤◌, max, List, [], ◌∷◌, ◌++◌, Option, Some, None, length, length-append, refl, ap, sym, ◌∙◌, subst, arith}
use Rattle.std.specs.Prelude.{filter_map}
use Rattle.std.specs.List.{AllByRecursion, cons_option}
use Rattle.market_events.specs.declared.events.Entry.{Entry}
use Rattle.market_events.specs.declared.events.Event.{Event}
use Rattle.market_events.specs.declared.events.What.{What}
use Rattle.market_events.specs.declared.events.What.TheVariants.{Given, Taken, Made, Answered}
use Rattle.market_events.specs.Counts.{AreCounts}
use Rattle.market_events.specs.Links.{sender_of}
use Rattle.market_events.specs.WellFormed.{IsWellFormedWhat}
use Rattle.market_events.specs.declared.nodes.TheConstants.{NODES}
use Rattle.market_history.specs.Causality.{event_taken, events_taken}
use Rattle.market_history.specs.Histories.{Histories, journal_at, IsHistories}
use Rattle.market_history.specs.Journals.{IsEvent, IsEntry, CanHappen, AreEntriesFrom, IsJournal}
use Rattle.market_history.specs.Lawful.{IsReadyAfter, IsLawful}
use Rattle.market_history.specs.Sent.{event_made_on, got_on}
use Rattle.market_history.specs.Stamps.{clock_before, stamp_of, HasClock}
use Rattle.market_laws.specs.Entries.{total_entries}
use Rattle.market_laws.proofs.Growth.Members.{all-at, all-by, gathered-at}
use Rattle.market_laws.proofs.Clocks.Bounded.{clock-few}
use Rattle.market_laws.proofs.Growth.Due.{IsDue, HasNumber}
use Rattle.market_laws.proofs.Bounds.Few.{few, length-few}
use Rattle.market_laws.proofs.Growth.Made.{IsMadeAt, event_taken-is}
use Rattle.market_laws.proofs.Growth.Outs.{IsMade}
use Rattle.market_laws.proofs.Bounds.PastCounts.{past-counts}
use Rattle.market_laws.proofs.Growth.Takers.{StandsAt, grown_at, stands-due, stands-made, MadeThere, taken-made}
use Rattle.market_laws.proofs.Growth.Replies.{IsAnswered, IsCarried, grown-answered}

-- what is gathered of some entries is no longer than they are
gathered_few : {B : Type 0} (f : Entry → Option B) (xs : List Entry) → length (filter_map f xs) ≤ length xs
gathered_few f [] = omega arith
gathered_few {B = B} f (x ∷ xs) = by (f x) (gathered_few f xs)
  where
    by : (o : Option B) → length (filter_map f xs) ≤ length xs → length (cons_option o (filter_map f xs)) ≤ length (x ∷ xs)
    by None rest = omega arith
    by (Some y) rest = omega arith

-- each entry may stand at its place, where it may wherever it stands
entries_by : (node place : ℕ) (xs : List Entry) → ((before : List Entry) (x : Entry) (after : List Entry) → xs ≡ before ++ x ∷ after → IsEntry node (place + length before) x) → AreEntriesFrom node place xs
entries_by node place [] each = tt
entries_by node place (x ∷ xs) each = (
  subst (λ at. IsEntry node at x) (omega arith) (each [] x xs refl),
  entries_by node (place + 1) xs (λ before y after e.
      subst (λ at. IsEntry node at y) (omega arith) (each (x ∷ before) y after (ap (λ l. x ∷ l) e))),
)

module _ (h : Histories) (n : ℕ) (lawful : IsLawful h) where
  -- the event was made as its sender makes it
  made_as : (event : Event) → MadeThere h event → IsMade (sender_of event.link) event.link event.body
  made_as event made = subst (IsMadeAt (sender_of event.link)) made.what (stands-made h (sender_of event.link) made.entry lawful made.stands)

  taken_carried : n < NODES → AllByRecursion (λ (e : Event). IsCarried e.link e.body) (events_taken (journal_at h n))
  taken_carried lt = all-by (λ (e : Event). IsCarried e.link e.body) (events_taken (journal_at h n)) each
    where
      each : (before : List Event) (event : Event) (after : List Event) → events_taken (journal_at h n) ≡ before ++ event ∷ after → IsCarried event.link event.body
      each before event after is =
          let at = gathered-at (λ (x : Entry). event_taken x.what) (journal_at h n) before event after is in
          let made = made_as event (taken-made h n at.at event lawful (record { node = lt; before = at.before; after = at.after; is = at.is }) (event_taken-is at.at.what event at.gives)) in
          (made.formed, made.carried)

  module _ (x : Entry) (s : StandsAt h n x) where
    due : IsDue n s.before x
    due = stands-due h n x lawful s

    place_few : length s.before + 1 ≤ total_entries h
    place_few = omega (arith, length-few h lawful n s.node, ap length s.is, length-append s.before (x ∷ s.after))

    clock_few : x.clock ≤ total_entries h
    clock_few = clock-few h x.clock lawful (record { node = n; entry = x; stands = s; clock_is = refl })

    -- an event of an entry
    event_is : (event : Event) → IsMade (sender_of event.link) event.link event.body → 1 ≤ event.number → event.number ≤ length s.before + 1 → event.clock ≤ x.clock → AreCounts event.past → IsEvent event
    event_is event made low high clock past = record {
      link = made.on;
      number_low = low;
      number_high = omega (arith, high, place_few, few h lawful);
      clock_high = omega (arith, clock, clock_few, few h lawful);
      past = past;
      body = made.carried;
      own = made.own;
    }

    what_is : (what : What) → x.what ≡ what → IsWellFormedWhat what × CanHappen n x.clock what
    what_is (Given request) is =
        let ready : IsReadyAfter n s.before (Given request) = subst (IsReadyAfter n s.before) is due.ready in
        let node : n < NODES = s.node in
        (ready.0, ((omega (arith, ready.1), omega arith), ready.1))
    what_is (Taken event) is =
        let ready : IsReadyAfter n s.before (Taken event) = subst (IsReadyAfter n s.before) is due.ready in
        let number : HasNumber s.before (Taken event) = subst (HasNumber s.before) is due.number in
        let stamp : x.clock ≡ max (clock_before s.before) event.clock + 1 = due.stamp.0 ∙ ap (stamp_of (clock_before s.before)) is in
        let there = taken-made h n x event lawful s is in
        let made = made_as event there in
        let short = gathered_few (λ (y : Entry). got_on event.link y.what) s.before in
        let past = past-counts h lawful _ there.entry event there.stands there.what in
        (record { body = made.formed }, (event_is event made (omega arith) (omega arith) (omega arith) past, ready.1))
    what_is (Made event) is =
        let made : IsMadeAt n (Made event) = subst (IsMadeAt n) is (stands-made h n x lawful s) in
        let number : HasNumber s.before (Made event) = subst (HasNumber s.before) is due.number in
        let has : event.clock ≡ x.clock = subst (HasClock x.clock) is due.stamp.1 in
        let short = gathered_few (λ (y : Entry). event_made_on event.link y.what) s.before in (
          record { body = made.formed },
          (event_is event (subst (λ k. IsMade k event.link event.body) (sym made.leaves) made) (omega arith) (omega arith) (omega arith) (past-counts h lawful n x event s is), made.leaves, has),
        )
    what_is (Answered id reply) is =
        let made : IsMadeAt n (Answered id reply) = subst (IsMadeAt n) is (stands-made h n x lawful s) in
        let answered : IsAnswered (Answered id reply) =
        subst IsAnswered is
        (all-at (λ (y : Entry). IsAnswered y.what) s.before x s.after
        (subst (AllByRecursion (λ (y : Entry). IsAnswered y.what)) s.is (grown-answered n (grown_at h n lawful s.node) (taken_carried s.node)))) in
        ((answered.0, answered.1), (made, answered.2))

    entry_is : IsEntry n (length s.before) x
    entry_is =
        let node : n < NODES = s.node in
        let what = what_is x.what refl in
        record {
          formed = record { what = what.0 };
          node_high = omega arith;
          place_high = omega (arith, place_few, few h lawful);
          clock_high = omega (arith, clock_few, few h lawful);
          what = what.1;
        }

  journal_is : n < NODES → IsJournal n (journal_at h n)
  journal_is lt =
      entries_by n 0 (journal_at h n) (λ before x after is.
      subst (λ at. IsEntry n at x) (omega arith) (entry_is x (record { node = lt; before = before; after = after; is = is })))

pub histories_are : (h : Histories) → IsLawful h → IsHistories h
histories_are h lawful = record { each = lawful.each; journals = λ n lt. journal_is h n lawful lt }
