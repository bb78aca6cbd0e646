-- In lawful histories no past counts more events of a service link than there are entries (past-counts).
use Rattle.std.proofs.Common.{◌≡◌, ℕ, zero, suc, ◌+◌, ◌<◌, ◌≤◌, max, List, ◌∷◌, ◌++◌, length, length-append, slice_index, refl, ap, sym, ◌∙◌, subst, arith}
use Rattle.market_events.specs.declared.events.Entry.{Entry}
use Rattle.market_events.specs.declared.events.Event.{Event}
use Rattle.market_events.specs.declared.events.What.{What}
use Rattle.market_events.specs.declared.events.What.TheVariants.{Given, Taken, Made, Answered}
use Rattle.market_events.specs.declared.links.TheConstants.{SERVICE_LINKS}
use Rattle.market_events.specs.Counts.{AreCounts}
use Rattle.market_history.specs.Causality.{number_on, count_in, count_told, known, RestsOn}
use Rattle.market_history.specs.Histories.{Histories}
use Rattle.market_history.specs.Lawful.{IsLawful}
use Rattle.market_history.specs.Sent.{event_made_on, got_on}
use Rattle.market_history.specs.Stamps.{clock_before, stamp_of, HasClock}
use Rattle.market_history.proofs.CausalityLaws.{known-most, past_of-counts, slice_index-past_of}
use Rattle.market_history.proofs.CoreEntries.{length-filter_map}
use Rattle.market_history.proofs.PastCounts.{number_on-most}
use Rattle.market_laws.specs.Cuts.{StandsIn}
use Rattle.market_laws.specs.Entries.{total_entries}
use Rattle.market_laws.proofs.Growth.Members.{all-by}
use Rattle.market_laws.proofs.Clocks.Rising.{within-earlier, within_stands}
use Rattle.market_laws.proofs.Growth.Due.{IsDue, HasNumber}
use Rattle.market_laws.proofs.Bounds.Few.{few, length-few}
use Rattle.market_laws.proofs.Growth.Takers.{StandsAt, stands-due, taken-made}

-- each entry with a clock below the bound tells of no more events than there are entries
abbrev pub FewBelow : Histories → ℕ → Type 0
FewBelow h top = (n : ℕ) (x : Entry) → StandsAt h n x → x.clock < top → (k : ℕ) → k < SERVICE_LINKS → count_told x k ≤ total_entries h

module _ (h : Histories) (lawful : IsLawful h) where
  -- then no more is known before an entry with such a clock
  known_few : (top n : ℕ) (x : Entry) (s : StandsAt h n x) → x.clock ≤ top → FewBelow h top → (k : ℕ) → k < SERVICE_LINKS → known s.before k ≤ total_entries h
  known_few top n x s low below k lt = known-most (total_entries h) s.before k (all-by (λ (y : Entry). count_told y k ≤ total_entries h) s.before each)
    where
      each : (before : List Entry) (y : Entry) (after : List Entry) → s.before ≡ before ++ y ∷ after → count_told y k ≤ total_entries h
      each before y after is =
          let within : StandsIn before y s.before = record { after = after; is = is } in
          let less = within-earlier h n before y x lawful s within in
          below n y (within_stands h n before y x s within) (omega arith) k lt

  -- the number of an event that an entry made or took
  number_few : (n : ℕ) (x : Entry) (event : Event) (count : ℕ) → (s : StandsAt h n x) → count ≤ length s.before → event.number ≡ count + 1 → (k : ℕ) → number_on k event ≤ total_entries h
  number_few n x event count s most is k =
      omega (arith, number_on-most k event, length-few h lawful n s.node, ap length s.is, length-append s.before (x ∷ s.after))

  -- what an event counts that was made before an entry
  past_few : (top n : ℕ) (x : Entry) (event : Event) → (s : StandsAt h n x) → x.what ≡ Made event → x.clock ≤ top → FewBelow h top → (k : ℕ) → k < SERVICE_LINKS → slice_index event.past k ≤ total_entries h
  past_few top n x event s is low below k lt =
      let rests : RestsOn s.before (Made event) = subst (RestsOn s.before) is (stands-due h n x lawful s).rests in
      omega (arith, ap (λ past. slice_index past k) rests, slice_index-past_of s.before k lt, known_few top n x s low below k lt)

  told_few : (top : ℕ) → FewBelow h top
  told_few zero n x s less k lt = absurd (omega arith)
  told_few (suc top) n x s less k lt = by x.what refl (told_few top)
    where
      due : IsDue n s.before x
      due = stands-due h n x lawful s

      by : (what : What) → x.what ≡ what → FewBelow h top → count_in what k ≤ total_entries h
      by (Given request) is below = omega arith
      by (Answered id reply) is below = omega arith
      by (Made event) is below =
          let number : HasNumber s.before (Made event) = subst (HasNumber s.before) is due.number in
          number_few n x event _ s (length-filter_map (λ (y : Entry). event_made_on event.link y.what) s.before) number k
      by (Taken event) is below =
          let number : HasNumber s.before (Taken event) = subst (HasNumber s.before) is due.number in
          let stamp : x.clock ≡ max (clock_before s.before) event.clock + 1 = due.stamp.0 ∙ ap (stamp_of (clock_before s.before)) is in
          let made = taken-made h n x event lawful s is in
          let there = stands-due h _ made.entry lawful made.stands in
          let has : event.clock ≡ made.entry.clock = subst (HasClock made.entry.clock) made.what there.stamp.1 in
          let low : made.entry.clock ≤ top = omega arith in
          omega (
            arith,
            number_few n x event _ s (length-filter_map (λ (y : Entry). got_on event.link y.what) s.before) number k,
            past_few top _ made.entry event made.stands made.what low below k lt,
          )

  -- the past of an event that was made has its counts in their range
  pub past-counts : (n : ℕ) (x : Entry) (event : Event) → (s : StandsAt h n x) → x.what ≡ Made event → AreCounts event.past
  past-counts n x event s is =
      let rests : RestsOn s.before (Made event) = subst (RestsOn s.before) is (stands-due h n x lawful s).rests in
      subst AreCounts (sym rests)
      (past_of-counts (total_entries h) s.before (omega (arith, few h lawful)) (λ k lt. known_few x.clock n x s (omega arith) (told_few x.clock) k lt))
