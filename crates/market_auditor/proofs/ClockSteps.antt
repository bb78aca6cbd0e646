-- The watcher of clocks and pasts, with one entry more.
use Rattle.std.proofs.Common.{◌≡◌, ℕ, ◌+◌, ◌<◌, Bool, true, max, List, [], ◌∷◌, ◌++◌, length, slice_index, refl, ap, sym, ◌∙◌, subst}
use Rattle.std.specs.Prelude.{◌↔◌}
use Rattle.market_events.specs.declared.events.Entry.{Entry}
use Rattle.market_events.specs.declared.events.Event.{Event}
use Rattle.market_events.specs.declared.events.What.{What}
use Rattle.market_events.specs.declared.events.What.TheVariants.{Given, Taken, Made, Answered}
use Rattle.market_events.specs.declared.links.TheConstants.{SERVICE_LINKS}
use Rattle.market_events.specs.Counts.{IsMergeOf}
use Rattle.market_history.specs.Causality.{RestsOn, count_in, past_of}
use Rattle.market_history.specs.Histories.{Histories}
use Rattle.market_history.specs.Stamps.{clock_before, stamp_of, HasClock}
use Rattle.market_history.proofs.CausalityLaws.{slice_index-past_of, past_of-by}
use Rattle.market_history.proofs.CoreEntries.{past_of-push-none}
use Rattle.market_history.proofs.StampLaws.{clock_before-push}
use Rattle.market_node.specs.Notes.{raised_on}
use Rattle.market_node.proofs.RaiseLaws.{past_of-taken, past_of-made}
use Rattle.market_auditor.specs.declared.verdicts.Criterion.TheVariants.{C3}
use Rattle.market_auditor.specs.Clocks.{AreClocks}
use Rattle.market_auditor.specs.Watching.{IsLookedAt, Judges}
use Rattle.market_auditor.proofs.Looking.{judge, taken_there, made_there}

-- nothing was seen
pub none_known : (known : List ℕ) → length known ≡ SERVICE_LINKS → ((k : ℕ) → slice_index known k ≡ 0) → AreClocks 0 known []
none_known known long none = record { last = refl; counts = past_of-by [] known long (λ k lt. none k) }

-- counts that are the same at each service link
same_counts : (before : List Entry) (past known : List ℕ) → length past ≡ SERVICE_LINKS → known ≡ past_of before → ((k : ℕ) → k < SERVICE_LINKS → slice_index past k ≡ slice_index known k) → past ≡ past_of before
same_counts before past known long is each = past_of-by before past long (λ k lt. each k lt ∙ ap (λ (l : List ℕ). slice_index l k) is ∙ slice_index-past_of before k lt)

module _ (h : Histories) (n : ℕ) (before : List Entry) (x : Entry) (at : IsLookedAt C3 h n before x) (clock : ℕ) (known : List ℕ) (saw : AreClocks clock known before) where
  -- the stamp of an entry in which this happened
  stamp_is : (what : What) → x.what ≡ what → stamp_of clock what ≡ stamp_of (clock_before before) x.what
  stamp_is what is = ap (λ k. stamp_of k what) saw.last ∙ ap (stamp_of (clock_before before)) (sym is)

  last_is : x.clock ≡ clock_before (before ++ x ∷ [])
  last_is = sym (clock_before-push before x)

  -- an event was made
  pub judged_made : (event : Event) (later : List ℕ) (right : Bool) → x.what ≡ Made event
      → ((right ≡ true) ↔ ((x.clock ≡ clock + 1) × ((k : ℕ) → k < SERVICE_LINKS → slice_index event.past k ≡ slice_index known k)))
      → later ≡ raised_on known event.link event.number → Judges C3 h n before x (AreClocks x.clock later) right
  judged_made event later right is due raised =
      let there = made_there C3 h n before x at event is in
      judge right
      (λ yes.
      let parts = due.0 yes in (
        (parts.0 ∙ stamp_is (Made event) is, subst (HasClock x.clock) (sym is) there.2),
        subst (RestsOn before) (sym is) (same_counts before event.past known there.0.past.each saw.counts parts.1),
      ))
      (λ asks. due.1 (asks.0.0 ∙ sym (stamp_is (Made event) is), λ k lt. ap (λ (l : List ℕ). slice_index l k) (subst (RestsOn before) is asks.1 ∙ sym saw.counts)))
      (λ yes asks. record { last = last_is; counts = raised ∙ ap (λ (l : List ℕ). raised_on l event.link event.number) saw.counts ∙ past_of-made before x event is there.0.link })

  -- an event was taken
  pub judged_taken : (event : Event) (merged later : List ℕ) (right : Bool) → x.what ≡ Taken event → ((right ≡ true) ↔ (x.clock ≡ max clock event.clock + 1))
      → IsMergeOf merged known event.past → length merged ≡ length known → later ≡ raised_on merged event.link event.number → Judges C3 h n before x (AreClocks x.clock later) right
  judged_taken event merged later right is due merge long raised =
      let there = taken_there C3 h n before x at event is in
      judge right
      (λ yes. ((due.0 yes ∙ stamp_is (Taken event) is, subst (HasClock x.clock) (sym is) tt), subst (RestsOn before) (sym is) tt))
      (λ asks. due.1 (asks.0.0 ∙ sym (stamp_is (Taken event) is)))
      (λ yes asks. record {
        last = last_is;
        counts = raised ∙ past_of-taken before x event merged is there.0.link (long ∙ ap (λ (l : List ℕ). length l) saw.counts) (subst (λ l. IsMergeOf merged l event.past) saw.counts merge);
      })

  -- a request was given or answered
  pub judged_quiet : (what : What) (right : Bool) → x.what ≡ what → ((k : ℕ) → count_in what k ≡ 0) → stamp_of clock what ≡ clock + 1 → HasClock x.clock what → RestsOn before what → ((right ≡ true) ↔ (x.clock ≡ clock + 1)) → Judges C3 h n before x (AreClocks x.clock known) right
  judged_quiet what right is none stamp clocked rests due =
      judge right
      (λ yes. ((due.0 yes ∙ sym stamp ∙ stamp_is what is, subst (HasClock x.clock) (sym is) clocked), subst (RestsOn before) (sym is) rests))
      (λ asks. due.1 (asks.0.0 ∙ sym (stamp_is what is) ∙ stamp))
      (λ yes asks. record { last = last_is; counts = saw.counts ∙ sym (past_of-push-none before x (λ k. ap (λ w. count_in w k) is ∙ none k)) })

  pub judged_given : (request : _) (right : Bool) → x.what ≡ Given request → ((right ≡ true) ↔ (x.clock ≡ clock + 1)) → Judges C3 h n before x (AreClocks x.clock known) right
  judged_given request right is due = judged_quiet (Given request) right is (λ k. refl) refl tt tt due

  pub judged_answered : (id : _) (reply : _) (right : Bool) → x.what ≡ Answered id reply → ((right ≡ true) ↔ (x.clock ≡ clock + 1)) → Judges C3 h n before x (AreClocks x.clock known) right
  judged_answered id reply right is due = judged_quiet (Answered id reply) right is (λ k. refl) refl tt tt due
