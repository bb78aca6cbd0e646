-- The watcher of readiness, with one entry more.
use Rattle.std.proofs.Common.{◌≡◌, ℕ, ◌+◌, Bool, true, false, nat_le, nat_lt, if◌then◌else◌, List, [], None, length, slice_index, refl, ap, sym, ◌∙◌, subst, arith}
use Rattle.std.proofs.lemmas.Bool.Decides.{nat_tests}
use Rattle.market_events.specs.declared.events.Entry.{Entry}
use Rattle.market_events.specs.declared.events.Event.{Event}
use Rattle.market_events.specs.declared.events.Offer.TheVariants as offer
use Rattle.market_events.specs.declared.events.What.{What}
use Rattle.market_events.specs.declared.events.What.TheVariants.{Taken}
use Rattle.market_events.specs.declared.links.TheConstants.{SERVICE_LINKS}
use Rattle.market_events.specs.Offers.{taken_on, counts_of, is_ready, offer_by}
use Rattle.market_events.proofs.Values.Offers.{of_each_count}
use Rattle.market_history.specs.Causality.{event_taken, events_taken}
use Rattle.market_history.specs.Histories.{Histories}
use Rattle.market_history.specs.Sent.{got}
use Rattle.market_history.proofs.CoreEntries.{events_taken-push-taken, events_taken-push-none}
use Rattle.market_laws.proofs.Growth.Due.{taken_on-got}
use Rattle.market_node.specs.Notes.{raised_on}
use Rattle.market_node.proofs.RaiseLaws.{counts_of-next}
use Rattle.market_auditor.specs.declared.verdicts.Criterion.TheVariants.{C1, C4}
use Rattle.market_auditor.specs.Criteria.{HasNextNumber, CanBeTaken}
use Rattle.market_auditor.specs.Readiness.{AreTaken}
use Rattle.market_auditor.specs.Watching.{IsLookedAt, Judges}
use Rattle.market_auditor.proofs.Looking.{judge, taken_there, holds_there}

pub none_taken : (node : ℕ) (taken : List ℕ) → length taken ≡ SERVICE_LINKS → ((k : ℕ) → slice_index taken k ≡ 0) → AreTaken node taken node []
none_taken node taken long none = record { here = refl; counts = of_each_count [] taken long (λ k lt. none k) }

-- what becomes of the next event of a link
next_offer : (count node : ℕ) (counts : List ℕ) (event : Event) → event.number ≡ count + 1 → offer_by count node counts event ≡ (if is_ready node counts event.past then offer.Take else offer.NotReady)
next_offer count node counts event next = by (nat_le event.number count) refl (nat_lt (count + 1) event.number) refl
  where
    by : (old : Bool) → nat_le event.number count ≡ old → (ahead : Bool) → nat_lt (count + 1) event.number ≡ ahead
        → (if old then offer.Old else if ahead then offer.Ahead else if is_ready node counts event.past then offer.Take else offer.NotReady) ≡ (if is_ready node counts event.past then offer.Take else offer.NotReady)
    by true is ahead a = let no : ⊥ = grind (arith, nat_tests) in absurd no
    by false is true a = let no : ⊥ = grind (arith, nat_tests) in absurd no
    by false is false a = refl

ready_take : (b : Bool) → b ≡ true → (if b then offer.Take else offer.NotReady) ≡ offer.Take
ready_take true is = refl
ready_take false is = let no : ⊥ = cc in absurd no

take_ready : (b : Bool) → (if b then offer.Take else offer.NotReady) ≡ offer.Take → b ≡ true
take_ready true is = refl
take_ready false is = let no : ⊥ = cc in absurd no

module _ (h : Histories) (n : ℕ) (before : List Entry) (x : Entry) (at : IsLookedAt C4 h n before x) (node : ℕ) (taken : List ℕ) (saw : AreTaken node taken n before) where
  -- an event was taken
  pub judged_taken : (event : Event) (later : List ℕ) (right : Bool) → x.what ≡ Taken event → right ≡ is_ready node taken event.past → later ≡ raised_on taken event.link event.number → Judges C4 h n before x (AreTaken node later n) right
  judged_taken event later right is ready raised =
      let there = taken_there C4 h n before x at event is in
      let number : event.number ≡ length (got event.link before) + 1 = subst (HasNextNumber before) is (holds_there C4 h n before x at C1 (omega arith)) in
      let next : event.number ≡ taken_on (events_taken before) event.link + 1 = number ∙ ap (λ k. k + 1) (sym (taken_on-got event.link before)) in
      let same : right ≡ is_ready n (counts_of (events_taken before)) event.past = ready ∙ ap (λ m. is_ready m taken event.past) saw.here ∙ ap (λ l. is_ready n l event.past) saw.counts in
      let offered = next_offer (taken_on (events_taken before) event.link) n (counts_of (events_taken before)) event next in
      judge right
      (λ yes. subst (CanBeTaken n before) (sym is) (offered ∙ ready_take (is_ready n (counts_of (events_taken before)) event.past) (sym same ∙ yes)))
      (λ asks. same ∙ take_ready (is_ready n (counts_of (events_taken before)) event.past) (sym offered ∙ subst (CanBeTaken n before) is asks))
      (λ yes asks. record {
        here = saw.here;
        counts = raised ∙ ap (λ l. raised_on l event.link event.number) saw.counts ∙ counts_of-next (events_taken before) event event.link refl there.0.link next ∙ ap counts_of (sym (events_taken-push-taken before x event is));
      })

  -- nothing was taken
  pub judged_quiet : (what : What) → x.what ≡ what → event_taken what ≡ None → CanBeTaken n before what → Judges C4 h n before x (AreTaken node taken n) true
  judged_quiet what is none can =
      (subst (CanBeTaken n before) (sym is) can, record { here = saw.here; counts = saw.counts ∙ ap counts_of (sym (events_taken-push-none before x (ap event_taken is ∙ none))) })
