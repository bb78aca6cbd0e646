-- What a watcher may rely on where it looks at an entry, and what it answers.
use Rattle.std.specs.Bool.{MatchBool}
use Rattle.std.proofs.Common.{◌≡◌, ℕ, ◌<◌, Bool, true, false, List, [], length, refl, subst}
use Rattle.market_events.specs.declared.events.Entry.{Entry}
use Rattle.market_events.specs.declared.events.Event.{Event}
use Rattle.market_events.specs.declared.events.What.{What}
use Rattle.market_events.specs.declared.events.What.TheVariants.{Taken, Made}
use Rattle.market_events.specs.Carried.{carries}
use Rattle.market_events.specs.Links.{IsLink, sender_of, receiver_of}
use Rattle.market_history.specs.Histories.{Histories}
use Rattle.market_history.specs.Journals.{IsEvent, IsEntry, CanHappen, IsJournal}
use Rattle.market_history.specs.Stamps.{EachAfter}
use Rattle.market_history.proofs.EntryLaws.{IsJournal-at}
use Rattle.market_history.proofs.StampLaws.{EachAfter-at}
use Rattle.market_auditor.specs.declared.verdicts.Criterion.{Criterion}
use Rattle.market_auditor.specs.Criteria.{Asks, rank_of}
use Rattle.market_auditor.specs.Watching.{StandsSomewhere, IsLookedAt}

-- an answer that is right exactly where P holds, and then Q does too
pub judge : {P Q : Type 0} (right : Bool) → (right ≡ true → P) → (P → right ≡ true) → (right ≡ true → P → Q) → MatchBool right (P × Q) (P → ⊥)
judge true so only then_q = (so refl, then_q refl (so refl))
judge false so only then_q = λ p. let e : false ≡ true = only p in let no : ⊥ = cc in no

-- an event that stands somewhere is on a link that can carry it
record Carried (event : Event) : Type 0 where
  pub link : IsLink event.link
  pub carried : carries event.link event.body ≡ true

event_of : (n clock : ℕ) (what : What) (event : Event) → what ≡ Taken event → CanHappen n clock what → IsEvent event
event_of n clock what event is happens = (subst (CanHappen n clock) is happens).0

event_made : (n clock : ℕ) (what : What) (event : Event) → what ≡ Made event → CanHappen n clock what → IsEvent event
event_made n clock what event is happens = (subst (CanHappen n clock) is happens).0

pub taken_event : (x : Entry) (event : Event) → StandsSomewhere x → x.what ≡ Taken event → IsEvent event
taken_event x event (n, place, entry) is = event_of n x.clock x.what event is entry.what

pub made_event : (x : Entry) (event : Event) → StandsSomewhere x → x.what ≡ Made event → IsEvent event
made_event x event (n, place, entry) is = event_made n x.clock x.what event is entry.what

module _ (criterion : Criterion) (h : Histories) (n : ℕ) (before : List Entry) (x : Entry) (at : IsLookedAt criterion h n before x) where
  -- the entry may stand there
  pub stands_there : IsEntry n (length before) x
  stands_there = IsJournal-at n before x at.after (subst (IsJournal n) at.there (at.watched.histories.journals n at.watched.node))

  -- the criteria before hold there
  pub holds_there : (other : Criterion) → rank_of other < rank_of criterion → Asks other h n before x
  holds_there other less =
      EachAfter-at (Asks other h n) [] before x at.after (subst (EachAfter (Asks other h n) []) at.there (at.watched.earlier other less n at.watched.node).each)

  -- an event that is taken there leads into the node, and one that is made there leads out of it
  pub taken_there : (event : Event) → x.what ≡ Taken event → IsEvent event × (receiver_of event.link ≡ n)
  taken_there event is = subst (CanHappen n x.clock) is stands_there.what

  pub made_there : (event : Event) → x.what ≡ Made event → IsEvent event × (sender_of event.link ≡ n) × (event.clock ≡ x.clock)
  made_there event is = subst (CanHappen n x.clock) is stands_there.what
