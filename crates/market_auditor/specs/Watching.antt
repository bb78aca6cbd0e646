-- What a watcher says of the entries of a journal, and what it may rely on.
use Rattle.std.specs.Bool.{MatchBool}
use Rattle.std.specs.Prelude.{◌≡◌, ℕ, ◌<◌, Bool, MatchOption, Option, List, [], ◌∷◌, ◌++◌}
use Rattle.market_events.specs.declared.events.Entry.{Entry}
use Rattle.market_events.specs.declared.nodes.TheConstants.{NODES}
use Rattle.market_history.specs.Histories.{Histories, journal_at, IsHistories}
use Rattle.market_history.specs.Journals.{IsEntry}
use Rattle.market_history.specs.Stamps.{EachAfter}
use Rattle.market_auditor.specs.declared.verdicts.Criterion.{Criterion}
use Rattle.market_auditor.specs.Criteria.{Asks, HoldsAt, HoldBefore, rank_of, IsFirstAt}

-- the entry may stand at some place of some journal
abbrev pub StandsSomewhere : Entry → Type 0
StandsSomewhere x = (n : ℕ) × (place : ℕ) × IsEntry n place x

-- the criterion is watched at node n: all criteria before it hold
pub record IsWatched (criterion : Criterion) (h : Histories) (n : ℕ) : Type 0 where
  pub histories : IsHistories h
  pub node : n < NODES
  pub earlier : HoldBefore h (rank_of criterion)

-- the entry comes after these, of which the criterion holds
pub record IsLookedAt (criterion : Criterion) (h : Histories) (n : ℕ) (before : List Entry)
    (x : Entry) : Type 0 where
  pub watched : IsWatched criterion h n
  pub holds : EachAfter (Asks criterion h n) [] before
  pub after : List Entry
  pub there : journal_at h n ≡ before ++ x ∷ after

-- the answer is right exactly where the entry is what the criterion asks, and then the entry is seen
abbrev pub Judges : Criterion → Histories → ℕ → List Entry → Entry → (List Entry → Type 0) → Bool → Type 0
Judges criterion h n before x Saw right =
    MatchBool right (Asks criterion h n before x × Saw (before ++ x ∷ [])) (Asks criterion h n before x → ⊥)

-- none exactly where the criterion holds of the journal, and otherwise the first place at which it does not
abbrev pub JudgesAll : Criterion → Histories → ℕ → Option ℕ → Type 0
JudgesAll criterion h n place =
    MatchOption place (HoldsAt criterion h n) (λ at. IsFirstAt criterion h n at)
