-- The criteria by which histories are judged, and the first difference.
use Rattle.std.specs.Prelude.{◌≡◌, ℕ, ◌+◌, ◌<◌, ◌≤◌, List, [], ◌∷◌, ◌++◌, Some, length, drop}
use Rattle.market_events.specs.declared.events.Entry.{Entry}
use Rattle.market_events.specs.declared.events.Offer.TheVariants.{Take}
use Rattle.market_events.specs.declared.events.What.{What}
use Rattle.market_events.specs.declared.events.What.TheVariants.{Given, Taken, Made, Answered}
use Rattle.market_events.specs.declared.nodes.TheConstants.{NODES}
use Rattle.market_events.specs.Offers.{offer_of}
use Rattle.market_history.specs.declared.schedule.Give.TheVariants.{Asked}
use Rattle.market_history.specs.Blocks.{Part, part_of, inputs_of, blocks_after, services}
use Rattle.market_history.specs.Causality.{RestsOn, events_taken}
use Rattle.market_history.specs.Histories.{Histories, journal_at}
use Rattle.market_history.specs.Once.{give_of}
use Rattle.market_history.specs.Schedule.{event_at}
use Rattle.market_history.specs.Sent.{sent, got}
use Rattle.market_history.specs.Stamps.{EachAfter, IsStampedAfter}
use Rattle.market_auditor.specs.declared.verdicts.Criterion.{Criterion}
use Rattle.market_auditor.specs.declared.verdicts.Criterion.TheVariants.{C0, C1, C2, C3, C4, C5, C6}

-- an event that is made or taken after these entries has the next number of its link among them
abbrev pub HasNextNumber : List Entry → What → Type 0
HasNextNumber before (Given request) = Unit {0}
HasNextNumber before (Taken event) = event.number ≡ length (got event.link before) + 1
HasNextNumber before (Made event) = event.number ≡ length (sent event.link before) + 1
HasNextNumber before (Answered id reply) = Unit {0}

-- an event that is taken is the one with its number that its sender made on its link
abbrev pub IsAsMade : Histories → What → Type 0
IsAsMade h (Given request) = Unit {0}
IsAsMade h (Taken event) = event_at h event.link event.number ≡ Some event
IsAsMade h (Made event) = Unit {0}
IsAsMade h (Answered id reply) = Unit {0}

-- an event that node n takes after these entries can be taken there
abbrev pub CanBeTaken : ℕ → List Entry → What → Type 0
CanBeTaken n before (Given request) = Unit {0}
CanBeTaken n before (Taken event) = offer_of n (events_taken before) event ≡ Take
CanBeTaken n before (Made event) = Unit {0}
CanBeTaken n before (Answered id reply) = Unit {0}

-- what the last block of node n owes after these entries
abbrev pub owed_after : ℕ → List Entry → List Part
owed_after n before = drop (length before) (blocks_after n [] (inputs_of before))

-- where nothing is owed, an event may be taken, or a request given that the lane may ask
abbrev pub MayBegin : List Entry → What → Type 0
MayBegin before (Given request) = give_of before request ≡ Asked
MayBegin before (Taken event) = Unit {0}
MayBegin before (Made event) = ⊥
MayBegin before (Answered id reply) = ⊥

-- it is the first of what is owed, or begins a block
abbrev pub IsNextOf : List Part → List Entry → What → Type 0
IsNextOf [] before what = MayBegin before what
IsNextOf (part ∷ more) before what = part_of what ≡ part

abbrev pub GoesOn : ℕ → List Entry → What → Type 0
GoesOn n before what = IsNextOf (owed_after n before) before what

-- what a criterion asks of an entry of node n, after those before it
abbrev pub Asks : Criterion → Histories → ℕ → List Entry → Entry → Type 0
Asks C0 h n before x = Unit {0}
Asks C1 h n before x = HasNextNumber before x.what
Asks C2 h n before x = IsAsMade h x.what
Asks C3 h n before x = IsStampedAfter before x × RestsOn before x.what
Asks C4 h n before x = CanBeTaken n before x.what
Asks C5 h n before x = n < services → GoesOn n before x.what
Asks C6 h n before x = services ≤ n → GoesOn n before x.what

-- what it asks at the end of the journal: that nothing is owed
abbrev pub MayEnd : Criterion → ℕ → List Entry → Type 0
MayEnd C5 n journal = n < services → owed_after n journal ≡ []
MayEnd C6 n journal = services ≤ n → owed_after n journal ≡ []
MayEnd other n journal = Unit {0}

-- the criterion holds of the journal of node n
pub record HoldsAt (criterion : Criterion) (h : Histories) (n : ℕ) : Type 0 where
  pub each : EachAfter (Asks criterion h n) [] (journal_at h n)
  pub ends : MayEnd criterion n (journal_at h n)

-- the criterion holds of all journals
abbrev pub Holds : Criterion → Histories → Type 0
Holds criterion h = (n : ℕ) → n < NODES → HoldsAt criterion h n

abbrev pub AllHold : Histories → Type 0
AllHold h = (criterion : Criterion) → Holds criterion h

-- the place of the criterion among the criteria
abbrev pub rank_of : Criterion → ℕ
rank_of C0 = 0
rank_of C1 = 1
rank_of C2 = 2
rank_of C3 = 3
rank_of C4 = 4
rank_of C5 = 5
rank_of C6 = 6

-- the criteria before the one of this rank hold
abbrev pub HoldBefore : Histories → ℕ → Type 0
HoldBefore h k = (other : Criterion) → rank_of other < k → Holds other h

-- the entry after these is not what is asked, or the journal may not end here
abbrev pub Differs : Criterion → Histories → ℕ → List Entry → List Entry → Type 0
Differs criterion h n before [] = MayEnd criterion n before → ⊥
Differs criterion h n before (x ∷ more) = Asks criterion h n before x → ⊥

-- the first place of a journal at which the criterion does not hold
pub record IsFirstAt (criterion : Criterion) (h : Histories) (n place : ℕ) : Type 0 where
  pub before : List Entry
  pub rest : List Entry
  pub is : journal_at h n ≡ before ++ rest
  pub there : length before ≡ place
  pub holds : EachAfter (Asks criterion h n) [] before
  pub differs : Differs criterion h n before rest

-- the first difference: all criteria before it hold, and it holds of all journals before that of node n, and
-- there up to the place
pub record IsFirst (h : Histories) (criterion : Criterion) (n place : ℕ) : Type 0 where
  pub earlier : HoldBefore h (rank_of criterion)
  pub node : n < NODES
  pub nodes : (m : ℕ) → m < n → HoldsAt criterion h m
  pub first : IsFirstAt criterion h n place
