-- The clocks of a journal's entries: each is the stamp of what happened after the clock before it.
use Rattle.std.specs.Prelude.{◌≡◌, ℕ, ◌+◌, max, List, [], ◌∷◌, ◌++◌, Option, Some, None}
use Rattle.std.specs.List.{last_or}
use Rattle.market_events.specs.declared.events.Entry.{Entry}
use Rattle.market_events.specs.declared.events.What.{What}
use Rattle.market_events.specs.declared.events.What.TheVariants.{Given, Taken, Made, Answered}

-- P holds of each element after those before it, the first of which are given
abbrev pub EachAfter : {A : Type 0} → (List A → A → Type 0) → List A → List A → Type 0
EachAfter P before [] = Unit {0}
EachAfter P before (x ∷ xs) = P before x × EachAfter P (before ++ x ∷ []) xs

-- the clock of the entry, 0 where there is none
abbrev pub clock_in : Option Entry → ℕ
clock_in None = 0
clock_in (Some entry) = entry.clock

-- the clock of the last entry, 0 where there is none
abbrev pub clock_before : List Entry → ℕ
clock_before entries = clock_in (last_or None entries)

-- the clock at which it happens, after this one: above it, and for an event that is taken above the event's
-- clock too
abbrev pub stamp_of : ℕ → What → ℕ
stamp_of before (Given request) = before + 1
stamp_of before (Taken event) = max before event.clock + 1
stamp_of before (Made event) = before + 1
stamp_of before (Answered id reply) = before + 1

-- an event that was made has this clock
abbrev pub HasClock : ℕ → What → Type 0
HasClock clock (Given request) = Unit {0}
HasClock clock (Taken event) = Unit {0}
HasClock clock (Made event) = event.clock ≡ clock
HasClock clock (Answered id reply) = Unit {0}

-- the entry has its stamp after the entries before it, and so has the event that it made
abbrev pub IsStampedAfter : List Entry → Entry → Type 0
IsStampedAfter before x = (x.clock ≡ stamp_of (clock_before before) x.what) × HasClock x.clock x.what

-- each entry has its stamp after the entries before it
abbrev pub IsStamped : List Entry → Type 0
IsStamped entries = EachAfter IsStampedAfter [] entries
