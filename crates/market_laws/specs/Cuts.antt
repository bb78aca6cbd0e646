-- Cuts: places of a journal where an event was taken or made, the steps of a service up to there, and that
-- what was taken there fits.
use Rattle.std.specs.Prelude.{◌≡◌, ℕ, ◌<◌, true, List, ◌∷◌, ◌++◌}
use Rattle.market_events.specs.declared.events.Entry.{Entry}
use Rattle.market_events.specs.declared.events.Event.{Event}
use Rattle.market_events.specs.declared.events.What.{What}
use Rattle.market_events.specs.declared.events.What.TheVariants.{Given, Taken, Made, Answered}
use Rattle.market_events.specs.Links.{sender_of}
use Rattle.market_events.specs.Services.{fits}
use Rattle.market_events.specs.Steps.{Step}
use Rattle.market_events.specs.declared.nodes.TheConstants.{NODES}
use Rattle.market_history.specs.Blocks.{inputs_of, role_at, steps_of, services}
use Rattle.market_history.specs.Histories.{Histories, journal_at}
use Rattle.market_history.specs.Lawful.{IsReadyAfter}
use Rattle.market_laws.specs.Grown.{Grown}

-- an entry with this clock
abbrev pub entry_with : ℕ → What → Entry
entry_with clock what = record { clock = clock; what = what }

-- the steps that the service n took, by these entries of its journal
abbrev pub steps_at : ℕ → List Entry → List Step
steps_at n entries = steps_of (role_at n) (inputs_of entries)

-- it stands in the list, right after the first list
pub record StandsIn {A : Type 0} (before : List A) (x : A) (xs : List A) : Type 0 where
  pub after : List A
  pub is : xs ≡ before ++ x ∷ after

-- the place where node n took the event, with this clock
pub record TookAt (h : Histories) (n : ℕ) (event : Event) : Type 0 where
  pub node : n < NODES
  pub clock : ℕ
  pub before : List Entry
  pub after : List Entry
  pub is : journal_at h n ≡ before ++ entry_with clock (Taken event) ∷ after
  pub grown : Grown n before
  pub ready : IsReadyAfter n before (Taken event)

-- the place where node n made the event
pub record MadeAt (h : Histories) (n : ℕ) (event : Event) : Type 0 where
  pub node : n < NODES
  pub leaves : sender_of event.link ≡ n
  pub before : List Entry
  pub after : List Entry
  pub is : journal_at h n ≡ before ++ entry_with event.clock (Made event) ∷ after

-- the event fits the steps that the service n took before
abbrev pub FitsAt : ℕ → List Entry → Event → Type 0
FitsAt n before event = fits (role_at n) (steps_at n before) event.link event.body ≡ true

-- an event that is taken fits
abbrev pub FitsAfter : ℕ → List Entry → What → Type 0
FitsAfter n before (Given request) = Unit {0}
FitsAfter n before (Taken event) = FitsAt n before event
FitsAfter n before (Made event) = Unit {0}
FitsAfter n before (Answered id reply) = Unit {0}

-- each event that a service took with a smaller clock fitted there
abbrev pub FitsBelow : Histories → ℕ → Type 0
FitsBelow h top = (n : ℕ) → n < services → (event : Event) → (t : TookAt h n event) → t.clock < top
    → FitsAt n t.before event
