-- The events of a journal have numbers and pasts in their ranges, so what the journal knows is in range too.
use Rattle.std.proofs.Common.{ℕ, ◌+◌, ◌<◌, ◌≤◌, Bool, true, false, List, [], ◌∷◌, if◌then◌else◌, arith}
use Rattle.std.specs.List.{AllByRecursion}
use Rattle.market_events.specs.declared.events.Entry.{Entry}
use Rattle.market_events.specs.declared.events.Event.{Event}
use Rattle.market_events.specs.declared.events.What.{What}
use Rattle.market_events.specs.declared.events.What.TheVariants.{Given, Taken, Made, Answered}
use Rattle.market_events.specs.declared.links.Link.TheVariants.{Service}
use Rattle.market_events.specs.declared.links.TheConstants.{SERVICE_LINKS}
use Rattle.market_events.specs.Counts.{AreCounts}
use Rattle.market_events.specs.Links.{same_link}
use Rattle.market_history.specs.Causality.{number_on, count_in, count_told, past_of}
use Rattle.market_history.specs.Journals.{CanHappen, AreEntriesFrom, IsJournal}
use Rattle.market_history.proofs.CausalityLaws.{known-most, past_of-counts}

-- an event tells of no more events on a link than its number
pub number_on-most : (k : ℕ) (event : Event) → number_on k event ≤ event.number
number_on-most k event = by (same_link event.link (Service k))
  where
    by : (test : Bool) → (if test then event.number else 0) ≤ event.number
    by true = omega arith
    by false = omega arith

-- an entry that may happen tells of counts in range
in_range : (node clock k : ℕ) (what : What) → k < SERVICE_LINKS → CanHappen node clock what → count_in what k ≤ 4_294_967_295
in_range node clock k (Given request) lt can = omega arith
in_range node clock k (Taken event) lt can = omega (arith, number_on-most k event, can.0.number_high, can.0.past.high k lt)
in_range node clock k (Made event) lt can = omega (arith, number_on-most k event, can.0.number_high)
in_range node clock k (Answered id reply) lt can = omega arith

entries_in_range : (node place k : ℕ) (xs : List Entry) → k < SERVICE_LINKS → AreEntriesFrom node place xs → AllByRecursion (λ (x : Entry). count_told x k ≤ 4_294_967_295) xs
entries_in_range node place k [] lt each = tt
entries_in_range node place k (x ∷ xs) lt each =
    (in_range node x.clock k x.what lt each.0.what, entries_in_range node (place + 1) k xs lt each.1)

-- the past of the next event of a journal has its counts in their range
pub journal-counts : (node : ℕ) (xs : List Entry) → IsJournal node xs → AreCounts (past_of xs)
journal-counts node xs journal =
    past_of-counts 4_294_967_295 xs (omega arith) (λ k lt. known-most 4_294_967_295 xs k (entries_in_range node 0 k xs lt journal))
