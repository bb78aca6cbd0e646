-- The journals that were passed are journals.
use Rattle.std.proofs.Common.{ℕ, ◌<◌}
use Rattle.std.specs.Prelude.{slice_index_or}
use Rattle.market_history.specs.Journals.{JournalState, IsJournal}
use Rattle.market_history.proofs.histories.Histories.new.Given as goal

abbrev pub invariant-loop-journal : goal.invariant-loop-journal
invariant-loop-journal l =
    (k : ℕ) (j : JournalState) → k < l.journal-index → IsJournal (slice_index_or l.fn.journals.items k j).node (slice_index_or l.fn.journals.items k j).entries
