-- The journals so far.
use Rattle.std.proofs.Common.{◌≡◌, take}
use Rattle.std.specs.Prelude.{map}
use Rattle.std.specs.List.{range_with_len}
use Rattle.market_history.specs.Journals.{JournalState}
use Rattle.market_rounds.specs.Nodes.{histories_by}
use Rattle.market_rounds.proofs.marketplace.Marketplace.histories.Given as goal

abbrev pub invariant-loop-number : goal.invariant-loop-number
invariant-loop-number l =
    (map (λ (j : JournalState). j.node) l.journals.items ≡ range_with_len 0 l.number)
    × (map (λ (j : JournalState). j.entries) l.journals.items ≡ take l.number (histories_by l.self-inside.nodes))
