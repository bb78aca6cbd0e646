-- What a shelf holds of histories.
use Rattle.std.specs.Prelude.{◌≡◌, ℕ, ◌<◌, List, Option, Some, IfSome}
use Rattle.market_events.specs.declared.nodes.TheConstants.{NODES}
use Rattle.market_history.specs.Histories.{Histories, journal_at}
use Rattle.market_rows.specs.Rows.{rows_of}

-- the texts that a shelf holds of each node, where it tells
abbrev pub Held : Type 0
Held = ℕ → Option (List (List ℕ))

-- where the shelf tells, what it holds of each node is the rows of the node's journal
unfoldable pub HoldsRows : Held → Histories → Type 0
HoldsRows held h = (n : ℕ) → n < NODES → IfSome (held n) (λ texts. texts ≡ rows_of n (journal_at h n))

-- the shelf tells, and what it holds of each node is the rows of the node's journal
unfoldable pub TellsRows : Held → Histories → Type 0
TellsRows held h = (n : ℕ) → n < NODES → held n ≡ Some (rows_of n (journal_at h n))
