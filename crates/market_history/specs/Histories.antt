-- Histories: the journals of all nodes.
use Rattle.std.specs.Prelude.{◌≡◌, ℕ, ◌<◌, List, [], ◌∷◌, length, map, slice_index_or, slice_set}
use Rattle.market_events.specs.declared.events.Entry.{Entry}
use Rattle.market_events.specs.declared.nodes.TheConstants.{NODES}
use Rattle.market_history.specs.Journals.{JournalState, IsJournal}
use Rattle.market_history.specs.Sent.{IsPrefixOf}

-- the entries of each node, in the order of the nodes
abbrev pub Histories : Type 0
Histories = List (List Entry)

abbrev pub entries_of : List JournalState → Histories
entries_of journals = map (λ (j : JournalState). j.entries) journals

-- each of them is a journal
abbrev pub AreJournals : List JournalState → Type 0
AreJournals journals =
    (k : ℕ) (j : JournalState) → k < length journals
    → IsJournal (slice_index_or journals k j).node (slice_index_or journals k j).entries

-- the journal of a node
unfoldable pub journal_at : Histories → ℕ → List Entry
journal_at h n = slice_index_or h n []

-- the histories in which a node has this journal
unfoldable pub with_journal : Histories → ℕ → List Entry → Histories
with_journal h n entries = slice_set h n entries

-- there is a journal for each node, and each entry may stand at its place
pub record IsHistories (h : Histories) : Type 0 where
  pub each : length h ≡ NODES
  pub journals : (n : ℕ) → n < NODES → IsJournal n (journal_at h n)

-- nothing happened yet
abbrev pub no_histories : Histories
no_histories = [] ∷ [] ∷ [] ∷ [] ∷ [] ∷ [] ∷ [] ∷ [] ∷ [] ∷ [] ∷ [] ∷ [] ∷ [] ∷ [] ∷ [] ∷ [] ∷ [] ∷ [] ∷ []
    ∷ [] ∷ [] ∷ [] ∷ [] ∷ [] ∷ []

-- the later histories begin with the earlier ones: each node's journal does
abbrev pub BeginsWith : Histories → Histories → Type 0
BeginsWith later earlier = (n : ℕ) → n < NODES → IsPrefixOf (journal_at earlier n) (journal_at later n)
