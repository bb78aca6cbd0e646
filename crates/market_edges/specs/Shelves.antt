-- The rows of a shelf.
use Rattle.std.specs.Prelude.{ℕ, zero, suc, ◌+◌, ◌<◌, ◌≡◌, List, [], ◌∷◌, map}
use Rattle.market_edges.specs.declared.shelves.Row.{Row}
use Rattle.market_edges.specs.Counts.{Rose}
use Rattle.market_events.specs.declared.nodes.TheConstants.{NODES}

-- the most rows of a node: they stand at places below this one
abbrev pub most_rows : ℕ
most_rows = 4294967295

-- the rows' places are place, place + 1 and so on
abbrev pub ContinueFrom : ℕ → List Row → Type 0
ContinueFrom place [] = Unit {0}
ContinueFrom place (row ∷ rows) = (row.place ≡ place) × ContinueFrom (place + 1) rows

-- the texts of the rows
abbrev pub texts_of : List Row → List (List ℕ)
texts_of rows = map (λ (row : Row). row.text) rows

-- the sum of the counts of the nodes below n
abbrev pub faults_below : ℕ → (ℕ → ℕ) → ℕ
faults_below zero counts = 0
faults_below (suc n) counts = faults_below n counts + counts n

-- the shelf's own count of faults: the sum of the counts of its nodes
abbrev pub total_faults : (ℕ → ℕ) → ℕ
total_faults = faults_below NODES

-- the shelf's own count rose: exactly where the count of some node did
abbrev pub RoseSomewhere : (ℕ → ℕ) → (ℕ → ℕ) → Type 0
RoseSomewhere old new = (node : ℕ) × (node < NODES) × Rose (old node) (new node)
