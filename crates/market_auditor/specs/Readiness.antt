-- What the watcher of readiness keeps.
use Rattle.std.specs.Prelude.{◌≡◌, ℕ, List}
use Rattle.market_events.specs.declared.events.Entry.{Entry}
use Rattle.market_events.specs.Offers.{counts_of}
use Rattle.market_history.specs.Causality.{events_taken}
use Rattle.market_history.specs.Histories.{Histories}
use Rattle.market_auditor.specs.declared.readiness.Readiness.{Readiness}

-- the node, and how many events of each service link it took
pub record AreTaken (node : ℕ) (taken : List ℕ) (n : ℕ) (before : List Entry) : Type 0 where
  pub here : node ≡ n
  pub counts : taken ≡ counts_of (events_taken before)

abbrev pub SawReady : Readiness → Histories → ℕ → List Entry → Type 0
SawReady readiness h n before = AreTaken readiness.node readiness.taken n before
