-- What the watcher of clocks and pasts keeps.
use Rattle.std.specs.Prelude.{◌≡◌, ℕ, List}
use Rattle.market_events.specs.declared.events.Entry.{Entry}
use Rattle.market_history.specs.Causality.{past_of}
use Rattle.market_history.specs.Histories.{Histories}
use Rattle.market_history.specs.Stamps.{clock_before}
use Rattle.market_auditor.specs.declared.clocks.Clocks.{Clocks}

-- the last clock, and what is known of each service link
pub record AreClocks (clock : ℕ) (known : List ℕ) (before : List Entry) : Type 0 where
  pub last : clock ≡ clock_before before
  pub counts : known ≡ past_of before

abbrev pub SawClocks : Clocks → Histories → ℕ → List Entry → Type 0
SawClocks clocks h n before = AreClocks clocks.clock clocks.known before
