-- Cores that begin.
use Rattle.std.specs.Prelude.{◌≡◌, ℕ, []}
use Rattle.market_node.specs.Cores.{CoreState}

-- the core of this node, with nothing in its journal
pub record IsEmptyCore (n : ℕ) (core : CoreState) : Type 0 where
  pub node : core.node ≡ n
  pub entries : core.entries ≡ []
