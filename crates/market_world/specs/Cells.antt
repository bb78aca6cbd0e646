-- The cells of a node.
use Rattle.std.specs.Prelude.{ℕ, nat_lt, List, [], if◌then◌else◌}
use Rattle.market_events.specs.declared.cells.Cell.{Cell}
use Rattle.market_events.specs.Cells.{cells_of}
use Rattle.market_history.specs.Blocks.{role_at, services, service_steps}
use Rattle.market_history.specs.Histories.{Histories}

-- those of a service, by the steps that it took; a lane has none
abbrev pub cells_at : Histories → ℕ → List Cell
cells_at h n = if nat_lt n services then cells_of (role_at n) (service_steps h (role_at n)) else []
