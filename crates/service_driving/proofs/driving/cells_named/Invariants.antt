use Rattle.std.proofs.Common.{◌≡◌, List}
use Rattle.std.specs.List.{All}
use Rattle.market_events.specs.declared.cells.Cell.{Cell}
use Rattle.market_events.specs.Cells.{cells_of}
use Rattle.market_events.specs.Standing.{Stands, value_of}
use Rattle.market_events.specs.Steps.{Step}
use Rattle.service_driving.proofs.driving.cells_named.Given as goal

-- the cells so far
abbrev pub invariant-loop-name : goal.invariant-loop-name
invariant-loop-name g l = (steps : List Step) → Stands g.S.Service.role g.S.Service.holds l.service steps
    → All (λ (c : Cell). c.value ≡ value_of (cells_of g.S.Service.role steps) c.name) l.cells.items
