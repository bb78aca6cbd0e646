use Rattle.std.proofs.Common.{◌<◌, ◌^◌, ◌∙◌, ap, arith, length}
use Rattle.std.proofs.Math.Logic.{∥∥₁_elim}
use Rattle.std.specs.Coded.{le_prop}
use Rattle.market_events.specs.Cells.{cells_listed}
use Rattle.market_events.proofs.NamedCells.Keyed.{if_ok}
use Rattle.shipment_service.specs.Cells.{table_cells}
use Rattle.shipment_service.proofs.TableCells.{table-told, run-small}
use Rattle.shipment_service.proofs.service.ShipmentsTabled.cells.Goals as goal

pub cells_of-requires : goal.cells_of-requires
cells_of-requires c = ∥∥₁_elim c.requires le_prop (λ it. omega (arith, run-small it.0 it.1.run, ap length it.1.held.packages, ap length c.as_slice.ensures))

pub returns : goal.returns
returns c =
    let table = c.args.self.now.packages in
    if_ok (λ cells e steps stands.
    let small : length table < 2 ^ 32 = omega (arith, run-small steps stands.run, ap length stands.held.packages) in
    e ∙ ap (λ ps. cells_listed (table_cells ps)) c.as_slice.ensures ∙ table-told table small steps stands.held.packages)
    c.cells_of.result c.cells_of.ensures
