use Rattle.std.proofs.Common.{◌<◌, ◌^◌, ◌∙◌, ap, arith, length}
use Rattle.market_events.specs.CellLists.{last_value}
use Rattle.shipment_service.specs.Cells.{table_cells}
use Rattle.shipment_service.proofs.TableCells.{run-small}
use Rattle.shipment_service.proofs.Values.{value-here, none-here}
use Rattle.shipment_service.proofs.service.ShipmentsTabled.value.Goals as goal

pub returns-clause-value : goal.returns-clause-value
returns-clause-value c = λ steps stands.
    let table = c.args.self.now.packages in
    let small : length table < 2 ^ 32 = omega (arith, run-small steps stands.run, ap length stands.held.packages) in
    let also : length c.as_slice.result.now < 2 ^ 32 = omega (arith, small, ap length c.as_slice.ensures) in
    value-here table small steps stands.held.packages c.args.name.now c.in_ok-value.value (c.in_ok-value.ensures also ∙ ap (λ ps. last_value c.args.name.now (table_cells ps)) c.as_slice.ensures)
    c.value_or_empty.result.items c.value_or_empty.ensures

pub returns-clause-none : goal.returns-clause-none
returns-clause-none c = λ steps stands.
    let table = c.args.self.now.packages in
    let small : length table < 2 ^ 32 = omega (arith, run-small steps stands.run, ap length stands.held.packages) in
    let also : length c.as_slice.result.now < 2 ^ 32 = omega (arith, small, ap length c.as_slice.ensures) in
    none-here table small steps stands.held.packages c.args.name.now c.in_ok-value.value (c.in_ok-value.ensures also ∙ ap (λ ps. last_value c.args.name.now (table_cells ps)) c.as_slice.ensures)
    c.value_or_empty.result.items c.value_or_empty.ensures
