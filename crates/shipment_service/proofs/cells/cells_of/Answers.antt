use Rattle.std.proofs.Common.{◌≡◌, [], take, ◌∙◌}
use Rattle.market_events.specs.declared.cells.Cell.{Cell}
use Rattle.market_events.specs.CellLists.{put_cell, put_all}
use Rattle.shipment_service.specs.Cells.{table_cells}
use Rattle.shipment_service.proofs.TableCells.{table-more}
use Rattle.shipment_service.proofs.Padding.{no_parcel}
use Rattle.shipment_service.proofs.cells.cells_of.Goals as goal

pub loop-index-preserved : goal.loop-index-preserved
loop-index-preserved c =
    let ps = c.args.packages.now in
    let so_far : c.loop-index.cells ≡ put_all [] (table_cells (take c.loop-index.index ps)) = c.loop-index.invariant in
    c.in_ok-put.ensures.ok
    ∙ (λ i. put_cell (so_far i) (let cell : Cell = record { name = c.in_ok-name.ensures i; value = c.in_ok-text.ensures i } in cell))
    ∙ table-more ps c.loop-index.index no_parcel c.loop-index-test.true
