use Rattle.std.proofs.Common.{[], ◌++◌, ap, ◌∙◌}
use Rattle.market_events.specs.CellLists.{put_all, entry_cells_of}
use Rattle.market_events.proofs.NamedCells.Keyed.{if_ok, put_all-append}
use Rattle.cart_replica.specs.CopyCells.{copy_cells, copy_table}
use Rattle.stock_service.specs.Cells.{level_cells, held_cells}
use Rattle.stock_service.proofs.cells.cells_of.Goals as goal

pub returns : goal.returns
returns c =
    if_ok (λ cells is.
    is ∙ ap entry_cells_of
    (c.in_ok-put_cells-3.ensures
    ∙ ap (λ es. put_all es (held_cells c.args.held.now))
    (c.in_ok-put_cells-2.ensures
    ∙ ap (λ es. put_all es (level_cells c.args.levels.now)) (c.in_ok-put_cells.ensures ∙ ap (λ es. put_all es (copy_cells copy_table c.args.copy.now)) c.new-cells.ensures)
    ∙ put_all-append [] (copy_cells copy_table c.args.copy.now) (level_cells c.args.levels.now))
    ∙ put_all-append [] (copy_cells copy_table c.args.copy.now ++ level_cells c.args.levels.now) (held_cells c.args.held.now)))
    c.into_cells.result c.into_cells.ensures
