use Rattle.std.proofs.Common.{[], ◌++◌, ap, ◌∙◌}
use Rattle.cart_service.specs.Tables.{CartTables}
use Rattle.market_events.specs.CellLists.{put_all, entry_cells_of}
use Rattle.market_events.proofs.NamedCells.Keyed.{if_ok}
use Rattle.cart_replica.specs.CopyCells.{copy_cells, copy_table}
use Rattle.cart_service.specs.Cells.{basket_cells}
use Rattle.cart_service.proofs.TableCells.{cells_told}
use Rattle.cart_service.proofs.service.CartsTabled.cells.Goals as goal

pub returns : goal.returns
returns c =
    if_ok (λ cells are steps stands.
    are ∙ ap (λ (kept : CartTables). entry_cells_of (put_all [] (copy_cells copy_table kept.copy ++ basket_cells kept.baskets))) c.self.view_is ∙ cells_told c.args.self.now steps stands)
    c.cells_of.result c.cells_of.ensures
