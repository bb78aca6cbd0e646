use Rattle.std.proofs.Common.{[], ap, ◌∙◌}
use Rattle.market_events.specs.CellLists.{put_all, entry_cells_of}
use Rattle.market_events.proofs.NamedCells.Keyed.{if_ok}
use Rattle.cart_replica.specs.CopyCells.{copy_cells}
use Rattle.product_service.proofs.TableCells.{cells_told}
use Rattle.product_service.proofs.service.ProductsTabled.cells.Goals as goal
use Rattle.product_service.specs.Cells.{table_name}

pub returns : goal.returns
returns c =
    if_ok (λ cells are steps stands.
    are ∙ ap (λ entries. entry_cells_of (put_all [] (copy_cells table_name entries))) c.self.view_is ∙ cells_told c.args.self.now steps stands)
    c.cells_of.result c.cells_of.ensures
