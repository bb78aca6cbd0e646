use Rattle.std.proofs.Common.{◌∙◌}
use Rattle.market_events.proofs.NamedCells.Keyed.{if_ok}
use Rattle.stock_service.proofs.TableCells.{cells_told}
use Rattle.stock_service.proofs.service.StocksTabled.cells.Goals as goal

pub returns : goal.returns
returns c =
    let s = c.args.self.now in
    if_ok (λ cells is steps stands. is ∙ cells_told s steps stands.run stands.held) c.cells_of.result c.cells_of.ensures
