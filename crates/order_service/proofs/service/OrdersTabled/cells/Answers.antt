use Rattle.std.proofs.Common.{◌∙◌}
use Rattle.market_events.proofs.NamedCells.Keyed.{if_ok}
use Rattle.order_service.proofs.TableCells.{table_told}
use Rattle.order_service.proofs.service.OrdersTabled.cells.Goals as goal

pub returns : goal.returns
returns c = if_ok (λ cells e steps stands. e ∙ table_told c.args.self.now steps stands) c.cells_of.result (rw (← c.self.view_is) c.cells_of.ensures)
