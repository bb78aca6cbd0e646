use Rattle.std.proofs.Common.{length, ap, ◌∙◌, arith}
use Rattle.market_events.specs.Cells.{cells_listed}
use Rattle.market_events.proofs.NamedCells.Keyed.{if_ok}
use Rattle.seller_service.specs.Cells.{table_cells}
use Rattle.seller_service.specs.Tables.{changes_at, SellerTables}
use Rattle.seller_service.proofs.Steps.{few_changes}
use Rattle.seller_service.proofs.TableCells.{table_told}
use Rattle.seller_service.proofs.service.SellersTabled.cells.Goals as goal

pub cells_of-requires : goal.cells_of-requires
cells_of-requires c = λ seller. omega (arith, few_changes c.args.self.now c.requires seller, ap (λ (tables : SellerTables). length (changes_at tables.ledgers seller)) c.self.view_is)

pub returns : goal.returns
returns c =
    if_ok (λ cells e steps stands.
    e ∙ ap (λ (tables : SellerTables). cells_listed (table_cells tables.ledgers)) c.self.view_is ∙ table_told c.args.self.now.ledgers steps stands.run stands.held.changes)
    c.cells_of.result c.cells_of.ensures
