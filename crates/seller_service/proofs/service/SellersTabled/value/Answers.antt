use Rattle.std.proofs.Common.{◌≡◌, subst}
use Rattle.market_events.specs.CellLists.{Within, last_value}
use Rattle.seller_service.specs.Cells.{text_at, table_cells, IsSpelledPlace}
use Rattle.seller_service.specs.Tables.{changes_at, SellerTables}
use Rattle.seller_service.proofs.Values.{value_here, none_here}
use Rattle.seller_service.proofs.service.SellersTabled.value.Goals as goal

pub returns-clause-value : goal.returns-clause-value
returns-clause-value c = λ steps stands.
    let found : Within IsSpelledPlace (text_at (changes_at c.args.self.now.ledgers)) → c.in_ok-value.value ≡ last_value c.args.name.now (table_cells c.args.self.now.ledgers)
    = subst (λ (tables : SellerTables). Within IsSpelledPlace (text_at (changes_at tables.ledgers)) → c.in_ok-value.value ≡ last_value c.args.name.now (table_cells tables.ledgers)) c.self.view_is c.in_ok-value.ensures in
    value_here c.args.self.now.ledgers steps stands.run stands.held.changes c.args.name.now c.in_ok-value.value found c.value_or_empty.result.items c.value_or_empty.ensures

pub returns-clause-none : goal.returns-clause-none
returns-clause-none c = λ steps stands.
    let found : Within IsSpelledPlace (text_at (changes_at c.args.self.now.ledgers)) → c.in_ok-value.value ≡ last_value c.args.name.now (table_cells c.args.self.now.ledgers)
    = subst (λ (tables : SellerTables). Within IsSpelledPlace (text_at (changes_at tables.ledgers)) → c.in_ok-value.value ≡ last_value c.args.name.now (table_cells tables.ledgers)) c.self.view_is c.in_ok-value.ensures in
    none_here c.args.self.now.ledgers steps stands.run stands.held.changes c.args.name.now c.in_ok-value.value found c.value_or_empty.result.items c.value_or_empty.ensures
