use Rattle.std.proofs.Common.{◌≡◌}
use Rattle.market_events.specs.CellLists.{Within, last_value}
use Rattle.market_events.specs.WellFormed.{IsId}
use Rattle.customer_service.specs.Cells.{texts_in, table_cells}
use Rattle.customer_service.proofs.Values.{value_here, none_here}
use Rattle.customer_service.proofs.service.CustomersTabled.value.Goals as goal

pub returns-clause-value : goal.returns-clause-value
returns-clause-value c = λ steps stands.
    let found : Within IsId (texts_in c.args.self.now) → c.in_ok-value.value ≡ last_value c.args.name.now (table_cells c.args.self.now) = rw (← c.self.view_is) c.in_ok-value.ensures in
    value_here c.args.self.now steps stands c.args.name.now c.in_ok-value.value found c.value_or_empty.result.items c.value_or_empty.ensures

pub returns-clause-none : goal.returns-clause-none
returns-clause-none c = λ steps stands.
    let found : Within IsId (texts_in c.args.self.now) → c.in_ok-value.value ≡ last_value c.args.name.now (table_cells c.args.self.now) = rw (← c.self.view_is) c.in_ok-value.ensures in
    none_here c.args.self.now steps stands c.args.name.now c.in_ok-value.value found c.value_or_empty.result.items c.value_or_empty.ensures
