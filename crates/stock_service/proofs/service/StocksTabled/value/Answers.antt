use Rattle.std.proofs.Common.{subst, sym, ◌≡◌, ◌∙◌}
use Rattle.market_events.specs.Carts.{changes_taken}
use Rattle.market_events.specs.CellLists.{last_value}
use Rattle.market_events.specs.Cells.{all_cells}
use Rattle.market_events.specs.declared.roles.Role.{Role}
use Rattle.market_events.proofs.NamedCells.Keyed.{IsFilled, value_told, none_told}
use Rattle.cart_replica.proofs.CopyCells.{changes_taken-keys}
use Rattle.stock_service.proofs.TableCells.{levels_in-within, held_in-within}
use Rattle.stock_service.proofs.Values.{value_is, all_filled}
use Rattle.stock_service.proofs.service.StocksTabled.value.Goals as goal

pub returns-clause-value : goal.returns-clause-value
returns-clause-value c = λ steps stands.
    let s = c.args.self.now in
    let is : c.in_ok-value.value ≡ last_value c.args.name.now (all_cells Role.Stock steps)
    = c.in_ok-value.ensures (changes_taken steps) stands.held.copied (changes_taken-keys Role.Stock steps stands.run)
    (levels_in-within s steps stands.run stands.held) (held_in-within s steps stands.run stands.held)
    ∙ value_is s steps stands.run stands.held c.args.name.now in
    value_told Role.Stock steps c.args.name.now c.in_ok-value.value is c.value_or_empty.result.items c.value_or_empty.ensures

pub returns-clause-none : goal.returns-clause-none
returns-clause-none c = λ steps stands.
    let s = c.args.self.now in
    let is : c.in_ok-value.value ≡ last_value c.args.name.now (all_cells Role.Stock steps)
    = c.in_ok-value.ensures (changes_taken steps) stands.held.copied (changes_taken-keys Role.Stock steps stands.run)
    (levels_in-within s steps stands.run stands.held) (held_in-within s steps stands.run stands.held)
    ∙ value_is s steps stands.run stands.held c.args.name.now in
    none_told Role.Stock steps c.args.name.now c.in_ok-value.value (subst IsFilled (sym is) (all_filled steps stands.run c.args.name.now)) is c.value_or_empty.result.items c.value_or_empty.ensures
