use Rattle.std.proofs.Common.{◌≡◌, subst, sym, ◌∙◌}
use Rattle.cart_service.specs.Tables.{CartTables}
use Rattle.market_events.specs.declared.roles.Role.{Role}
use Rattle.market_events.specs.Carts.{changes_taken}
use Rattle.market_events.specs.CellLists.{last_value}
use Rattle.market_events.specs.Cells.{all_cells}
use Rattle.market_events.proofs.NamedCells.Keyed.{IsFilled, value_told, none_told}
use Rattle.cart_replica.proofs.CopyCells.{changes_taken-keys}
use Rattle.cart_service.specs.Holds.{Holds}
use Rattle.market_events.specs.Standing.{Stands}
use Rattle.cart_service.proofs.Values.{are_small, value_is, all_filled}
use Rattle.cart_service.proofs.service.CartsTabled.value.Goals as goal

pub returns-clause-value : goal.returns-clause-value
returns-clause-value c = λ steps stands.
    let old : CartTables = record { copy = c.self.inside.copy; baskets = c.self.inside.baskets } in
    let inside : Stands Role.Cart Holds old steps = subst (λ kept. Stands Role.Cart Holds kept steps) (sym c.self.view_is) stands in
    let is : c.in_ok-value.value ≡ last_value c.args.name.now (all_cells Role.Cart steps)
    = c.in_ok-value.ensures (changes_taken steps) inside.held.copied (changes_taken-keys Role.Cart steps stands.run) (are_small old steps inside) ∙ value_is old steps inside c.args.name.now in
    value_told Role.Cart steps c.args.name.now c.in_ok-value.value is c.value_or_empty.result.items c.value_or_empty.ensures

pub returns-clause-none : goal.returns-clause-none
returns-clause-none c = λ steps stands.
    let old : CartTables = record { copy = c.self.inside.copy; baskets = c.self.inside.baskets } in
    let inside : Stands Role.Cart Holds old steps = subst (λ kept. Stands Role.Cart Holds kept steps) (sym c.self.view_is) stands in
    let is : c.in_ok-value.value ≡ last_value c.args.name.now (all_cells Role.Cart steps)
    = c.in_ok-value.ensures (changes_taken steps) inside.held.copied (changes_taken-keys Role.Cart steps stands.run) (are_small old steps inside) ∙ value_is old steps inside c.args.name.now in
    none_told Role.Cart steps c.args.name.now c.in_ok-value.value (subst IsFilled (sym is) (all_filled steps c.args.name.now)) is c.value_or_empty.result.items c.value_or_empty.ensures
