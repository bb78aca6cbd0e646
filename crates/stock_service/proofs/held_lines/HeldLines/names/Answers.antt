use Rattle.std.proofs.Common.{◌≡◌, List, Option, IfSome, ap, subst, sym, ◌∙◌}
use Rattle.std.specs.List.{IsDistinct}
use Rattle.market_events.specs.declared.bodies.PricedLine.{PricedLine}
use Rattle.market_events.specs.declared.cells.CellName.{CellName}
use Rattle.market_events.specs.Standing.{same_name, is_named}
use Rattle.market_events.proofs.NamedCells.Keyed.{if_ok}
use Rattle.cart_replica.proofs.Names.{none_distinct}
use Rattle.stock_service.specs.Cells.{is_touched}
use Rattle.stock_service.specs.Tables.{lines_at}
use Rattle.stock_service.proofs.held_lines.HeldLines.names.Goals as goal

pub returns-in-None-clause-differ : goal.returns-in-None-clause-differ
returns-in-None-clause-differ c = subst (IsDistinct same_name) (sym c.new.ensures.items) none_distinct

pub returns-in-Some-clause-named : goal.returns-in-Some-clause-named
returns-in-Some-clause-named c =
    if_ok (λ names named.
    subst (λ (o : Option (List PricedLine)). IfSome o (λ lines. (name : CellName) → is_named names.items name ≡ is_touched c.args.checkout lines name))
    (c.in-Some.ensures.value ∙ ap (λ held. lines_at held c.args.checkout) c.self.view_is)
    (λ name. named name ∙ ap (λ lines. is_touched c.args.checkout lines name) c.as_slice.ensures))
    c.names_of.result c.names_of.ensures.named
