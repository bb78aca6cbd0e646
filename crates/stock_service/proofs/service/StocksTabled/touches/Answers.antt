use Rattle.std.proofs.Common.{◌≤◌, ◌+◌, ◌∙◌, length, ap, sym, subst, arith}
use Rattle.std.specs.List.{IsDistinct, list_any}
use Rattle.std.specs.Ordering.{is_eq}
use Rattle.market_events.specs.Cells.{text_cmp}
use Rattle.market_events.specs.declared.roles.Role.{Role}
use Rattle.market_events.specs.Standing.{same_name, is_named, tables_of, most_touched}
use Rattle.market_events.proofs.NamedCells.Keyed.{if_ok}
use Rattle.market_events.proofs.NamedCells.Touched.{one_touched}
use Rattle.stock_service.specs.Cells.{copy_name, is_touched}
use Rattle.stock_service.proofs.Touches.{changed_covers, asked_covers, reserve_covers, confirmed_covers, failed_covers, reserve_few, confirmed_few, failed_few, asked_few, changed_differ, asked_differ, changed_touched, asked_touched, lines_touched}
use Rattle.stock_service.proofs.Steps.{no_other}
use Rattle.stock_service.proofs.service.StocksTabled.touches.Goals as goal

pub unreachable-requires : goal.unreachable-requires
unreachable-requires c =
    no_other c.args.self.now c.args._from c.args.body.now c.requires c.in_default.not-Changed c.in_default.not-Reserve c.in_default.not-Confirmed c.in_default.not-Failed c.in_default.not-Asked

pub returns-in-Changed-clause-covers : goal.returns-in-Changed-clause-covers
returns-in-Changed-clause-covers c =
    if_ok (λ names are. changed_covers c.args.self.now c.args._from c.args.body.now c.in-Changed.key c.in-Changed.field-1 c.in-Changed.field-2 c.in-Changed.is names.items are)
    c.changed_names.result c.changed_names.ensures

pub returns-in-Changed-clause-differ : goal.returns-in-Changed-clause-differ
returns-in-Changed-clause-differ c =
    if_ok (λ names are. subst (IsDistinct same_name) (sym are) (changed_differ c.in-Changed.key)) c.changed_names.result c.changed_names.ensures

pub returns-in-Changed-clause-few : goal.returns-in-Changed-clause-few
returns-in-Changed-clause-few c =
    if_ok (λ names are. omega (arith, names.ok.0, ap length are, ap most_touched c.in-Changed.is)) c.changed_names.result c.changed_names.ensures

pub returns-in-Asked-clause-covers : goal.returns-in-Asked-clause-covers
returns-in-Asked-clause-covers c =
    if_ok (λ names are. asked_covers c.args.self.now c.args._from c.args.body.now c.in-Asked.request c.in-Asked.is names.items are) c.asked_names.result c.asked_names.ensures

pub returns-in-Asked-clause-differ : goal.returns-in-Asked-clause-differ
returns-in-Asked-clause-differ c =
    if_ok (λ names are. subst (IsDistinct same_name) (sym are) (asked_differ c.in-Asked.request.ask)) c.asked_names.result c.asked_names.ensures

pub returns-in-Asked-clause-few : goal.returns-in-Asked-clause-few
returns-in-Asked-clause-few c =
    if_ok (λ names are. omega (arith, names.ok.0, ap length are, ap most_touched c.in-Asked.is, asked_few c.in-Asked.request.ask)) c.asked_names.result c.asked_names.ensures

pub returns-in-Reserve-clause-covers : goal.returns-in-Reserve-clause-covers
returns-in-Reserve-clause-covers c =
    if_ok (λ names named.
    reserve_covers c.args.self.now c.args._from c.args.body.now c.in-Reserve.checkout c.in-Reserve.field-1 c.in-Reserve.lines c.in-Reserve.is names.items
    (λ name. named name ∙ ap (λ lines. is_touched c.in-Reserve.checkout lines name) c.as_slice.ensures))
    c.names_of.result c.names_of.ensures.named

pub returns-in-Reserve-clause-few : goal.returns-in-Reserve-clause-few
returns-in-Reserve-clause-few c =
    if_ok (λ names few.
    omega (
      arith,
      names.ok.0,
      ap most_touched c.in-Reserve.is,
      reserve_few c.args.self.now c.args._from c.args.body.now c.in-Reserve.checkout c.in-Reserve.field-1 c.in-Reserve.lines c.in-Reserve.is c.requires (length names.items)
          (subst (λ lines. length names.items ≤ length lines + 1) c.as_slice.ensures few),
    ))
    c.names_of.result c.names_of.ensures.few

pub returns-in-Confirmed-clause-covers : goal.returns-in-Confirmed-clause-covers
returns-in-Confirmed-clause-covers c =
    if_ok (λ names named. confirmed_covers c.args.self.now c.args._from c.args.body.now c.in-Confirmed.checkout c.in-Confirmed.field-1 c.in-Confirmed.field-2 c.in-Confirmed.field-3 c.in-Confirmed.is names.items named)
    c.names.result c.names.ensures.named

pub returns-in-Confirmed-clause-few : goal.returns-in-Confirmed-clause-few
returns-in-Confirmed-clause-few c =
    if_ok (λ names few.
    omega (
      arith,
      names.ok.0,
      ap most_touched c.in-Confirmed.is,
      confirmed_few c.args.self.now c.args._from c.args.body.now c.in-Confirmed.checkout c.in-Confirmed.field-1 c.in-Confirmed.field-2 c.in-Confirmed.field-3 c.in-Confirmed.is c.requires (length names.items) few,
    ))
    c.names.result c.names.ensures.few

pub returns-in-Failed-clause-covers : goal.returns-in-Failed-clause-covers
returns-in-Failed-clause-covers c =
    if_ok (λ names named. failed_covers c.args.self.now c.args._from c.args.body.now c.in-Failed.checkout c.in-Failed.field-1 c.in-Failed.field-2 c.in-Failed.is names.items named)
    c.names-in-Failed.result c.names-in-Failed.ensures.named

pub returns-in-Failed-clause-few : goal.returns-in-Failed-clause-few
returns-in-Failed-clause-few c =
    if_ok (λ names few.
    omega (
      arith,
      names.ok.0,
      ap most_touched c.in-Failed.is,
      failed_few c.args.self.now c.args._from c.args.body.now c.in-Failed.checkout c.in-Failed.field-1 c.in-Failed.field-2 c.in-Failed.is c.requires (length names.items) few,
    ))
    c.names-in-Failed.result c.names-in-Failed.ensures.few

pub returns-in-Changed-clause-tables : goal.returns-in-Changed-clause-tables
returns-in-Changed-clause-tables c =
    if_ok (λ names are. one_touched Role.Stock c.args.body.now names.items (copy_name c.in-Changed.key) are
    (changed_touched c.args.body.now c.in-Changed.key c.in-Changed.key c.in-Changed.field-1 c.in-Changed.field-2 c.in-Changed.is))
    c.changed_names.result c.changed_names.ensures

pub returns-in-Asked-clause-tables : goal.returns-in-Asked-clause-tables
returns-in-Asked-clause-tables c =
    if_ok (λ names are name here.
    asked_touched c.in-Asked.request c.args.body.now c.in-Asked.is name (sym (ap (λ ns. is_named ns name) are) ∙ here))
    c.asked_names.result c.asked_names.ensures

pub returns-in-Reserve-clause-tables : goal.returns-in-Reserve-clause-tables
returns-in-Reserve-clause-tables c =
    if_ok (λ names named name here.
    lines_touched c.args.body.now (λ table. sym (ap (λ b. list_any (λ t. is_eq (text_cmp t table)) (tables_of Role.Stock b)) c.in-Reserve.is)) c.in-Reserve.checkout c.as_slice.result.now name (sym (named name) ∙ here))
    c.names_of.result c.names_of.ensures.named

pub returns-in-Confirmed-clause-tables : goal.returns-in-Confirmed-clause-tables
returns-in-Confirmed-clause-tables c =
    if_ok (λ names only name here.
    lines_touched c.args.body.now (λ table. sym (ap (λ b. list_any (λ t. is_eq (text_cmp t table)) (tables_of Role.Stock b)) c.in-Confirmed.is)) c.in-Confirmed.checkout _ name (only name here))
    c.names.result c.names.ensures.only

pub returns-in-Failed-clause-tables : goal.returns-in-Failed-clause-tables
returns-in-Failed-clause-tables c =
    if_ok (λ names only name here.
    lines_touched c.args.body.now (λ table. sym (ap (λ b. list_any (λ t. is_eq (text_cmp t table)) (tables_of Role.Stock b)) c.in-Failed.is)) c.in-Failed.checkout _ name (only name here))
    c.names-in-Failed.result c.names-in-Failed.ensures.only
