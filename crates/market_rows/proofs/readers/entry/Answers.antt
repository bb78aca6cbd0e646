use Rattle.std.proofs.Common.{◌≡◌, true, false, Some, sym, subst, ◌∙◌}
use Rattle.market_rows.specs.Reading.{Tells, fields_read, names_place}
use Rattle.market_rows.proofs.Stamped.{entry_unread, entry_placed, entry_elsewhere}
use Rattle.market_rows.proofs.readers.entry.Goals as goal

pub returns-in_default : goal.returns-in_default
returns-in_default c = entry_unread c.args.node c.args.place c.args.text.now (sym c.in_default.ensures)

pub returns-then-not-names_place : goal.returns-then-not-names_place
returns-then-not-names_place c =
    let fields = c.in-Some.fields in
    let read : fields_read c.args.text.now ≡ Some fields = sym c.in-Some.ensures in
    let elsewhere : names_place c.args.node c.args.place fields ≡ false = sym c.names_place.ensures ∙ c.if-not-names_place.true in
    entry_elsewhere c.args.node c.args.place c.args.text.now fields read elsewhere

pub returns : goal.returns
returns c =
    let fields = c.in-Some.fields in
    let read : fields_read c.args.text.now ≡ Some fields = sym c.in-Some.ensures in
    let placed : names_place c.args.node c.args.place fields ≡ true = sym c.names_place.ensures ∙ c.if-not-names_place.false in
    subst (Tells c.stamped.result) (sym (entry_placed c.args.node c.args.place c.args.text.now fields read placed)) c.stamped.ensures
