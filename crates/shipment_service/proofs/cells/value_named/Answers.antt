use Rattle.std.proofs.Common.{◌≡◌, ◌+◌, length, None, Some, option_map, ap, sym, ◌∙◌, refl, arith}
use Rattle.market_events.specs.WellFormed.{IsId}
use Rattle.market_events.proofs.NamedCells.Keyed.{none_some}
use Rattle.shipment_service.specs.Cells.{name_by, text_by, texts_in}
use Rattle.shipment_service.proofs.TableCells.{text-at}
use Rattle.shipment_service.proofs.Values.{found-at, found-none}
use Rattle.std.proofs.lemmas.Option.{slice_get_past, slice_get_read}
use Rattle.shipment_service.proofs.cells.value_named.Goals as goal

pub returns-in_default : goal.returns-in_default
returns-in_default c = λ small.
    found-none c.args.packages.now small c.args.name.now (λ n low is. none_some n (c.in_default.ensures.found n (omega (arith, low)) is))

pub returns-in_default-checked_sub : goal.returns-in_default-checked_sub
returns-in_default-checked_sub c = λ small.
    let none = c.in_default-checked_sub.ensures in
    let number : c.in-Some.number ≡ 0 = omega arith in
    found-at c.args.packages.now small c.args.name.now 0 (omega arith) (c.in-Some.ensures.named ∙ ap name_by number) None refl

pub returns-in_ok-text_of-in-Some-get : goal.returns-in_ok-text_of-in-Some-get
returns-in_ok-text_of-in-Some-get c = λ small.
    let ps = c.args.packages.now in
    let i = c.in-Some-checked_sub.index in
    let low : IsId c.in-Some.number = omega arith in
    let number : c.in-Some.number ≡ 1 + i = omega (arith, c.in-Some-checked_sub.ensures.0, c.in-Some-checked_sub.ensures.1) in
    let lookup = c.in-Some-get.ensures.lookup in
    found-at ps small c.args.name.now c.in-Some.number low c.in-Some.ensures.named (Some c.in_ok-text_of-in-Some-get.field-0)
    (ap Some c.in_ok-text_of-in-Some-get.ensures
    ∙ sym (ap (texts_in ps) number ∙ text-at ps i ∙ ap (option_map text_by) (slice_get_read ps (length ps) i c.in-Some-get.parcel.now refl lookup.3.0 lookup.1)))

pub returns-in-None : goal.returns-in-None
returns-in-None c = λ small.
    let ps = c.args.packages.now in
    let i = c.in-Some-checked_sub.index in
    let low : IsId c.in-Some.number = omega arith in
    let number : c.in-Some.number ≡ 1 + i = omega (arith, c.in-Some-checked_sub.ensures.0, c.in-Some-checked_sub.ensures.1) in
    found-at ps small c.args.name.now c.in-Some.number low c.in-Some.ensures.named None
    (sym (ap (texts_in ps) number ∙ text-at ps i ∙ ap (option_map text_by) (slice_get_past ps i c.in-None.ensures.lookup.3)))
