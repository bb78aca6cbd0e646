use Rattle.std.proofs.Common.{◌≡◌, [], ◌∷◌, ◌++◌, Some, None, sym, ap, ap₂, ◌∙◌}
use Rattle.std.proofs.lemmas.List.{map-append}
use Rattle.csv.specs.Records.{field_at, fields_of}
use Rattle.market.proofs.Reading.Fields.{take_field, take_all_fields}
use Rattle.market.proofs.records.fields.Goals as goal

pub loop-field-preserved : goal.loop-field-preserved
loop-field-preserved c =
    let inv = c.loop-field.invariant in
    let steps = c.in-Some.ensures.steps in
    let at = c.loop-field.field-iterator.at in
    let here : field_at (fields_of c.args.row.now) at ≡ Some c.in-Some.field.now = sym (rw inv.0 at steps.1) in
    let all = map-append (λ field. field.items) c.loop-field.fields.items (c.in_ok-from_slice.field-0 ∷ []) in (
      ap (λ row. row.now) steps.0 ∙ inv.0,
      rw (c.in_ok-push.ensures.items, steps.2, take_field (fields_of c.args.row.now) at c.in-Some.field.now here)
          (all ∙ ap₂ (λ xs x. xs ++ x ∷ []) inv.1 c.in_ok-from_slice.ensures.items),
    )

pub returns : goal.returns
returns c =
    let inv = c.loop-field.invariant in
    let steps = c.in-None.ensures.steps in
    let none : field_at (fields_of c.args.row.now) c.loop-field.field-iterator.at ≡ None = sym (rw inv.0 at steps.1) in
    inv.1 ∙ take_all_fields (fields_of c.args.row.now) c.loop-field.field-iterator.at none
