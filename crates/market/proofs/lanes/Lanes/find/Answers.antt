use Rattle.std.proofs.Common.{IfSome, ap, sym, subst, ◌∙◌}
use Rattle.std.specs.List.{slice_get, AllByRecursion}
use Rattle.market.specs.Lanes.{kept_at, IsFormed}
use Rattle.market.proofs.Kept.Places.{find_at_place, find_nowhere, copied_at, formed_at, if_copied}
use Rattle.market.proofs.lanes.Lanes.find.Goals as goal

pub returns-in_err-place-clause-found : goal.returns-in_err-place-clause-found
returns-in_err-place-clause-found c =
    rw (c.from_residual.ensures, ← c.self.view_is) (sym (find_nowhere _ c.self.inside.kept.items (sym (c.self.invariant.found c.args.id) ∙ sym c.in_err-place.ensures.value)))

pub returns-clause-found : goal.returns-clause-found
returns-clause-found c =
    copied_at c.deref.result.now c.in_ok-place.field-0.now _ c.get-2.ensures.lookup
    ∙ ap (λ kept. slice_get kept c.in_ok-place.field-0.now) c.deref.ensures.value
    ∙ sym (find_at_place _ c.self.inside.kept.items _ (sym (c.self.invariant.found c.args.id) ∙ sym c.in_ok-place.ensures.value))
    ∙ ap (λ kept. kept_at kept c.args.id) c.self.view_is

pub returns-clause-formed : goal.returns-clause-formed
returns-clause-formed c =
    let all = subst (AllByRecursion IsFormed) c.self.view_is c.self.invariant.formed in
    if_copied IsFormed _ (subst (λ o. IfSome o IsFormed) (sym (returns-clause-found c)) (formed_at _ c.args.id all))
