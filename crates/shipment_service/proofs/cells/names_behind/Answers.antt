use Rattle.std.proofs.Common.{◌+◌, [], ◌∷◌, ◌++◌, ap₂, sym, subst, ◌∙◌, arith}
use Rattle.std.specs.List.{IsDistinct}
use Rattle.market_events.specs.Standing.{same_name}
use Rattle.shipment_service.proofs.Touches.{names-more, range-differ}
use Rattle.shipment_service.proofs.cells.names_behind.Goals as goal

pub loop-k-preserved : goal.loop-k-preserved
loop-k-preserved c =
    c.in_ok-push.ensures.items ∙ ap₂ (λ ns n. ns ++ n ∷ []) c.loop-k.invariant c.in_ok-name_of.ensures ∙ sym (names-more (c.args.before + 1) c.loop-k.k)

pub returns-clause-differ : goal.returns-clause-differ
returns-clause-differ c = subst (IsDistinct same_name) (sym c.loop-k.invariant) (range-differ (c.args.before + 1) c.loop-k.k (omega (arith, c.requires, c.loop-k.auto.k-end)))
