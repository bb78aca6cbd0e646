use Rattle.std.proofs.Common.{sym, subst}
use Rattle.cart_replica.specs.Copy.{IsCopyOf}
use Rattle.product_service.proofs.Values.{value_is, value_none}
use Rattle.product_service.proofs.service.ProductsTabled.value.Goals as goal

pub returns-clause-value : goal.returns-clause-value
returns-clause-value c =
    value_is c.args.self.now c.args.name.now c.in_ok-value.value
    (λ changes copied formed. c.in_ok-value.ensures changes (subst (λ es. IsCopyOf es changes) (sym c.self.view_is) copied) formed)
    c.value_or_empty.result.items c.value_or_empty.ensures

pub returns-clause-none : goal.returns-clause-none
returns-clause-none c =
    value_none c.args.self.now c.args.name.now c.in_ok-value.value
    (λ changes copied formed. c.in_ok-value.ensures changes (subst (λ es. IsCopyOf es changes) (sym c.self.view_is) copied) formed)
    c.value_or_empty.result.items c.value_or_empty.ensures
