use Rattle.std.proofs.Common.{rules, ◌≡◌, ◌<◌, true, false, refl, ap, sym, ◌∙◌, arith}
use Rattle.std.proofs.lemmas.Bool.Decides.{nat_tests}
use Rattle.market_events.specs.declared.bodies.Body.TheVariants.{Changed}
use Rattle.market_events.specs.Formed.{id_formed}
use Rattle.market_events.specs.Services.{change_fits}
use Rattle.market_events.specs.declared.links.TheConstants.{PRODUCT_TO_CART}
use Rattle.basket_tests.proofs.CartTrialing.{can_take, goes_on, fits_changed, shows_changed}
use Rattle.basket_tests.proofs.cart_trial.Trial.change.Goals as goal

pub step-requires : goal.step-requires
step-requires g c =
    let was = c.args.self in
    let small : c.args.self.next < 1000 = omega arith in
    let yes : c.is_due.result ≡ true = search rules in
    let counted : id_formed c.args.version ≡ true = grind (arith, nat_tests, c.ranges.version.fits) in
    can_take was.carts was.carts was.shown was.shown was.next PRODUCT_TO_CART (Changed c.args.key c.args.version c.args.change)
    (fits_changed was.carts was.shown was.next c.args.key c.args.version c.args.change small (c.is_due.ensures.known yes) counted (c.is_due.ensures.formed yes)
    (ap (λ look. change_fits look c.args.version c.args.change) (sym c.look.ensures.value) ∙ c.is_due.ensures.due yes)) was.trial

pub invariant_of-result : goal.invariant_of-result
invariant_of-result g c =
    let was = c.args.self in
    let small : c.args.self.next < 1000 = omega arith in
    let yes : c.is_due.result ≡ true = search rules in
    let counted : id_formed c.args.version ≡ true = grind (arith, nat_tests, c.ranges.version.fits) in
    record {
      trial = goes_on was.carts c.step.new.service was.shown c.apply.new.self was.next PRODUCT_TO_CART (Changed c.args.key c.args.version c.args.change)
          (fits_changed was.carts was.shown was.next c.args.key c.args.version c.args.change small (c.is_due.ensures.known yes) counted (c.is_due.ensures.formed yes)
          (ap (λ look. change_fits look c.args.version c.args.change) (sym c.look.ensures.value) ∙ c.is_due.ensures.due yes))
          c.in_ok-outs.ensures.stands (λ number above. refl)
          (shows_changed was.carts was.shown c.apply.new.self was.next c.args.key c.args.version c.args.change c.in_ok-apply.ensures.copies) was.trial;
    }
