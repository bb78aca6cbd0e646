use Rattle.std.proofs.Common.{rules, ◌≡◌, ◌<◌, true, arith}
use Rattle.basket_tests.proofs.CartTrialing.{from_lane, can_take, goes, trial_asked, fits_asked, asks_other, shows_asked}
use Rattle.basket_tests.proofs.cart_trial.Trial.ask.Goals as goal

pub step-requires : goal.step-requires
step-requires g c =
    let was = c.args.self.now in
    let small : c.args.self.now.next < 1000 = omega arith in
    let yes : c.is_for_cart.result ≡ true = search rules in
    can_take was.carts was.carts was.shown was.shown was.next from_lane (trial_asked was.next c.args.ask)
    (fits_asked was.carts was.shown was.next c.args.ask small (c.is_for_cart.ensures.formed yes) (c.is_for_cart.ensures.for_cart yes)) was.trial

pub invariant_of-self : goal.invariant_of-self
invariant_of-self g c =
    let was = c.args.self.now in
    let small : c.args.self.now.next < 1000 = omega arith in
    let yes : c.is_for_cart.result ≡ true = search rules in
    record {
      trial = goes was.carts c.step.new.service was.shown was.next from_lane (trial_asked was.next c.args.ask) c.step.result
          (fits_asked was.carts was.shown was.next c.args.ask small (c.is_for_cart.ensures.formed yes) (c.is_for_cart.ensures.for_cart yes))
          c.step.ensures.stands c.step.ensures.unchanged (asks_other was.next c.args.ask) (shows_asked was.carts was.shown was.next c.args.ask) was.trial;
    }
