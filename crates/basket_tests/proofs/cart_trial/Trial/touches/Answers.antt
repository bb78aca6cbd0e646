use Rattle.std.proofs.Common.{rules, ◌≡◌, ◌<◌, true, arith}
use Rattle.basket_tests.proofs.CartTrialing.{from_lane, can_take, trial_asked, fits_asked}
use Rattle.basket_tests.proofs.cart_trial.Trial.touches.Goals as goal

pub touches-requires : goal.touches-requires
touches-requires g c =
    let was = c.args.self.now in
    let small : c.args.self.now.next < 1000 = omega arith in
    let yes : c.is_for_cart.result ≡ true = search rules in
    can_take was.carts was.carts was.shown was.shown was.next from_lane (trial_asked was.next c.args.ask)
    (fits_asked was.carts was.shown was.next c.args.ask small (c.is_for_cart.ensures.formed yes) (c.is_for_cart.ensures.for_cart yes)) was.trial
