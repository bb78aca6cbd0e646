use Rattle.basket_tests.proofs.CartTrialing.{stands_for_some}
use Rattle.basket_tests.proofs.cart_trial.Trial.cells.Goals as goal

pub cells-requires : goal.cells-requires
cells-requires c = stands_for_some c.args.self.now.carts c.args.self.now.shown c.args.self.now.next c.args.self.now.trial
