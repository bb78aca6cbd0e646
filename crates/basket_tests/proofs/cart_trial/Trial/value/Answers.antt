use Rattle.basket_tests.proofs.CartTrialing.{stands_for_some}
use Rattle.basket_tests.proofs.cart_trial.Trial.value.Goals as goal

pub value-requires : goal.value-requires
value-requires c = stands_for_some c.args.self.now.carts c.args.self.now.shown c.args.self.now.next c.args.self.now.trial
