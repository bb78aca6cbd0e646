use Rattle.std.proofs.Common.{◌≡◌, ◌+◌, length}
use Rattle.market_events.specs.declared.links.TheConstants.{CART_TO_STOCK}
use Rattle.market_links.proofs.tests.window_of_a_sender.Given as goal

abbrev pub invariant-loop-number : goal.invariant-loop-number
invariant-loop-number g l = (l.sender.link ≡ CART_TO_STOCK) × (l.sender.acknowledged ≡ 0) × (length l.sender.under_way + 1 ≡ l.number)
