use Rattle.checkout_tests.proofs.OrderTesting.{greatest_lines-zero, greatest_lines-push}
use Rattle.checkout_tests.proofs.order_tests.greatest.Goals as goal

pub loop-product-init : goal.loop-product-init
loop-product-init c = cc greatest_lines-zero

pub loop-product-preserved : goal.loop-product-preserved
loop-product-preserved c =
    greatest_lines-push c.loop-product.lines.items c.push.new.self.items c.in_ok-line.field-0 c.loop-product.product c.loop-product.invariant c.in_ok-line.ensures c.in_ok-push.ensures.items
