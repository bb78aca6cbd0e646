-- After a run, what each service but the cart answers has the shape of answers.
use Rattle.std.proofs.Common.{◌<◌, List, length, arith}
use Rattle.market_events.specs.declared.bodies.Body.{Body}
use Rattle.market_events.specs.AnswerShape.{AreAnswers}
use Rattle.market_events.specs.Customers.{customer_sums, customer_rows}
use Rattle.market_events.specs.Orders.{order_sums, order_rows}
use Rattle.market_events.specs.Payments.{payment_sums, payment_rows}
use Rattle.market_events.specs.Products.{product_sums, product_rows}
use Rattle.market_events.specs.Sellers.{seller_changes, seller_sums, seller_rows}
use Rattle.market_events.specs.Services.{Role, IsRunOf, most_steps}
use Rattle.market_events.specs.Shipments.{open_packages, delivered_of, shipment_sums, shipment_rows}
use Rattle.market_events.specs.Steps.{Step}
use Rattle.market_events.specs.Stocks.{stock_sums, stock_taken_rows}
use Rattle.market_events.specs.WellFormed.{IsBody}
use Rattle.market_events.proofs.Shapes.Customers.{customer_answers}
use Rattle.market_events.proofs.Shapes.Orders.{order_answers}
use Rattle.market_events.proofs.Shapes.Payments.{payment_answers}
use Rattle.market_events.proofs.Shapes.Products.{product_answers}
use Rattle.market_events.proofs.Shapes.Sellers.{dashboard_of, seller_answers}
use Rattle.market_events.proofs.Shapes.Shipments.{shipment_answers}
use Rattle.market_events.proofs.Shapes.Stock.{stock_answers}
use Rattle.market_events.proofs.Runs.Bounds.{delivered_count-few}
use Rattle.market_events.proofs.Steps.Customers.{confirmed_count-few, failed_count-few}
use Rattle.market_events.proofs.Runs.Dashboards.{dashboard-formed}
use Rattle.market_events.proofs.Values.Formed.{items_decide, reply_decides}
use Rattle.market_events.proofs.Runs.Packages.{oldest_of-few, delivered_of-formed}
use Rattle.market_events.proofs.Runs.Products.{version_of-few}
use Rattle.market_events.proofs.Runs.Stock.{on_hand-le, reserved-le-on_hand}
use Rattle.market_events.proofs.Runs.Totals.{order_total-le}

-- products: there are fewer changes than steps
pub product_shape : (steps : List Step) → IsRunOf Role.Product steps → length steps < most_steps → (b : Body) → IsBody b → AreAnswers Role.Product b (product_rows (product_sums steps) b)
product_shape steps run few b ok = product_answers (product_sums steps) (λ key. omega (arith, few, version_of-few steps run key)) b ok

-- payments: nothing is counted
pub payment_shape : (steps : List Step) (b : Body) → IsBody b → AreAnswers Role.Payment b (payment_rows (payment_sums steps) b)
payment_shape steps b ok = payment_answers (payment_sums steps) b ok

-- customers: each step counts one payment, or a few packages
pub customer_shape : (steps : List Step) → IsRunOf Role.Customer steps → length steps < most_steps → (b : Body) → IsBody b → AreAnswers Role.Customer b (customer_rows (customer_sums steps) b)
customer_shape steps run few b ok =
    customer_answers (customer_sums steps) (λ customer. (omega (arith, few, confirmed_count-few steps customer), omega (arith, few, failed_count-few steps customer), omega (arith, few, delivered_count-few steps run customer))) b ok

-- orders: a total is that of well-formed lines
pub order_shape : (steps : List Step) → IsRunOf Role.Order steps → (b : Body) → IsBody b → AreAnswers Role.Order b (order_rows (order_sums steps) b)
order_shape steps run b ok = order_answers (order_sums steps) (λ id. order_total-le steps run id) b ok

-- stock: no more is reserved than is on hand, and no more is on hand than may be
pub stock_shape : (steps : List Step) → IsRunOf Role.Stock steps → (b : Body) → IsBody b → AreAnswers Role.Stock b (stock_taken_rows (stock_sums steps) b)
stock_shape steps run b ok =
    stock_answers (stock_sums steps) (λ key. on_hand-le steps run key) (λ key. omega (arith, on_hand-le steps run key, reserved-le-on_hand steps run key)) b ok

-- shipments: a delivery is for few sellers, and has packages of one checkout of each
pub shipment_shape : (steps : List Step) → IsRunOf Role.Shipment steps → (b : Body) → IsBody b → AreAnswers Role.Shipment b (shipment_rows (shipment_sums steps) b)
shipment_shape steps run b ok =
    shipment_answers (shipment_sums steps) (record {
      sellers = oldest_of-few (open_packages steps);
      items = λ some. (items_decide (delivered_of (open_packages steps))).0 (delivered_of-formed steps run some);
    }) b ok

-- sellers: there are no more changes than steps and items allow
pub seller_shape : (steps : List Step) → IsRunOf Role.Seller steps → (b : Body) → IsBody b → AreAnswers Role.Seller b (seller_rows (seller_sums steps) b)
seller_shape steps run b ok = seller_answers (seller_sums steps) (λ seller. (reply_decides (dashboard_of (seller_changes steps seller))).0 (dashboard-formed steps run seller)) b ok
