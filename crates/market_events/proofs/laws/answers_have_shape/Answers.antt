-- What a service makes has the shape of answers.
use Rattle.std.proofs.Common.{◌<◌, List, length}
use Rattle.market_events.specs.declared.bodies.Body.{Body}
use Rattle.market_events.specs.declared.links.Link.{Link}
use Rattle.market_events.specs.AnswerShape.{AreAnswers}
use Rattle.market_events.specs.Services.{Role, answers, IsRunOf, most_steps}
use Rattle.market_events.specs.Steps.{Step}
use Rattle.market_events.specs.WellFormed.{IsBody}
use Rattle.market_events.proofs.Shapes.CartRuns.{cart_shape}
use Rattle.market_events.proofs.Shapes.AllRuns.{product_shape, payment_shape, customer_shape, order_shape, stock_shape, shipment_shape, seller_shape}
use Rattle.market_events.proofs.Values.Formed.{body_formed-IsBody}
use Rattle.market_events.proofs.Steps.Taken.{fits-parts}
use Rattle.market_events.proofs.laws.answers_have_shape.Goals as goal

-- each service answers in shape
by_role : (role : Role) (steps : List Step) (from : Link) (b : Body) → IsRunOf role steps → length steps < most_steps → IsBody b → AreAnswers role b (answers role steps from b)
unfolding answers
by_role Role.Cart steps from b run few ok = cart_shape steps run b ok
by_role Role.Product steps from b run few ok = product_shape steps run few b ok
by_role Role.Stock steps from b run few ok = stock_shape steps run b ok
by_role Role.Order steps from b run few ok = order_shape steps run b ok
by_role Role.Payment steps from b run few ok = payment_shape steps b ok
by_role Role.Shipment steps from b run few ok = shipment_shape steps run b ok
by_role Role.Customer steps from b run few ok = customer_shape steps run few b ok
by_role Role.Seller steps from b run few ok = seller_shape steps run b ok

pub returns : goal.returns
returns c = record {
  shape = λ role steps from b run fit.
      let parts = fits-parts role steps from b fit in
      by_role role steps from b run parts.few (body_formed-IsBody b parts.formed);
}
