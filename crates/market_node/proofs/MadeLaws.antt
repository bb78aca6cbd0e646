-- What a service makes of an input that fits, its node can make.
use Rattle.std.proofs.Common.{◌≡◌, ℕ, ◌<◌, ◌≤◌, true, List, [], ◌∷◌, length, subst, sym, arith}
use Rattle.std.specs.List.{AllByRecursion}
use Rattle.market_events.specs.declared.bodies.Body.{Body}
use Rattle.market_events.specs.declared.links.Link.{Link}
use Rattle.market_events.specs.declared.links.Link.TheVariants as link
use Rattle.market_events.specs.AnswerShape.{IsAnswer, AreAnswers}
use Rattle.market_events.specs.Links.{sender_of}
use Rattle.market_events.specs.declared.roles.Role.{Role}
use Rattle.market_events.specs.declared.roles.TheConstants.{SERVICES}
use Rattle.market_events.specs.Services.{answers, fits, reactions, node_of, IsRunOf, most_steps}
use Rattle.market_events.specs.Steps.{Step, Sending}
use Rattle.market_events.specs.WellFormed.{IsBody}
use Rattle.market_events.proofs.Shapes.CartRuns.{cart_shape}
use Rattle.market_events.proofs.Shapes.AllRuns.{product_shape, payment_shape, customer_shape, order_shape, stock_shape, shipment_shape, seller_shape}
use Rattle.market_events.proofs.Values.Formed.{body_formed-IsBody}
use Rattle.market_events.proofs.Runs.Standing.{is_fit, reactions-fit}
use Rattle.market_history.specs.Journals.{AsksOwn}
use Rattle.market_node.specs.ServiceCores.{CanMake}

by_role : (role : Role) (steps : List Step) (from : Link) (b : Body) → IsRunOf role steps → length steps < most_steps → IsBody b → AreAnswers role b (answers role steps from b)
unfolding answers
by_role Role.Cart steps from b run few ok = cart_shape steps run b ok
by_role Role.Product steps from b run few ok = product_shape steps run few b ok
by_role Role.Stock steps from b run few ok = stock_shape steps run b ok
by_role Role.Order steps from b run few ok = order_shape steps run b ok
by_role Role.Payment steps from b run few ok = payment_shape steps b ok
by_role Role.Shipment steps from b run few ok = shipment_shape steps run b ok
by_role Role.Customer steps from b run few ok = customer_shape steps run few b ok
by_role Role.Seller steps from b run few ok = seller_shape steps run b ok

-- the nodes of services are below those of lanes
pub node_of-below : (role : Role) → node_of role < SERVICES
node_of-below Role.Cart = omega arith
node_of-below Role.Product = omega arith
node_of-below Role.Stock = omega arith
node_of-below Role.Order = omega arith
node_of-below Role.Payment = omega arith
node_of-below Role.Shipment = omega arith
node_of-below Role.Customer = omega arith
node_of-below Role.Seller = omega arith

-- only lanes ask
own_by_service : (to : Link) (b : Body) (node : ℕ) → sender_of to ≡ node → node < SERVICES → AsksOwn to b
own_by_service (link.Service n) b node from below = tt
own_by_service (link.Told service lane) b node from below = tt
own_by_service (link.Asked lane service) b node from below = absurd (omega arith)

each_can : (role : Role) (b : Body) (made : List Sending) → AllByRecursion (IsAnswer role b) made → AllByRecursion (CanMake (node_of role)) made
each_can role b [] all = tt
each_can role b (m ∷ more) all = (
  record {
    link = all.0.link;
    from = all.0.leaves;
    carried = all.0.carried;
    formed = all.0.formed;
    own = own_by_service m.0 m.1 (node_of role) all.0.leaves (node_of-below role);
  },
  each_can role b more all.1,
)

-- there are at most five, and the node can make each
pub record CanMakeAll (node : ℕ) (made : List Sending) : Type 0 where
  pub few : length made ≤ 5
  pub each : AllByRecursion (CanMake node) made

pub reactions_can : (role : Role) (steps : List Step) (from : Link) (b : Body) → IsRunOf role steps → fits role steps from b ≡ true → CanMakeAll (node_of role) (reactions role steps from b)
reactions_can role steps from b run fit =
    let parts = is_fit role steps from b fit in
    let shape = by_role role steps from b run parts.few (body_formed-IsBody b parts.formed) in
    subst (CanMakeAll (node_of role)) (sym (reactions-fit role steps from b fit)) (record { few = shape.few; each = each_can role b (answers role steps from b) shape.each })
