-- By the lane of the request.
use Rattle.std.proofs.Common.{◌≡◌, IfOk, [], ◌∷◌, refl, ap, sym, ◌∙◌}
use Rattle.std.specs.Prelude.{slice_index_or}
use Rattle.market_events.specs.Links.{lane_node}
use Rattle.market_events.specs.Requests.{lane_of}
use Rattle.market_history.specs.Once.{give_of}
use Rattle.market_world.specs.Arriving.{CanGive, after_give_of}
use Rattle.market_world.specs.CoresInside.{entries_by_node}
use Rattle.market_world.proofs.AllNodes.{at_lane, set_lane}
use Rattle.market_world.proofs.Dispatch.{of_node, at_node, left_at}
use Rattle.market_world.proofs.cores.Cores.give.Goals as goal

pub give-requires-clause-can : goal.give-requires-clause-can
give-requires-clause-can c =
    at_node (entries_by_node c.self.inside) c.args.self.now c.self.view_is (lane_node (lane_of c.args.request.now.id)) (lane_node (lane_of c.args.request.now.id)) refl
    (lane_node (lane_of c.args.request.now.id)) (slice_index_or c.self.inside.lanes (lane_of c.args.request.now.id) []) refl
    (at_lane c.self.inside.cart.entries c.self.inside.product.entries c.self.inside.stock.entries c.self.inside.order.entries
    c.self.inside.payment.entries c.self.inside.shipment.entries c.self.inside.customer.entries c.self.inside.seller.entries c.self.inside.lanes (lane_of c.args.request.now.id)) (λ n entries. CanGive n entries c.args.request.now) c.requires

pub returns-clause-gives : goal.returns-clause-gives
returns-clause-gives c =
    of_node (entries_by_node c.self.inside) c.args.self.now c.self.view_is (lane_node (lane_of c.args.request.now.id)) (lane_node (lane_of c.args.request.now.id)) refl
    (lane_node (lane_of c.args.request.now.id)) (slice_index_or c.self.inside.lanes (lane_of c.args.request.now.id) []) refl
    (at_lane c.self.inside.cart.entries c.self.inside.product.entries c.self.inside.stock.entries c.self.inside.order.entries
    c.self.inside.payment.entries c.self.inside.shipment.entries c.self.inside.customer.entries c.self.inside.seller.entries c.self.inside.lanes (lane_of c.args.request.now.id))
    (λ n entries. IfOk c.give.result (λ seen. seen ≡ give_of entries c.args.request.now)) c.give.ensures.gives

pub returns-clause-after : goal.returns-clause-after
returns-clause-after c =
    left_at (entries_by_node c.self.inside) c.args.self.now c.self.view_is (lane_node (lane_of c.args.request.now.id)) (lane_node (lane_of c.args.request.now.id)) refl
    (lane_node (lane_of c.args.request.now.id)) (slice_index_or c.self.inside.lanes (lane_of c.args.request.now.id) []) refl
    (at_lane c.self.inside.cart.entries c.self.inside.product.entries c.self.inside.stock.entries c.self.inside.order.entries
    c.self.inside.payment.entries c.self.inside.shipment.entries c.self.inside.customer.entries c.self.inside.seller.entries c.self.inside.lanes (lane_of c.args.request.now.id))
    (after_give_of (lane_node (lane_of c.args.request.now.id)) (slice_index_or c.self.inside.lanes (lane_of c.args.request.now.id) []) c.args.request.now c.give.result) _
    (λ n entries. after_give_of n entries c.args.request.now c.give.result)
    (set_lane c.self.inside.cart.entries c.self.inside.product.entries c.self.inside.stock.entries c.self.inside.order.entries
    c.self.inside.payment.entries c.self.inside.shipment.entries c.self.inside.customer.entries c.self.inside.seller.entries c.self.inside.lanes (lane_of c.args.request.now.id)
    (after_give_of (lane_node (lane_of c.args.request.now.id)) (slice_index_or c.self.inside.lanes (lane_of c.args.request.now.id) []) c.args.request.now c.give.result)
    ∙ ap (λ lanes. c.self.inside.cart.entries ∷ c.self.inside.product.entries ∷ c.self.inside.stock.entries ∷ c.self.inside.order.entries ∷ c.self.inside.payment.entries ∷ c.self.inside.shipment.entries ∷ c.self.inside.customer.entries ∷ c.self.inside.seller.entries ∷ lanes) (sym c.give.ensures.after))
    refl
