-- Service by service, and the lanes.
use Rattle.std.proofs.Common.{◌≡◌, IfOk, [], ◌∷◌, refl, ap, sym, ◌∙◌}
use Rattle.std.specs.Prelude.{slice_index_or}
use Rattle.market_events.specs.Links.{node_of, lane_node, receiver_of, cart_node, product_node, stock_node, order_node, payment_node, shipment_node, customer_node, seller_node}
use Rattle.market_events.specs.Offers.{offer_of}
use Rattle.market_history.specs.Causality.{events_taken}
use Rattle.market_history.specs.Histories.{journal_at, with_journal}
use Rattle.market_world.specs.Arriving.{CanOffer, after_offer_of}
use Rattle.market_world.specs.CoresInside.{entries_by_node}
use Rattle.market_world.proofs.AllNodes.{at_lane, set_lane}
use Rattle.market_world.proofs.Dispatch.{of_node, at_node, left_at}
use Rattle.market_world.proofs.cores.Cores.take.Goals as goal

pub take_at-requires-clause-can : goal.take_at-requires-clause-can
unfolding journal_at
take_at-requires-clause-can c =
    at_node (entries_by_node c.self.inside) c.args.self.now c.self.view_is cart_node (receiver_of c.args.event.now.link) (ap node_of (sym c.in-Service-Cart.field-0-is) ∙ c.in-Service-Cart.ensures.node ∙ c.receiver_of.ensures)
    c.self.inside.cart.node c.self.inside.cart.entries c.self.invariant.cart refl (λ n entries. CanOffer n entries c.args.event.now) c.requires

pub returns-in-Service-Cart-clause-offers : goal.returns-in-Service-Cart-clause-offers
unfolding journal_at
returns-in-Service-Cart-clause-offers c =
    of_node (entries_by_node c.self.inside) c.args.self.now c.self.view_is cart_node (receiver_of c.args.event.now.link) (ap node_of (sym c.in-Service-Cart.field-0-is) ∙ c.in-Service-Cart.ensures.node ∙ c.receiver_of.ensures)
    c.self.inside.cart.node c.self.inside.cart.entries c.self.invariant.cart refl
    (λ n entries. IfOk c.take_at.result (λ seen. seen ≡ offer_of n (events_taken entries) c.args.event.now)) c.take_at.ensures.offers

pub returns-in-Service-Cart-clause-after : goal.returns-in-Service-Cart-clause-after
unfolding journal_at with_journal
returns-in-Service-Cart-clause-after c =
    left_at (entries_by_node c.self.inside) c.args.self.now c.self.view_is cart_node (receiver_of c.args.event.now.link) (ap node_of (sym c.in-Service-Cart.field-0-is) ∙ c.in-Service-Cart.ensures.node ∙ c.receiver_of.ensures)
    c.self.inside.cart.node c.self.inside.cart.entries c.self.invariant.cart refl
    c.take_at.new.core.entries _ (λ n entries. after_offer_of n entries c.args.event.now c.take_at.result) refl c.take_at.ensures.after

pub take_at-requires-in-Service-Product-clause-can : goal.take_at-requires-in-Service-Product-clause-can
unfolding journal_at
take_at-requires-in-Service-Product-clause-can c =
    at_node (entries_by_node c.self.inside) c.args.self.now c.self.view_is product_node (receiver_of c.args.event.now.link) (ap node_of (sym c.in-Service-Product.field-0-is) ∙ c.in-Service-Product.ensures.node ∙ c.receiver_of.ensures)
    c.self.inside.product.node c.self.inside.product.entries c.self.invariant.product refl (λ n entries. CanOffer n entries c.args.event.now) c.requires

pub returns-in-Service-Product-clause-offers : goal.returns-in-Service-Product-clause-offers
unfolding journal_at
returns-in-Service-Product-clause-offers c =
    of_node (entries_by_node c.self.inside) c.args.self.now c.self.view_is product_node (receiver_of c.args.event.now.link) (ap node_of (sym c.in-Service-Product.field-0-is) ∙ c.in-Service-Product.ensures.node ∙ c.receiver_of.ensures)
    c.self.inside.product.node c.self.inside.product.entries c.self.invariant.product refl
    (λ n entries. IfOk c.take_at-in-Service-Product.result (λ seen. seen ≡ offer_of n (events_taken entries) c.args.event.now)) c.take_at-in-Service-Product.ensures.offers

pub returns-in-Service-Product-clause-after : goal.returns-in-Service-Product-clause-after
unfolding journal_at with_journal
returns-in-Service-Product-clause-after c =
    left_at (entries_by_node c.self.inside) c.args.self.now c.self.view_is product_node (receiver_of c.args.event.now.link) (ap node_of (sym c.in-Service-Product.field-0-is) ∙ c.in-Service-Product.ensures.node ∙ c.receiver_of.ensures)
    c.self.inside.product.node c.self.inside.product.entries c.self.invariant.product refl
    c.take_at-in-Service-Product.new.core.entries _ (λ n entries. after_offer_of n entries c.args.event.now c.take_at-in-Service-Product.result) refl c.take_at-in-Service-Product.ensures.after

pub take_at-requires-in-Service-Stock-clause-can : goal.take_at-requires-in-Service-Stock-clause-can
unfolding journal_at
take_at-requires-in-Service-Stock-clause-can c =
    at_node (entries_by_node c.self.inside) c.args.self.now c.self.view_is stock_node (receiver_of c.args.event.now.link) (ap node_of (sym c.in-Service-Stock.field-0-is) ∙ c.in-Service-Stock.ensures.node ∙ c.receiver_of.ensures)
    c.self.inside.stock.node c.self.inside.stock.entries c.self.invariant.stock refl (λ n entries. CanOffer n entries c.args.event.now) c.requires

pub returns-in-Service-Stock-clause-offers : goal.returns-in-Service-Stock-clause-offers
unfolding journal_at
returns-in-Service-Stock-clause-offers c =
    of_node (entries_by_node c.self.inside) c.args.self.now c.self.view_is stock_node (receiver_of c.args.event.now.link) (ap node_of (sym c.in-Service-Stock.field-0-is) ∙ c.in-Service-Stock.ensures.node ∙ c.receiver_of.ensures)
    c.self.inside.stock.node c.self.inside.stock.entries c.self.invariant.stock refl
    (λ n entries. IfOk c.take_at-in-Service-Stock.result (λ seen. seen ≡ offer_of n (events_taken entries) c.args.event.now)) c.take_at-in-Service-Stock.ensures.offers

pub returns-in-Service-Stock-clause-after : goal.returns-in-Service-Stock-clause-after
unfolding journal_at with_journal
returns-in-Service-Stock-clause-after c =
    left_at (entries_by_node c.self.inside) c.args.self.now c.self.view_is stock_node (receiver_of c.args.event.now.link) (ap node_of (sym c.in-Service-Stock.field-0-is) ∙ c.in-Service-Stock.ensures.node ∙ c.receiver_of.ensures)
    c.self.inside.stock.node c.self.inside.stock.entries c.self.invariant.stock refl
    c.take_at-in-Service-Stock.new.core.entries _ (λ n entries. after_offer_of n entries c.args.event.now c.take_at-in-Service-Stock.result) refl c.take_at-in-Service-Stock.ensures.after

pub take_at-requires-in-Service-Order-clause-can : goal.take_at-requires-in-Service-Order-clause-can
unfolding journal_at
take_at-requires-in-Service-Order-clause-can c =
    at_node (entries_by_node c.self.inside) c.args.self.now c.self.view_is order_node (receiver_of c.args.event.now.link) (ap node_of (sym c.in-Service-Order.field-0-is) ∙ c.in-Service-Order.ensures.node ∙ c.receiver_of.ensures)
    c.self.inside.order.node c.self.inside.order.entries c.self.invariant.order refl (λ n entries. CanOffer n entries c.args.event.now) c.requires

pub returns-in-Service-Order-clause-offers : goal.returns-in-Service-Order-clause-offers
unfolding journal_at
returns-in-Service-Order-clause-offers c =
    of_node (entries_by_node c.self.inside) c.args.self.now c.self.view_is order_node (receiver_of c.args.event.now.link) (ap node_of (sym c.in-Service-Order.field-0-is) ∙ c.in-Service-Order.ensures.node ∙ c.receiver_of.ensures)
    c.self.inside.order.node c.self.inside.order.entries c.self.invariant.order refl
    (λ n entries. IfOk c.take_at-in-Service-Order.result (λ seen. seen ≡ offer_of n (events_taken entries) c.args.event.now)) c.take_at-in-Service-Order.ensures.offers

pub returns-in-Service-Order-clause-after : goal.returns-in-Service-Order-clause-after
unfolding journal_at with_journal
returns-in-Service-Order-clause-after c =
    left_at (entries_by_node c.self.inside) c.args.self.now c.self.view_is order_node (receiver_of c.args.event.now.link) (ap node_of (sym c.in-Service-Order.field-0-is) ∙ c.in-Service-Order.ensures.node ∙ c.receiver_of.ensures)
    c.self.inside.order.node c.self.inside.order.entries c.self.invariant.order refl
    c.take_at-in-Service-Order.new.core.entries _ (λ n entries. after_offer_of n entries c.args.event.now c.take_at-in-Service-Order.result) refl c.take_at-in-Service-Order.ensures.after

pub take_at-requires-in-Service-Payment-clause-can : goal.take_at-requires-in-Service-Payment-clause-can
unfolding journal_at
take_at-requires-in-Service-Payment-clause-can c =
    at_node (entries_by_node c.self.inside) c.args.self.now c.self.view_is payment_node (receiver_of c.args.event.now.link) (ap node_of (sym c.in-Service-Payment.field-0-is) ∙ c.in-Service-Payment.ensures.node ∙ c.receiver_of.ensures)
    c.self.inside.payment.node c.self.inside.payment.entries c.self.invariant.payment refl (λ n entries. CanOffer n entries c.args.event.now) c.requires

pub returns-in-Service-Payment-clause-offers : goal.returns-in-Service-Payment-clause-offers
unfolding journal_at
returns-in-Service-Payment-clause-offers c =
    of_node (entries_by_node c.self.inside) c.args.self.now c.self.view_is payment_node (receiver_of c.args.event.now.link) (ap node_of (sym c.in-Service-Payment.field-0-is) ∙ c.in-Service-Payment.ensures.node ∙ c.receiver_of.ensures)
    c.self.inside.payment.node c.self.inside.payment.entries c.self.invariant.payment refl
    (λ n entries. IfOk c.take_at-in-Service-Payment.result (λ seen. seen ≡ offer_of n (events_taken entries) c.args.event.now)) c.take_at-in-Service-Payment.ensures.offers

pub returns-in-Service-Payment-clause-after : goal.returns-in-Service-Payment-clause-after
unfolding journal_at with_journal
returns-in-Service-Payment-clause-after c =
    left_at (entries_by_node c.self.inside) c.args.self.now c.self.view_is payment_node (receiver_of c.args.event.now.link) (ap node_of (sym c.in-Service-Payment.field-0-is) ∙ c.in-Service-Payment.ensures.node ∙ c.receiver_of.ensures)
    c.self.inside.payment.node c.self.inside.payment.entries c.self.invariant.payment refl
    c.take_at-in-Service-Payment.new.core.entries _ (λ n entries. after_offer_of n entries c.args.event.now c.take_at-in-Service-Payment.result) refl c.take_at-in-Service-Payment.ensures.after

pub take_at-requires-in-Service-Shipment-clause-can : goal.take_at-requires-in-Service-Shipment-clause-can
unfolding journal_at
take_at-requires-in-Service-Shipment-clause-can c =
    at_node (entries_by_node c.self.inside) c.args.self.now c.self.view_is shipment_node (receiver_of c.args.event.now.link) (ap node_of (sym c.in-Service-Shipment.field-0-is) ∙ c.in-Service-Shipment.ensures.node ∙ c.receiver_of.ensures)
    c.self.inside.shipment.node c.self.inside.shipment.entries c.self.invariant.shipment refl (λ n entries. CanOffer n entries c.args.event.now) c.requires

pub returns-in-Service-Shipment-clause-offers : goal.returns-in-Service-Shipment-clause-offers
unfolding journal_at
returns-in-Service-Shipment-clause-offers c =
    of_node (entries_by_node c.self.inside) c.args.self.now c.self.view_is shipment_node (receiver_of c.args.event.now.link) (ap node_of (sym c.in-Service-Shipment.field-0-is) ∙ c.in-Service-Shipment.ensures.node ∙ c.receiver_of.ensures)
    c.self.inside.shipment.node c.self.inside.shipment.entries c.self.invariant.shipment refl
    (λ n entries. IfOk c.take_at-in-Service-Shipment.result (λ seen. seen ≡ offer_of n (events_taken entries) c.args.event.now)) c.take_at-in-Service-Shipment.ensures.offers

pub returns-in-Service-Shipment-clause-after : goal.returns-in-Service-Shipment-clause-after
unfolding journal_at with_journal
returns-in-Service-Shipment-clause-after c =
    left_at (entries_by_node c.self.inside) c.args.self.now c.self.view_is shipment_node (receiver_of c.args.event.now.link) (ap node_of (sym c.in-Service-Shipment.field-0-is) ∙ c.in-Service-Shipment.ensures.node ∙ c.receiver_of.ensures)
    c.self.inside.shipment.node c.self.inside.shipment.entries c.self.invariant.shipment refl
    c.take_at-in-Service-Shipment.new.core.entries _ (λ n entries. after_offer_of n entries c.args.event.now c.take_at-in-Service-Shipment.result) refl c.take_at-in-Service-Shipment.ensures.after

pub take_at-requires-in-Service-Customer-clause-can : goal.take_at-requires-in-Service-Customer-clause-can
unfolding journal_at
take_at-requires-in-Service-Customer-clause-can c =
    at_node (entries_by_node c.self.inside) c.args.self.now c.self.view_is customer_node (receiver_of c.args.event.now.link) (ap node_of (sym c.in-Service-Customer.field-0-is) ∙ c.in-Service-Customer.ensures.node ∙ c.receiver_of.ensures)
    c.self.inside.customer.node c.self.inside.customer.entries c.self.invariant.customer refl (λ n entries. CanOffer n entries c.args.event.now) c.requires

pub returns-in-Service-Customer-clause-offers : goal.returns-in-Service-Customer-clause-offers
unfolding journal_at
returns-in-Service-Customer-clause-offers c =
    of_node (entries_by_node c.self.inside) c.args.self.now c.self.view_is customer_node (receiver_of c.args.event.now.link) (ap node_of (sym c.in-Service-Customer.field-0-is) ∙ c.in-Service-Customer.ensures.node ∙ c.receiver_of.ensures)
    c.self.inside.customer.node c.self.inside.customer.entries c.self.invariant.customer refl
    (λ n entries. IfOk c.take_at-in-Service-Customer.result (λ seen. seen ≡ offer_of n (events_taken entries) c.args.event.now)) c.take_at-in-Service-Customer.ensures.offers

pub returns-in-Service-Customer-clause-after : goal.returns-in-Service-Customer-clause-after
unfolding journal_at with_journal
returns-in-Service-Customer-clause-after c =
    left_at (entries_by_node c.self.inside) c.args.self.now c.self.view_is customer_node (receiver_of c.args.event.now.link) (ap node_of (sym c.in-Service-Customer.field-0-is) ∙ c.in-Service-Customer.ensures.node ∙ c.receiver_of.ensures)
    c.self.inside.customer.node c.self.inside.customer.entries c.self.invariant.customer refl
    c.take_at-in-Service-Customer.new.core.entries _ (λ n entries. after_offer_of n entries c.args.event.now c.take_at-in-Service-Customer.result) refl c.take_at-in-Service-Customer.ensures.after

pub take_at-requires-in-Service-Seller-clause-can : goal.take_at-requires-in-Service-Seller-clause-can
unfolding journal_at
take_at-requires-in-Service-Seller-clause-can c =
    at_node (entries_by_node c.self.inside) c.args.self.now c.self.view_is seller_node (receiver_of c.args.event.now.link) (ap node_of (sym c.in-Service-Seller.field-0-is) ∙ c.in-Service-Seller.ensures.node ∙ c.receiver_of.ensures)
    c.self.inside.seller.node c.self.inside.seller.entries c.self.invariant.seller refl (λ n entries. CanOffer n entries c.args.event.now) c.requires

pub returns-in-Service-Seller-clause-offers : goal.returns-in-Service-Seller-clause-offers
unfolding journal_at
returns-in-Service-Seller-clause-offers c =
    of_node (entries_by_node c.self.inside) c.args.self.now c.self.view_is seller_node (receiver_of c.args.event.now.link) (ap node_of (sym c.in-Service-Seller.field-0-is) ∙ c.in-Service-Seller.ensures.node ∙ c.receiver_of.ensures)
    c.self.inside.seller.node c.self.inside.seller.entries c.self.invariant.seller refl
    (λ n entries. IfOk c.take_at-in-Service-Seller.result (λ seen. seen ≡ offer_of n (events_taken entries) c.args.event.now)) c.take_at-in-Service-Seller.ensures.offers

pub returns-in-Service-Seller-clause-after : goal.returns-in-Service-Seller-clause-after
unfolding journal_at with_journal
returns-in-Service-Seller-clause-after c =
    left_at (entries_by_node c.self.inside) c.args.self.now c.self.view_is seller_node (receiver_of c.args.event.now.link) (ap node_of (sym c.in-Service-Seller.field-0-is) ∙ c.in-Service-Seller.ensures.node ∙ c.receiver_of.ensures)
    c.self.inside.seller.node c.self.inside.seller.entries c.self.invariant.seller refl
    c.take_at-in-Service-Seller.new.core.entries _ (λ n entries. after_offer_of n entries c.args.event.now c.take_at-in-Service-Seller.result) refl c.take_at-in-Service-Seller.ensures.after

pub take-requires-clause-can : goal.take-requires-clause-can
take-requires-clause-can c =
    at_node (entries_by_node c.self.inside) c.args.self.now c.self.view_is (lane_node c.in-Lane.lane) (receiver_of c.args.event.now.link) (c.in-Lane.ensures.node ∙ c.receiver_of.ensures)
    (lane_node c.in-Lane.lane) (slice_index_or c.self.inside.lanes c.in-Lane.lane []) refl
    (at_lane c.self.inside.cart.entries c.self.inside.product.entries c.self.inside.stock.entries c.self.inside.order.entries
    c.self.inside.payment.entries c.self.inside.shipment.entries c.self.inside.customer.entries c.self.inside.seller.entries c.self.inside.lanes c.in-Lane.lane) (λ n entries. CanOffer n entries c.args.event.now) c.requires

pub returns-in-Lane-clause-offers : goal.returns-in-Lane-clause-offers
returns-in-Lane-clause-offers c =
    of_node (entries_by_node c.self.inside) c.args.self.now c.self.view_is (lane_node c.in-Lane.lane) (receiver_of c.args.event.now.link) (c.in-Lane.ensures.node ∙ c.receiver_of.ensures)
    (lane_node c.in-Lane.lane) (slice_index_or c.self.inside.lanes c.in-Lane.lane []) refl
    (at_lane c.self.inside.cart.entries c.self.inside.product.entries c.self.inside.stock.entries c.self.inside.order.entries
    c.self.inside.payment.entries c.self.inside.shipment.entries c.self.inside.customer.entries c.self.inside.seller.entries c.self.inside.lanes c.in-Lane.lane)
    (λ n entries. IfOk c.take.result (λ seen. seen ≡ offer_of n (events_taken entries) c.args.event.now)) c.take.ensures.offers

pub returns-in-Lane-clause-after : goal.returns-in-Lane-clause-after
returns-in-Lane-clause-after c =
    left_at (entries_by_node c.self.inside) c.args.self.now c.self.view_is (lane_node c.in-Lane.lane) (receiver_of c.args.event.now.link) (c.in-Lane.ensures.node ∙ c.receiver_of.ensures)
    (lane_node c.in-Lane.lane) (slice_index_or c.self.inside.lanes c.in-Lane.lane []) refl
    (at_lane c.self.inside.cart.entries c.self.inside.product.entries c.self.inside.stock.entries c.self.inside.order.entries
    c.self.inside.payment.entries c.self.inside.shipment.entries c.self.inside.customer.entries c.self.inside.seller.entries c.self.inside.lanes c.in-Lane.lane)
    (after_offer_of (lane_node c.in-Lane.lane) (slice_index_or c.self.inside.lanes c.in-Lane.lane []) c.args.event.now c.take.result) _
    (λ n entries. after_offer_of n entries c.args.event.now c.take.result)
    (set_lane c.self.inside.cart.entries c.self.inside.product.entries c.self.inside.stock.entries c.self.inside.order.entries
    c.self.inside.payment.entries c.self.inside.shipment.entries c.self.inside.customer.entries c.self.inside.seller.entries c.self.inside.lanes c.in-Lane.lane
    (after_offer_of (lane_node c.in-Lane.lane) (slice_index_or c.self.inside.lanes c.in-Lane.lane []) c.args.event.now c.take.result)
    ∙ ap (λ lanes. c.self.inside.cart.entries ∷ c.self.inside.product.entries ∷ c.self.inside.stock.entries ∷ c.self.inside.order.entries ∷ c.self.inside.payment.entries ∷ c.self.inside.shipment.entries ∷ c.self.inside.customer.entries ∷ c.self.inside.seller.entries ∷ lanes) (sym c.take.ensures.after))
    refl
