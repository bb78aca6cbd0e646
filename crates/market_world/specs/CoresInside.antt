-- What the cores of all nodes are seen as.
use Rattle.std.specs.Prelude.{◌≡◌, ◌∷◌, length}
use Rattle.market_events.specs.declared.lanes.TheConstants.{LANES}
use Rattle.market_world.specs.declared.cores.Cores.TheInside.{Inside}
use Rattle.market_events.specs.Links.{cart_node, product_node, stock_node, order_node, payment_node}
use Rattle.market_events.specs.Links.{shipment_node, customer_node, seller_node}
use Rattle.market_history.specs.Histories.{Histories}

-- the entries of each node, from node 0 on
abbrev pub entries_by_node : Inside → Histories
entries_by_node a =
    a.cart.entries ∷ a.product.entries ∷ a.stock.entries ∷ a.order.entries ∷ a.payment.entries
    ∷ a.shipment.entries ∷ a.customer.entries ∷ a.seller.entries
    ∷ a.lanes

-- each core is that of its node, and there is one of each lane
pub record AreInPlace (a : Inside) : Type 0 where
  pub cart : a.cart.node ≡ cart_node
  pub product : a.product.node ≡ product_node
  pub stock : a.stock.node ≡ stock_node
  pub order : a.order.node ≡ order_node
  pub payment : a.payment.node ≡ payment_node
  pub shipment : a.shipment.node ≡ shipment_node
  pub customer : a.customer.node ≡ customer_node
  pub seller : a.seller.node ≡ seller_node
  pub lanes : length a.lanes ≡ LANES
