-- Service by service.
use Rattle.std.proofs.Common.{◌≡◌, IfOk, refl, ap, sym, ◌∙◌, subst}
use Rattle.market_events.specs.declared.roles.Role.{Role}
use Rattle.market_events.specs.Links.{node_of, cart_node, product_node, stock_node, order_node, payment_node, shipment_node, customer_node, seller_node}
use Rattle.market_history.specs.Histories.{journal_at}
use Rattle.market_world.specs.CoresInside.{entries_by_node}
use Rattle.market_world.proofs.Dispatch.{cells_there}
use Rattle.market_world.proofs.cores.Cores.cells.Goals as goal

pub returns-in-Service-Cart : goal.returns-in-Service-Cart
unfolding journal_at
returns-in-Service-Cart c =
    subst (λ all. IfOk c.cells.result (λ cells. cells.items ≡ all))
    (cells_there (entries_by_node c.self.inside) c.args.self.now c.self.view_is cart_node c.args.node (ap node_of (sym c.in-Service-Cart.field-0-is) ∙ c.in-Service-Cart.ensures.node) Role.Cart refl refl refl c.self.inside.cart.entries refl)
    c.cells.ensures

pub returns-in-Service-Product : goal.returns-in-Service-Product
unfolding journal_at
returns-in-Service-Product c =
    subst (λ all. IfOk c.cells-in-Service-Product.result (λ cells. cells.items ≡ all))
    (cells_there (entries_by_node c.self.inside) c.args.self.now c.self.view_is product_node c.args.node (ap node_of (sym c.in-Service-Product.field-0-is) ∙ c.in-Service-Product.ensures.node) Role.Product refl refl refl c.self.inside.product.entries refl)
    c.cells-in-Service-Product.ensures

pub returns-in-Service-Stock : goal.returns-in-Service-Stock
unfolding journal_at
returns-in-Service-Stock c =
    subst (λ all. IfOk c.cells-in-Service-Stock.result (λ cells. cells.items ≡ all))
    (cells_there (entries_by_node c.self.inside) c.args.self.now c.self.view_is stock_node c.args.node (ap node_of (sym c.in-Service-Stock.field-0-is) ∙ c.in-Service-Stock.ensures.node) Role.Stock refl refl refl c.self.inside.stock.entries refl)
    c.cells-in-Service-Stock.ensures

pub returns-in-Service-Order : goal.returns-in-Service-Order
unfolding journal_at
returns-in-Service-Order c =
    subst (λ all. IfOk c.cells-in-Service-Order.result (λ cells. cells.items ≡ all))
    (cells_there (entries_by_node c.self.inside) c.args.self.now c.self.view_is order_node c.args.node (ap node_of (sym c.in-Service-Order.field-0-is) ∙ c.in-Service-Order.ensures.node) Role.Order refl refl refl c.self.inside.order.entries refl)
    c.cells-in-Service-Order.ensures

pub returns-in-Service-Payment : goal.returns-in-Service-Payment
unfolding journal_at
returns-in-Service-Payment c =
    subst (λ all. IfOk c.cells-in-Service-Payment.result (λ cells. cells.items ≡ all))
    (cells_there (entries_by_node c.self.inside) c.args.self.now c.self.view_is payment_node c.args.node (ap node_of (sym c.in-Service-Payment.field-0-is) ∙ c.in-Service-Payment.ensures.node) Role.Payment refl refl refl c.self.inside.payment.entries refl)
    c.cells-in-Service-Payment.ensures

pub returns-in-Service-Shipment : goal.returns-in-Service-Shipment
unfolding journal_at
returns-in-Service-Shipment c =
    subst (λ all. IfOk c.cells-in-Service-Shipment.result (λ cells. cells.items ≡ all))
    (cells_there (entries_by_node c.self.inside) c.args.self.now c.self.view_is shipment_node c.args.node (ap node_of (sym c.in-Service-Shipment.field-0-is) ∙ c.in-Service-Shipment.ensures.node) Role.Shipment refl refl refl c.self.inside.shipment.entries refl)
    c.cells-in-Service-Shipment.ensures

pub returns-in-Service-Customer : goal.returns-in-Service-Customer
unfolding journal_at
returns-in-Service-Customer c =
    subst (λ all. IfOk c.cells-in-Service-Customer.result (λ cells. cells.items ≡ all))
    (cells_there (entries_by_node c.self.inside) c.args.self.now c.self.view_is customer_node c.args.node (ap node_of (sym c.in-Service-Customer.field-0-is) ∙ c.in-Service-Customer.ensures.node) Role.Customer refl refl refl c.self.inside.customer.entries refl)
    c.cells-in-Service-Customer.ensures

pub returns-in-Service-Seller : goal.returns-in-Service-Seller
unfolding journal_at
returns-in-Service-Seller c =
    subst (λ all. IfOk c.cells-in-Service-Seller.result (λ cells. cells.items ≡ all))
    (cells_there (entries_by_node c.self.inside) c.args.self.now c.self.view_is seller_node c.args.node (ap node_of (sym c.in-Service-Seller.field-0-is) ∙ c.in-Service-Seller.ensures.node) Role.Seller refl refl refl c.self.inside.seller.entries refl)
    c.cells-in-Service-Seller.ensures
