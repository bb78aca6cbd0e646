-- Which bodies a link can carry.
use Rattle.std.specs.Prelude.{ℕ, Bool, false, ◌==◌, ◌||◌}
use Rattle.market_events.specs.declared.bodies.Body.{Body}
use Rattle.market_events.specs.declared.bodies.Body.TheVariants as body
use Rattle.market_events.specs.declared.links.Link.{Link}
use Rattle.market_events.specs.declared.links.Link.TheVariants as link
use Rattle.market_events.specs.declared.links.TheConstants.{PRODUCT_TO_CART, PRODUCT_TO_STOCK, CART_TO_STOCK}
use Rattle.market_events.specs.declared.links.TheConstants.{STOCK_TO_CART, STOCK_TO_ORDER, ORDER_TO_PAYMENT}
use Rattle.market_events.specs.declared.links.TheConstants.{ORDER_TO_SELLER, ORDER_TO_CART, PAYMENT_TO_STOCK}
use Rattle.market_events.specs.declared.links.TheConstants.{PAYMENT_TO_ORDER, PAYMENT_TO_SHIPMENT}
use Rattle.market_events.specs.declared.links.TheConstants.{PAYMENT_TO_CUSTOMER, PAYMENT_TO_SELLER}
use Rattle.market_events.specs.declared.links.TheConstants.{SHIPMENT_TO_ORDER, SHIPMENT_TO_SELLER}
use Rattle.market_events.specs.declared.links.TheConstants.{SHIPMENT_TO_CUSTOMER}
use Rattle.market_events.specs.declared.replies.Reply.{Reply}
use Rattle.market_events.specs.declared.replies.Reply.TheVariants as reply
use Rattle.market_events.specs.declared.replies.Rule.{Rule}
use Rattle.market_events.specs.declared.replies.Rule.TheVariants as rule
use Rattle.market_events.specs.Links.{cart_node, product_node, stock_node, order_node, payment_node}
use Rattle.market_events.specs.Links.{shipment_node, customer_node, seller_node, same_link, service_by_ask}

-- the service link carries the body
abbrev pub service_carries : Link → Body → Bool
service_carries on (body.Changed key version change) =
    same_link on PRODUCT_TO_CART || same_link on PRODUCT_TO_STOCK
service_carries on (body.Reserve checkout customer lines) = same_link on CART_TO_STOCK
service_carries on (body.ReserveFailed checkout key rule) = same_link on STOCK_TO_CART
service_carries on (body.StockConfirmed checkout customer lines) = same_link on STOCK_TO_ORDER
service_carries on (body.Invoice checkout customer lines total) =
    same_link on ORDER_TO_PAYMENT || same_link on ORDER_TO_SELLER
service_carries on (body.Ended checkout ending) = same_link on ORDER_TO_CART
service_carries on (body.Confirmed checkout customer lines total) =
    same_link on PAYMENT_TO_STOCK || same_link on PAYMENT_TO_ORDER || same_link on PAYMENT_TO_SHIPMENT
    || same_link on PAYMENT_TO_CUSTOMER || same_link on PAYMENT_TO_SELLER
service_carries on (body.Failed checkout customer rule) =
    same_link on PAYMENT_TO_STOCK || same_link on PAYMENT_TO_ORDER || same_link on PAYMENT_TO_CUSTOMER
    || same_link on PAYMENT_TO_SELLER
service_carries on (body.Shipped checkout) = same_link on SHIPMENT_TO_ORDER || same_link on SHIPMENT_TO_SELLER
service_carries on (body.Delivered items) =
    same_link on SHIPMENT_TO_ORDER || same_link on SHIPMENT_TO_SELLER || same_link on SHIPMENT_TO_CUSTOMER
service_carries on (body.Asked request) = false
service_carries on (body.Told id reply) = false

-- a service can refuse a request by this rule; lanes refuse by the other two
abbrev pub can_refuse : ℕ → Rule → Bool
can_refuse service rule.Exists = service == product_node
can_refuse service rule.Unknown =
    (service == product_node) || (service == cart_node) || (service == stock_node)
can_refuse service rule.Gone = (service == product_node) || (service == cart_node) || (service == stock_node)
can_refuse service rule.CartFull = service == cart_node
can_refuse service rule.NoLine = service == cart_node
can_refuse service rule.StockOver = service == stock_node
can_refuse service rule.NoOrder = service == order_node
can_refuse service rule.LaneFull = false
can_refuse service rule.RequestDiffers = false

-- some request for the service can have this reply
abbrev pub can_reply : ℕ → Reply → Bool
can_reply service (reply.Created version) = service == product_node
can_reply service (reply.Priced version) = service == product_node
can_reply service (reply.Deleted version) = service == product_node
can_reply service (reply.View version price freight) = service == cart_node
can_reply service (reply.Line quantity) = service == cart_node
can_reply service reply.Removed = service == cart_node
can_reply service (reply.Whole total) = service == cart_node
can_reply service (reply.Undone rule) = service == cart_node
can_reply service (reply.Stocked on_hand) = service == stock_node
can_reply service (reply.Level on_hand reserved) = service == stock_node
can_reply service (reply.OrderState status total) = service == order_node
can_reply service (reply.Card limit) = service == payment_node
can_reply service (reply.Delivered sellers packages) = service == shipment_node
can_reply service (reply.Customer confirmed failed delivered) = service == customer_node
can_reply service (reply.Dashboard point entries amount rows) = service == seller_node
can_reply service (reply.Refused rule) = can_refuse service rule

-- a lane asks a service what is for it
abbrev pub asked_of : ℕ → Body → Bool
asked_of service (body.Asked request) = service_by_ask request.ask == service
asked_of service other = false

-- a service tells a lane what it can reply
abbrev pub told_by : ℕ → Body → Bool
told_by service (body.Told id reply) = can_reply service reply
told_by service other = false

-- the link can carry the body
abbrev pub carries : Link → Body → Bool
carries (link.Service n) b = service_carries (link.Service n) b
carries (link.Asked lane service) b = asked_of service b
carries (link.Told service lane) b = told_by service b
